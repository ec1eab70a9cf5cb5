-- `scan_name`: what is counted of the bytes of the name so far. Assumes nothing.
use Rattle.std.proofs.Common.{◌≡◌, ◌∙◌, nat_eq, get_or, length, arith}
use Rattle.sheets.specs.Grammar.{quote}
use Rattle.sheet_writing.specs.Scanning.{byte_one, one_small, scan_none, scan_zero, scan_more, scan_out}
use Rattle.sheet_writing.proofs.names.scan_name.Goals as goal

pub loop-i-init : goal.loop-i-init
loop-i-init c = scan_none c.args.names.now

pub returns-then-b-eq0 : goal.returns-then-b-eq0
returns-then-b-eq0 c = let l = c.loop-i in scan_zero c.args.names.now l.i l.quotes l.plain l.invariant (omega arith) c.if-b-eq0.true

pub overflow_add-quotes : goal.overflow_add-quotes
overflow_add-quotes c =
    let l = c.loop-i in
    let t = nat_eq (get_or c.args.names.now l.i 0) quote in
    let e = c.from-quotes.ensures ∙ byte_one t in
    let h = one_small t in
    let k = l.invariant.few in
    omega arith

pub loop-i-preserved : goal.loop-i-preserved
loop-i-preserved c =
    let l = c.loop-i in
    simp (c.bare-plain.ensures, c.from-quotes.ensures, byte_one) (scan_more c.args.names.now l.i l.quotes l.plain l.invariant (omega arith) c.if-b-eq0.false)

pub returns : goal.returns
returns c =
    let l = c.loop-i in
    let e : l.i ≡ length c.args.names.now = omega arith in
    rw (← e) (scan_out c.args.names.now l.i l.quotes l.plain l.invariant e)
