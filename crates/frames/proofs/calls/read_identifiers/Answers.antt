-- `read_identifiers`: the first i identifiers are read so far. Assumes nothing.
use native.Mathlib.Omega.{arith}
use mathlib.Core.Path.{◌≡◌, sym, ap, ◌∙◌}
use Prim.Native.Nat.{◌+◌, ◌-◌, ◌*◌}
use lib.ListN.{length, take, drop}
use lib.Seq.{take_all}
use Rattle.protocol.specs.Frames.{number, read8}
use Rattle.frames.specs.Digits.{number_of_part}
use Rattle.frames.specs.Founding.{identifiers_none, identifiers_more}
use Rattle.frames.proofs.calls.read_identifiers.Goals as goal

pub loop-i-init : goal.loop-i-init
loop-i-init c = identifiers_none c.args.line.now c.args.ids.now

pub loop-i-preserved : goal.loop-i-preserved
loop-i-preserved c =
    let l = c.loop-i in
    let line = c.args.line.now in
    let at = 2 + 8 * l.i in
    let eight : at + 8 - at ≡ 8 = omega arith in
    let e = c.number.ensures ∙ ap (λ n. number (take n (drop at line))) eight in
    let read : c.number.result ≡ read8 line at = sym (number_of_part line at 8 c.number.result e (omega arith)) in
    rw read (identifiers_more line l.ids l.i (omega arith) l.invariant)

pub returns : goal.returns
returns c =
    let l = c.loop-i in
    let n = length c.args.ids.now in
    let e : l.i ≡ n = omega arith in
    sym (take_all n l.ids (omega arith)) ∙ rw e at l.invariant
