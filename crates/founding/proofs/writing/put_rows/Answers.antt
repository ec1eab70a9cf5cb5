-- `founding::writing::put_rows` meets its contract: the rows of the first i identifiers are put so far. Assumes nothing.
use native.Mathlib.Omega.{arith}
use mathlib.Core.Path.{◌≡◌, ◌∙◌, ap}
use lib.ListN.{length, take}
use lib.Seq.{take-length}
use Rattle.lists.specs.Splice.{splice}
use Rattle.protocol.specs.Record.{row_start}
use Rattle.founding.specs.Laws.{outsiders, rows_none, rows_more}
use Rattle.founding.proofs.writing.put_rows.Goals as goal

pub loop-i-init : goal.loop-i-init
loop-i-init c = rows_none c.args.w.now c.args.identifiers.now

pub loop-i-preserved : goal.loop-i-preserved
loop-i-preserved c =
    let a = c.args in
    let l = c.loop-i in
    c.put_row.ensures ∙ rw (l.invariant, c.outside_row.ensures) (rows_more a.w.now a.identifiers.now l.i (omega arith) (omega arith))

pub returns : goal.returns
returns c =
    let ids = c.args.identifiers.now in
    let e : c.loop-i.i ≡ length ids = omega arith in
    c.loop-i.invariant ∙ ap (λ l. splice c.args.w.now (row_start 0) (outsiders l)) (ap (λ k. take k ids) e ∙ take-length ids)
