-- `Headed::rows_ok`: the tests of the rows before i, and their identifiers copied out. Assumes nothing.
use mathlib.Core.Path.{sym, ◌∙◌, ap, ap₂}
use mathlib.Core.Bool.{◌&&◌}
use native.Mathlib.Omega.{arith}
use lib.ListN.{get_or}
use Rattle.lists.specs.Members.{filled}
use Rattle.lists.specs.Merge.{every_none, every_more}
use Rattle.protocol.specs.Record.{row_start, row_from}
use Rattle.protocol.specs.WellFormed.{row_ok}
use Rattle.wellformed.proofs.content.Headed.rows_ok.Goals as goal

pub loop-i-init : goal.loop-i-init
loop-i-init c = (sym (every_none _ _), λ k l. absurd (omega arith))

pub loop-i-preserved : goal.loop-i-preserved
loop-i-preserved c =
    let l = c.loop-i in
    let a = c.args in
    let h = c.row_at-h in (
      ap₂ (λ x y. x && y) l.invariant.0 (c.row_ok-ok.ensures ∙ ap (row_ok a.self.now.nodes) h.ensures) ∙ sym (every_more (row_ok a.self.now.nodes) (λ j. row_from a.self.now.words.now (row_start j)) l.i),
      filled l.ids l.i h.result.identifier 0 (λ k. get_or a.self.now.words.now (row_start k) 0) (omega arith) (ap (λ r. r.identifier) h.ensures) l.invariant.1,
    )
