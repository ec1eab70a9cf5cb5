-- `row_end`: CR, or no sheet. Assumes nothing.
use Rattle.std.proofs.Common.{eq-eqb, ne_eqb}
use Rattle.lists.specs.Basics.{when◌then◌else◌}
use Rattle.sheets.specs.Reader.{row_end}
use Rattle.hubsheet.proofs.places.row_end.Goals as goal

pub returns-then-b-eq-CR : goal.returns-then-b-eq-CR
unfolding row_end when◌then◌else◌
returns-then-b-eq-CR c = simp (eq-eqb _ _ c.if-b-eq-CR.true)

pub returns-else-b-eq-CR : goal.returns-else-b-eq-CR
unfolding row_end when◌then◌else◌
returns-else-b-eq-CR c = simp (ne_eqb _ _ c.if-b-eq-CR.false)
