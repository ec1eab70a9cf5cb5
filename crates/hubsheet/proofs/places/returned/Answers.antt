-- `returned`: LF, or no sheet. Assumes nothing.
use Rattle.std.proofs.Common.{eq-eqb, ne_eqb}
use Rattle.lists.specs.Basics.{when◌then◌else◌}
use Rattle.sheets.specs.Reader.{next}
use Rattle.hubsheet.proofs.places.returned.Goals as goal

pub returns-then-b-eq-LF : goal.returns-then-b-eq-LF
unfolding next when◌then◌else◌
returns-then-b-eq-LF c = simp (eq-eqb _ _ c.if-b-eq-LF.true)

pub returns-else-b-eq-LF : goal.returns-else-b-eq-LF
unfolding next when◌then◌else◌
returns-else-b-eq-LF c = simp (ne_eqb _ _ c.if-b-eq-LF.false)
