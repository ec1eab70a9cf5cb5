-- `quoted`: by what the byte is. Assumes nothing.
use Rattle.std.proofs.Common.{arith, eq-eqb, ne_eqb}
use Rattle.lists.specs.Basics.{when◌then◌else◌}
use Rattle.sheets.specs.Reader.{quoted}
use Rattle.hubsheet.proofs.places.quoted.Goals as goal

pub returns-in-34 : goal.returns-in-34
unfolding quoted when◌then◌else◌
returns-in-34 c = simp (eq-eqb _ _ c.in-34.is)

pub returns-in-0 : goal.returns-in-0
unfolding quoted when◌then◌else◌
returns-in-0 c = simp (eq-eqb _ _ c.in-0.is, ne_eqb c.args.b 34 (omega arith))

pub returns-in_default : goal.returns-in_default
unfolding quoted when◌then◌else◌
returns-in_default c = simp (ne_eqb c.args.b 34 (omega arith), ne_eqb c.args.b 0 (omega arith))
