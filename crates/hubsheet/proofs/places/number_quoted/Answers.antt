-- `number_quoted`: by what the byte is. Assumes nothing.
use Rattle.std.proofs.Common.{arith, eq-eqb, ne_eqb}
use Rattle.lists.specs.Basics.{when◌then◌else◌}
use Rattle.sheets.specs.Reader.{number_quoted}
use Rattle.hubsheet.proofs.places.number_quoted.Goals as goal

pub returns-in-34 : goal.returns-in-34
unfolding number_quoted when◌then◌else◌
returns-in-34 c = simp (eq-eqb _ _ c.in-34.is)

pub returns-in_default : goal.returns-in_default
unfolding number_quoted when◌then◌else◌
returns-in_default c = simp (c.if-is_digit.true, ← c.is_digit.ensures, ne_eqb c.args.b 34 (omega arith))

pub returns-in_default-2 : goal.returns-in_default-2
unfolding number_quoted when◌then◌else◌
returns-in_default-2 c = simp (c.if-is_digit.false, ← c.is_digit.ensures, ne_eqb c.args.b 34 (omega arith))
