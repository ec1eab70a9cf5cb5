-- `unquoted`: by what the byte is. Assumes nothing.
use Rattle.std.proofs.Common.{arith, eq-eqb, ne_eqb}
use Rattle.lists.specs.Basics.{when◌then◌else◌}
use Rattle.sheets.specs.Reader.{unquoted}
use Rattle.hubsheet.proofs.places.unquoted.Goals as goal

pub returns-in-44 : goal.returns-in-44
unfolding unquoted when◌then◌else◌
returns-in-44 c = simp (eq-eqb _ _ c.in-44.is)

pub returns-in-0 : goal.returns-in-0
unfolding unquoted when◌then◌else◌
returns-in-0 c = simp (eq-eqb _ _ c.in-0.is, ne_eqb c.args.b 44 (omega arith))

pub returns-in_default : goal.returns-in_default
unfolding unquoted when◌then◌else◌
returns-in_default c = simp (c.if-bare.true, ← c.bare.ensures, ne_eqb c.args.b 44 (omega arith), ne_eqb c.args.b 0 (omega arith))

pub returns-in_default-2 : goal.returns-in_default-2
unfolding unquoted when◌then◌else◌
returns-in_default-2 c = simp (c.if-bare.false, ← c.bare.ensures, ne_eqb c.args.b 44 (omega arith), ne_eqb c.args.b 0 (omega arith))
