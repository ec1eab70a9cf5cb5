-- `responsible`: at each return the tests on the way decide the definition. Assumes nothing.
use native.Mathlib.Omega.{arith}
use Rattle.protocol.specs.Routing.{responsible}
use Rattle.routing.proofs.rows.responsible.Goals as goal

pub returns-in-2 : goal.returns-in-2
unfolding responsible
returns-in-2 c = grind arith

pub returns-in_default : goal.returns-in_default
unfolding responsible
returns-in_default c = grind arith

pub returns-in_default-2 : goal.returns-in_default-2
unfolding responsible
returns-in_default-2 c = grind arith
