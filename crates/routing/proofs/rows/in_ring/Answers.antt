-- `in_ring`: at each return the tests on the way decide the definition. Assumes nothing.
use native.Mathlib.Omega.{arith}
use Rattle.protocol.specs.Routing.{in_ring}
use Rattle.routing.proofs.rows.in_ring.Goals as goal

pub returns-in-2-to-4 : goal.returns-in-2-to-4
unfolding in_ring
returns-in-2-to-4 c = grind arith

pub returns-in_default : goal.returns-in_default
unfolding in_ring
returns-in_default c = grind arith

pub returns-in_default-2 : goal.returns-in_default-2
unfolding in_ring
returns-in_default-2 c = grind arith
