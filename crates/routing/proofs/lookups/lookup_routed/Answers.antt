-- `lookup_routed`: the definition at each of the two ways. Assumes nothing.
use native.Mathlib.Omega.{arith}
use Rattle.protocol.specs.Kinds.{lookup_routed}
use Rattle.routing.proofs.lookups.lookup_routed.Goals as goal

pub returns-in-Own : goal.returns-in-Own
unfolding lookup_routed
returns-in-Own c = grind arith

pub returns-in-To : goal.returns-in-To
unfolding lookup_routed
returns-in-To c = grind arith
