-- `join_routed`: the definition at each of the two ways, and for an owner by its lock. Assumes nothing.
use native.Mathlib.Omega.{arith}
use Rattle.lists.specs.Basics.{when◌then◌else◌}
use Rattle.protocol.specs.Kinds.{join_routed}
use Rattle.joins.proofs.join_routed.Goals as goal

pub returns-then-h-eq1 : goal.returns-then-h-eq1
unfolding join_routed when◌then◌else◌
returns-then-h-eq1 c = grind arith

pub returns-else-h-eq1 : goal.returns-else-h-eq1
unfolding join_routed when◌then◌else◌
returns-else-h-eq1 c = grind arith

pub returns-in-To : goal.returns-in-To
unfolding join_routed when◌then◌else◌
returns-in-To c = grind arith
