-- `onward`: at each return the tests on the way decide the definition. Assumes nothing.
use native.Mathlib.Omega.{arith}
use Rattle.lists.specs.Basics.{when◌then◌else◌}
use Rattle.protocol.specs.Routing.{onward}
use Rattle.routing.proofs.ways.onward.Goals as goal

pub returns-in-4 : goal.returns-in-4
unfolding onward when◌then◌else◌
returns-in-4 c = grind arith

pub returns-in_default : goal.returns-in_default
unfolding onward when◌then◌else◌
returns-in_default c = grind arith

pub returns-in_default-2 : goal.returns-in_default-2
unfolding onward when◌then◌else◌
returns-in_default-2 c = grind arith
