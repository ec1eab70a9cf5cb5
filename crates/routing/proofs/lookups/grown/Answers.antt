-- `grown`: at each return the tests on the way decide the definition. Assumes nothing.
use native.Mathlib.Omega.{arith}
use Rattle.lists.specs.Basics.{when◌then◌else◌}
use Rattle.protocol.specs.Kinds.{grown}
use Rattle.routing.proofs.lookups.grown.Goals as goal

pub returns-then-m : goal.returns-then-m
unfolding grown when◌then◌else◌
returns-then-m c = grind arith

pub returns : goal.returns
unfolding grown when◌then◌else◌
returns c = grind arith
