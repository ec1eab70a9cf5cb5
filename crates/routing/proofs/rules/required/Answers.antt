-- `required`: at each return the tests on the way decide the definition. Assumes nothing.
use native.Mathlib.Omega.{arith}
use Rattle.lists.specs.Basics.{when◌then◌else◌}
use Rattle.routing.proofs.rules.required.Goals as goal

pub returns-then-test : goal.returns-then-test
unfolding when◌then◌else◌
returns-then-test c = grind arith

pub returns : goal.returns
unfolding when◌then◌else◌
returns c = grind arith
