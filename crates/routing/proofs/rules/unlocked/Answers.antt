-- `unlocked`: at each return the tests on the way decide the definition. Assumes nothing.
use native.Mathlib.Omega.{arith}
use Rattle.lists.specs.Basics.{when◌then◌else◌}
use Rattle.routing.proofs.rules.unlocked.Goals as goal

pub returns-in_err-required : goal.returns-in_err-required
unfolding when◌then◌else◌
returns-in_err-required c = grind arith

pub returns : goal.returns
unfolding when◌then◌else◌
returns c = grind arith
