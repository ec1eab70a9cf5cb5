-- `stop_forward`: at each return the tests on the way decide the definition. Assumes nothing.
use native.Mathlib.Omega.{arith}
use Rattle.lists.specs.Basics.{when◌then◌else◌}
use Rattle.protocol.specs.Kinds.{stop_forward}
use Rattle.leaves.proofs.stop_forward.Goals as goal

pub returns-in_err-required : goal.returns-in_err-required
unfolding stop_forward when◌then◌else◌
returns-in_err-required c = grind arith

pub returns : goal.returns
unfolding stop_forward when◌then◌else◌
returns c = grind arith
