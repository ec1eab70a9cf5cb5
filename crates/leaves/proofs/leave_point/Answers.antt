-- `leave_point`: at each return the tests on the way decide the definition. Assumes nothing.
use native.Mathlib.Omega.{arith}
use Rattle.lists.specs.Basics.{when◌then◌else◌}
use Rattle.protocol.specs.Kinds.{leave_point}
use Rattle.leaves.proofs.leave_point.Goals as goal

pub returns-in_err-required : goal.returns-in_err-required
unfolding leave_point when◌then◌else◌
returns-in_err-required c = grind arith

pub returns : goal.returns
unfolding leave_point when◌then◌else◌
returns c = grind arith
