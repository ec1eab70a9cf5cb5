-- `join_retry`: at each return the tests on the way decide the definition. Assumes nothing.
use native.Mathlib.Omega.{arith}
use Rattle.lists.specs.Basics.{when◌then◌else◌}
use Rattle.protocol.specs.Kinds.{join_retry}
use Rattle.joins.proofs.join_retry.Goals as goal

pub returns-in_err-required : goal.returns-in_err-required
unfolding join_retry when◌then◌else◌
returns-in_err-required c = grind arith

pub returns : goal.returns
unfolding join_retry when◌then◌else◌
returns c = grind arith
