-- `new_succ_ack`: at each return the tests on the way decide the definition. Assumes nothing.
use native.Mathlib.Omega.{arith}
use Rattle.lists.specs.Basics.{when◌then◌else◌}
use Rattle.protocol.specs.Kinds.{new_succ_ack}
use Rattle.joins.proofs.new_succ_ack.Goals as goal

pub returns-in_err-required : goal.returns-in_err-required
unfolding new_succ_ack when◌then◌else◌
returns-in_err-required c = grind arith

pub returns : goal.returns
unfolding new_succ_ack when◌then◌else◌
returns c = grind arith
