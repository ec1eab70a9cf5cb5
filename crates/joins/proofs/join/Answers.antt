-- `join`: at each return the tests on the way decide the definition. Assumes nothing.
use native.Mathlib.Omega.{arith}
use Rattle.lists.specs.Basics.{when◌then◌else◌}
use Rattle.protocol.specs.Kinds.{join}
use Rattle.joins.proofs.join.Goals as goal

pub returns-in_err-required : goal.returns-in_err-required
unfolding join when◌then◌else◌
returns-in_err-required c = grind arith

pub returns-then-matches : goal.returns-then-matches
unfolding join when◌then◌else◌
returns-then-matches c = grind arith

pub returns : goal.returns
unfolding join when◌then◌else◌
returns c = grind arith
