-- `route`: at each return the tests on the way decide the definition. Assumes nothing.
use native.Mathlib.Omega.{arith}
use Rattle.lists.specs.Basics.{when◌then◌else◌}
use Rattle.protocol.specs.Routing.{route}
use Rattle.routing.proofs.ways.route.Goals as goal

pub returns-then-f-h : goal.returns-then-f-h
unfolding route when◌then◌else◌
returns-then-f-h c = grind arith

pub returns : goal.returns
unfolding route when◌then◌else◌
returns c = grind arith
