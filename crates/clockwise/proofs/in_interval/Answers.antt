-- `in_interval`: at each return the tests on the way say which of the three cases it is. Assumes nothing.
use Rattle.std.proofs.Common.{le-ltb, lt-ltb, eq-eqb, ne_eqb}
use Rattle.clockwise.specs.Clockwise.{in_range}
use Rattle.clockwise.proofs.in_interval.Goals as goal

pub returns-then-a-b : goal.returns-then-a-b
unfolding in_range
returns-then-a-b c = simp (eq-eqb _ _ c.if-a-b.true)

pub returns-then-a-b-2 : goal.returns-then-a-b-2
unfolding in_range
returns-then-a-b-2 c = simp (ne_eqb _ _ c.if-a-b.false, lt-ltb _ _ c.if-a-b-2.true)

pub returns : goal.returns
unfolding in_range
returns c = simp (ne_eqb _ _ c.if-a-b.false, le-ltb _ _ c.if-a-b-2.false)
