-- `founding::founder::smallest` is `smallest`: of the first i nodes, `node` has the smallest identifier so far. Assumes nothing.
use Prim.Native.Nat.{◌≤◌, ◌+◌, ◌-◌}
use lib.ListN.{length}
use Rattle.layout.specs.Founder.{Least}
use Rattle.founding.proofs.founder.smallest.Given as goal

abbrev pub invariant-loop-i : goal.invariant-loop-i
invariant-loop-i l = (l.i ≤ 1 + (length l.identifiers - 1)) × Least l.identifiers l.i l.node
