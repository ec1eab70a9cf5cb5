-- `founding::founder::smallest` is `smallest`: of the first i nodes, `node` has the smallest identifier so far. Assumes nothing.
use native.Mathlib.Omega.{arith}
use mathlib.Core.Path.{sym, subst}
use Prim.Native.Nat.{◌+◌}
use Rattle.layout.specs.Founder.{Least, least_one, least_new, least_same, walk_ends}
use Rattle.founding.proofs.founder.smallest.Goals as goal
use Rattle.founding.proofs.founder.smallest.Goals.{then-identifiers-i, else-identifiers-i}

pub loop-i-init : goal.loop-i-init
loop-i-init c = (omega arith, least_one c.args.identifiers.now)

pub offset_bounds-identifiers-node : goal.offset_bounds-identifiers-node
offset_bounds-identifiers-node c = omega (arith, c.loop-i.invariant.1.below)

pub bounds-identifiers-node : goal.bounds-identifiers-node
bounds-identifiers-node c = omega (arith, c.loop-i.invariant.1.below)

pub loop-i-preserved : goal.loop-i-preserved
loop-i-preserved c =
    let ids = c.args.identifiers.now in
    let l = c.loop-i in (
      omega arith,
      elim c.if-identifiers-i.branch [
        | then-identifiers-i w ↦ subst (Least ids (l.i + 1)) (sym w.node-is) (least_new ids l.i l.node l.invariant.1 w.if-identifiers-i.true)
        | else-identifiers-i w ↦ subst (Least ids (l.i + 1)) (sym w.node-is) (least_same ids l.i l.node l.invariant.1 w.if-identifiers-i.false)
      ],
    )

pub returns : goal.returns
returns c =
    let l = c.loop-i in
    walk_ends c.args.identifiers.now l.i l.node l.invariant.1 (omega arith) l.invariant.0
