-- `all_differ`: whether the identifiers before i differ, in steps of four and then of one. Assumes nothing.
use mathlib.Core.Path.{◌≡◌}
use Prim.Native.Nat.{◌*◌}
use lib.ListN.{take}
use Rattle.lists.specs.Basics.{distinct}
use Rattle.wellformed.proofs.differ.all_differ.Given as goal

abbrev pub invariant-loop-k : goal.invariant-loop-k
invariant-loop-k l = l.ok ≡ distinct (take (4 * l.k) l.ids)

abbrev pub invariant-loop-i : goal.invariant-loop-i
invariant-loop-i l = l.ok ≡ distinct (take l.i l.ids)
