-- `put`: the digits from i on are there, and the rest of the number is what stands before them. Assumes nothing.
use mathlib.Core.Path.{◌≡◌}
use Prim.Native.Nat.{◌-◌, ◌/◌, ◌^◌}
use lib.ListN.{length, drop}
use Rattle.protocol.specs.Frames.{print}
use Rattle.frames.proofs.printing.put.Given as goal

abbrev pub invariant-loop-i : goal.invariant-loop-i
invariant-loop-i l = (drop l.i l.out ≡ print (length l.initial.out - l.i) l.v) × (l.rest ≡ l.v / 16 ^ (length l.initial.out - l.i))
