-- `quoted_name`: the bytes up to i are the name, with this many doubled quotes. Assumes nothing.
use Prim.Native.Nat.{◌-◌}
use lib.ListN.{length}
use Rattle.sheet_reading.specs.Judged.{Quoting}
use Rattle.sheet_reading.proofs.bytes.Kinds.quoted_name.Given as goal

abbrev pub invariant-loop-i : goal.invariant-loop-i
invariant-loop-i l = Quoting l.text l.from l.i l.doubled

abbrev pub decreases-loop-i : goal.decreases-loop-i
decreases-loop-i l = length l.text - l.i
