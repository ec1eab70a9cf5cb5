-- `copy_quotes`: the name up to the quote at i is written. Assumes nothing.
use mathlib.Core.Path.{◌≡◌}
use Prim.Native.Nat.{◌-◌}
use lib.ListN.{length}
use Rattle.sheet_reading.specs.Put.{Copying}
use Rattle.sheet_reading.proofs.copying.copy_quotes.Given as goal

abbrev pub invariant-loop-i : goal.invariant-loop-i
invariant-loop-i l = Copying l.text l.from l.initial.names l.at l.i l.k l.names × (length l.names ≡ length l.initial.names)

abbrev pub decreases-loop-i : goal.decreases-loop-i
decreases-loop-i l = length l.text - l.i
