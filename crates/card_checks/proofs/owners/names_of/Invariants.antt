-- `names_of`: the first i are copied, the others are 0. Assumes nothing.
use mathlib.Core.Path.{◌≡◌}
use Prim.Native.Nat.{ℕ, ◌≤◌, ◌<◌}
use lib.ListN.{length, get_or}
use Rattle.protocol.specs.Record.{row_start}
use Rattle.card_checks.proofs.owners.names_of.Given as goal

abbrev pub invariant-loop-i : goal.invariant-loop-i
invariant-loop-i l = (length l.names ≡ 64) × ((k : ℕ) → k < l.i → get_or l.names k 0 ≡ get_or l.w (row_start k) 0) × ((k : ℕ) → l.i ≤ k → get_or l.names k 0 ≡ 0)
