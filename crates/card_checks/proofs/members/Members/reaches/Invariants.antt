-- `Members::reaches`: the table is right below h. Assumes nothing.
use mathlib.Core.Path.{◌≡◌}
use Prim.Native.Nat.{ℕ, ◌<◌}
use lib.ListN.{length, get_or}
use Rattle.cardlayout.specs.Reach.{reach}
use Rattle.card_checks.proofs.members.Members.reaches.Given as goal

abbrev pub invariant-loop-h : goal.invariant-loop-h
invariant-loop-h l = (length l.reaches ≡ 64) × ((k : ℕ) → k < l.h → get_or l.reaches k 0 ≡ reach l.names l.marks k)
