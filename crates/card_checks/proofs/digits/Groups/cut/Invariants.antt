-- `Groups::cut`: the first j are cut. Assumes nothing.
use mathlib.Core.Path.{◌≡◌}
use Prim.Native.Nat.{ℕ, ◌/◌, ◌%◌, ◌<◌}
use lib.ListN.{length, get_or}
use Rattle.card_checks.specs.Buckets.{machine_of}
use Rattle.card_checks.proofs.digits.Groups.cut.Given as goal

abbrev pub invariant-loop-j : goal.invariant-loop-j
invariant-loop-j l = (l.self.count ≡ l.initial.self.count) × (length l.self.names ≡ 512) × (length l.self.rest ≡ 512) × ((i : ℕ) → i < l.j → get_or l.self.names i 0 ≡ machine_of l.cards.words.now i % 512) × ((i : ℕ) → i < l.j → get_or l.self.rest i 0 ≡ machine_of l.cards.words.now i / 512)
