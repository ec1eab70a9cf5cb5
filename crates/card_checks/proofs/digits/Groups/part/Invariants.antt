-- `Groups::part`: after i cards, each has its group, and each slot its first card. Assumes nothing.
use mathlib.Core.Path.{◌≡◌}
use lib.ListN.{length}
use Rattle.card_checks.specs.Digits.{slot_count, Parting}
use Rattle.card_checks.proofs.digits.Groups.part.Given as goal

abbrev pub invariant-loop-i : goal.invariant-loop-i
invariant-loop-i l = (length l.slots ≡ slot_count) × (l.self.count ≡ l.initial.self.count) × Parting l.initial.self.count l.i l.initial.self.rest l.initial.self.names l.self.rest l.self.names l.slots
