-- `Groups::part_all`: between the passes two cards of one group have the same digits so far, and some card does not lead its group. Assumes nothing.
use mathlib.Core.Path.{◌≡◌}
use mathlib.Core.Logic.{◌≢◌}
use Prim.Native.Nat.{ℕ, ◌-◌, ◌≤◌, ◌<◌}
use lib.ListN.{get_or}
use Rattle.card_checks.specs.Digits.{Grouped, Led, following}
use Rattle.card_checks.proofs.digits.Groups.part_all.Given as goal

abbrev pub invariant-loop : goal.invariant-loop
invariant-loop l = (l.self.count ≡ l.initial.self.count) × ((j : ℕ) → j < l.initial.self.count → get_or l.self.names j 0 ≤ 512)
    × ((f : ℕ → ℕ) → Grouped f l.initial.self.count 6 l.initial.self.rest l.initial.self.names → Grouped f l.initial.self.count (6 - l.counter) l.self.rest l.self.names) × (0 < l.counter → Led l.initial.self.count l.self.names) × (0 < l.counter → following l.initial.self.count l.self.names ≢ 0)
