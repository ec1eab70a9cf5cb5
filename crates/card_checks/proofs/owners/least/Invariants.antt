-- `least`: the least of the nodes so far. Assumes nothing.
use Rattle.std.proofs.Common.{◌≡◌, ℕ, nat_eq, get_or}
use Rattle.lists.specs.Basics.{when◌then◌else◌}
use Rattle.cardlayout.specs.Reach.{top, least}
use Rattle.card_checks.proofs.owners.least.Given as goal

abbrev pub invariant-loop-m : goal.invariant-loop-m
invariant-loop-m g l = (h : ℕ → ℕ) → ((x y : ℕ) → goal.F-post g l.far x y → y ≡ h x) → l.best ≡ least (λ m. when nat_eq (get_or l.marks m 0) 1 then h (get_or l.names m 0) else top) l.m
