-- `by_buckets`: the first i cards are in their buckets, and their machines differ. Assumes nothing.
use mathlib.Core.Path.{◌≡◌}
use mathlib.Core.Bool.{true}
use lib.ListN.{length}
use Rattle.lists.specs.Basics.{distinct, table}
use Rattle.card_checks.specs.Buckets.{machine_of, Filed}
use Rattle.card_checks.proofs.buckets.by_buckets.Given as goal

abbrev pub invariant-loop-i : goal.invariant-loop-i
invariant-loop-i l = (length l.heads ≡ 1024) × (length l.earlier ≡ 512) × Filed (machine_of l.cards.words.now) l.heads l.earlier l.i × (distinct (table l.i (machine_of l.cards.words.now)) ≡ true)
