-- `by_preds`: of the first h nodes, the gaps, what they add up to, and whether the members' preds are members. Assumes nothing.
use mathlib.Core.Path.{◌≡◌}
use Prim.Native.Nat.{ℕ, ◌*◌, ◌≤◌, ◌<◌}
use Rattle.std.specs.Prelude.{nat_eq}
use lib.ListN.{length, get_or}
use Rattle.lists.specs.Merge.{merged}
use Rattle.lists.specs.Sums.{total}
use Rattle.card_checks.specs.Preds.{gap_back, strange, arc_back}
use Rattle.card_checks.proofs.preds.by_preds.Given as goal

abbrev pub invariant-loop-h : goal.invariant-loop-h
invariant-loop-h l = (length l.reaches ≡ 64) × ((j : ℕ) → j < l.h → get_or l.reaches j 0 ≡ gap_back l.members.record.now l.members.names.now j)
    × (l.ok ≡ nat_eq (merged l.h (strange l.members.record.now l.members.marks.now)) 0) × (l.circle ≡ total (arc_back l.members.record.now l.members.names.now l.members.marks.now) l.h) × (l.circle ≤ 4294967296 * l.h)
