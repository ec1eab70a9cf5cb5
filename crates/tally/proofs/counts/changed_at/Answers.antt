-- `changed_at`: in each arm the kind is known, and the fields compute. Assumes nothing.
use borrow.Author.Rules.{rules}
use Rattle.lists.specs.Basics.{when◌then◌else◌}
use Rattle.tally.specs.Changed.{changed_at}
use Rattle.tally.proofs.counts.changed_at.Goals as goal
use Rattle.tally.proofs.counts.changed_at.Goals.{in-0, in-1, in-2, in-3, in-4, in-5, in-6, in-7, in-8, in_default}

pub returns : goal.returns
unfolding changed_at when◌then◌else◌
returns g c = λ h p. elim c.match-k.branch [
  | in-0 w ↦ simp (w.changed-is, w.in-0.is, p _ _ w.change.ensures)
  | in-1 w ↦ simp (w.changed-is, w.in-1.is, p _ _ w.change-in-1.ensures)
  | in-2 w ↦ simp (w.changed-is, w.in-2.is, p _ _ w.change-in-2.ensures)
  | in-3 w ↦ simp (w.changed-is, w.in-3.is, p _ _ w.change-in-3.ensures)
  | in-4 w ↦ simp (w.changed-is, w.in-4.is, p _ _ w.change-in-4.ensures)
  | in-5 w ↦ simp (w.changed-is, w.in-5.is, p _ _ w.change-in-5.ensures)
  | in-6 w ↦ simp (w.changed-is, w.in-6.is, p _ _ w.change-in-6.ensures)
  | in-7 w ↦ simp (w.changed-is, w.in-7.is, p _ _ w.change-in-7.ensures)
  | in-8 w ↦ simp (w.changed-is, w.in-8.is, p _ _ w.change-in-8.ensures)
  | in_default w ↦ search rules
]
