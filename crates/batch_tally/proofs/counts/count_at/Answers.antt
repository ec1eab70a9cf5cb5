-- `count_at`: the place's first word decides. Assumes nothing.
use borrow.Author.Tests.{eq-eqb, ne_eqb}
use Rattle.lists.specs.Basics.{when◌then◌else◌}
use Rattle.batch_tally.specs.Places.{count_at}
use Rattle.batch_tally.proofs.counts.count_at.Goals as goal

pub returns-then-outcomes-at-eq0 : goal.returns-then-outcomes-at-eq0
unfolding count_at when◌then◌else◌
returns-then-outcomes-at-eq0 c = simp (eq-eqb _ _ c.if-outcomes-at-eq0.true)

pub returns : goal.returns
unfolding count_at when◌then◌else◌
returns c = simp (ne_eqb _ _ c.if-outcomes-at-eq0.false)
