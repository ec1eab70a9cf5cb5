-- `gap`: two identifiers that differ are at least 1 apart. Assumes nothing.
use native.Mathlib.Omega.{arith}
use borrow.Author.Tests.{eq-eqb, ne_eqb}
use Rattle.lists.specs.Basics.{when◌then◌else◌}
use Rattle.clockwise.specs.Laws.{dist_pos}
use Rattle.protocol.specs.Record.{round}
use Rattle.cardlayout.specs.Reach.{gap}
use Rattle.card_checks.proofs.owners.gap.Goals as goal

pub returns-then-a-b : goal.returns-then-a-b
unfolding gap when◌then◌else◌
returns-then-a-b c = simp (eq-eqb _ _ c.if-a-b.true)

pub overflow_sub-result : goal.overflow_sub-result
overflow_sub-result c = let a = c.args in omega (arith, c.distance.ensures, dist_pos round a.a a.b (omega arith) (omega arith) c.if-a-b.false)

pub returns : goal.returns
unfolding gap when◌then◌else◌
returns c = simp (ne_eqb _ _ c.if-a-b.false, c.distance.ensures)
