-- `first_come`: by cases; a slot that keeps its word is written with it. Assumes nothing.
use mathlib.Core.Path.{refl, sym}
use native.Mathlib.Omega.{arith}
use borrow.Author.Tests.{eq-eqb, ne_eqb}
use Rattle.lists.specs.Basics.{when◌then◌else◌}
use Rattle.card_checks.specs.Digits.{set_own}
use Rattle.card_checks.proofs.digits.first_come.Goals as goal

pub returns-then-seen-eq0 : goal.returns-then-seen-eq0
unfolding when◌then◌else◌
returns-then-seen-eq0 c = (simp (eq-eqb _ _ c.if-seen-eq0.true), refl)

pub returns : goal.returns
unfolding when◌then◌else◌
returns c = (simp (ne_eqb _ _ c.if-seen-eq0.false), sym (set_own c.args.slots.now c.args.slot 0 (omega arith)))
