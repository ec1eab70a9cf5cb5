-- `by_preds`: of the first h nodes, the gaps, what they add up to, and whether the members' preds are members. Assumes nothing.
use mathlib.Core.Path.{◌≡◌, refl, sym, ◌∙◌, ap, ap₂, subst}
use Prim.Native.Nat.{◌+◌, ◌≤◌}
use borrow.Author.Rules.{rules}
use native.Mathlib.Omega.{arith}
use Rattle.std.specs.Prelude.{◌&&◌, nat_eq, T}
use lib.Dec.{eqb→eq}
use lib.ListN.{get_or}
use Rattle.lists.specs.Basics.{when◌then◌else◌}
use Rattle.lists.specs.Members.{filled}
use Rattle.lists.specs.Merge.{merged, merged_none, merged_more, or_test}
use Rattle.lists.specs.Tests.{true_T, and_left, and_right}
use Rattle.lists.specs.Sums.{total, total_none, total_more}
use Rattle.card_checks.specs.Preds.{gap_back, strange, strange_test, arc_back, preds_law, arc_few}
use Rattle.card_checks.proofs.preds.by_preds.Goals as goal

pub loop-h-init : goal.loop-h-init
loop-h-init c = (refl, (λ j l. absurd (omega arith)), sym (ap (λ z. nat_eq z 0) (merged_none _)), sym (total_none _), omega arith)

pub overflow_add-circle : goal.overflow_add-circle
overflow_add-circle c = let l = c.loop-h in
    let n = c.args.members.now.count in
    let few : n ≤ 64 = c.args.members.now.few in
    omega (arith, l.invariant.4, c.pick-circle.ensures, c.from.ensures, few, arc_few (nat_eq (get_or c.args.members.now.marks.now l.h 0) 1) c.from.result (omega arith))

pub loop-h-preserved : goal.loop-h-preserved
loop-h-preserved c = let l = c.loop-h in
    let a = c.args in
    let w = a.members.now.record.now in
    let names = a.members.now.names.now in
    let marks = a.members.now.marks.now in
    let far = c.gap-far in (
      search rules,
      filled l.reaches l.h far.result 0 (gap_back w names) (omega arith) far.ensures l.invariant.1,
      ap₂ (λ x y. x && y) l.invariant.2 (sym (strange_test w marks l.h)) ∙ sym (ap (λ z. nat_eq z 0) (merged_more l.h (strange w marks)) ∙ or_test (merged l.h (strange w marks)) (strange w marks l.h)),
      sym (total_more (arc_back w names marks) l.h ∙ ap₂ (λ x y. x + y) (sym l.invariant.3) (sym (c.pick-circle.ensures ∙ ap (λ z. when nat_eq (get_or marks l.h 0) 1 then z + 1 else 0) (c.from.ensures ∙ far.ensures)))),
      omega (arith, l.invariant.4, c.pick-circle.ensures, arc_few (nat_eq (get_or marks l.h 0) 1) c.from.result (omega arith)),
    )

pub returns-then-ok-circle : goal.returns-then-ok-circle
returns-then-ok-circle c = let l = c.loop-h in
    let n = c.args.members.now.count in
    let marks = c.args.members.now.marks.now in
    let e : l.h ≡ n = omega arith in
    λ ids N C size M. let both = true_T _ c.if-ok-circle.true in
    preds_law ids c.args.members.now.names.now marks c.args.members.now.record.now l.reaches n N C size M c.args.members.now.each c.args.members.now.few
    (λ h k. l.invariant.1 h (omega arith))
    (ap (λ z. merged z (strange c.args.members.now.record.now marks)) (sym e) ∙ eqb→eq _ 0 (subst T l.invariant.2 (and_left l.ok _ both)))
    (ap (total (arc_back c.args.members.now.record.now c.args.members.now.names.now marks)) (sym e) ∙ sym l.invariant.3 ∙ eqb→eq l.circle 4294967296 (and_right l.ok _ both))
