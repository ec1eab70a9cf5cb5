-- `Groups::part_all`: between the passes two cards of one group have the same digits so far, and some card does not lead its group. Assumes nothing.
use mathlib.Core.Path.{◌≡◌, sym, ◌∙◌, ap, subst}
use Prim.Native.Nat.{suc, ◌+◌, ◌-◌}
use native.Mathlib.Omega.{arith}
use Rattle.std.specs.Prelude.{nat_eq}
use Rattle.std.proofs.Common.{eqb→eq, true≢false}
use Rattle.lists.specs.Tests.{T_true, true_T, →eqb}
use Rattle.card_checks.specs.Digits.{Grouped, Parted, following, parted_led, led_few, grouped_next, grouped_yes, grouped_no}
use Rattle.card_checks.proofs.digits.Groups.part_all.Goals as goal

pub returns-then-all_lead : goal.returns-then-all_lead
returns-then-all_lead c = let l = c.loop in
    let n = c.args.self.now.count in
    let new = c.part.new.self in
    let P : Parted n l.self.rest l.self.names new.rest new.names = subst (λ z. Parted z l.self.rest l.self.names new.rest new.names) l.invariant.0 c.part.ensures.1 in
    let e : 6 - l.counter ≡ suc (6 - (l.counter + 1)) = omega arith in
    let t : nat_eq (following n new.names) 0 ≡ nat_eq (following new.count new.names) 0 = ap (λ z. nat_eq (following z new.names) 0) (sym (c.part.ensures.0 ∙ l.invariant.0)) in
    λ f g. sym (grouped_yes f n (6 - (l.counter + 1)) _ _ (grouped_next f n (6 - (l.counter + 1)) l.self.rest l.self.names _ _ (subst (λ z. Grouped f n z l.self.rest l.self.names) e (l.invariant.2 f g)) P)
    (eqb→eq _ 0 (true_T _ (t ∙ sym c.all_lead.ensures ∙ c.if-all_lead.true))))

pub loop-preserved : goal.loop-preserved
loop-preserved c = let l = c.loop in
    let n = c.args.self.now.count in
    let new = c.part.new.self in
    let P : Parted n l.self.rest l.self.names new.rest new.names = subst (λ z. Parted z l.self.rest l.self.names new.rest new.names) l.invariant.0 c.part.ensures.1 in
    let e : 6 - l.counter ≡ suc (6 - (l.counter + 1)) = omega arith in
    let t : nat_eq (following n new.names) 0 ≡ nat_eq (following new.count new.names) 0 = ap (λ z. nat_eq (following z new.names) 0) (sym (c.part.ensures.0 ∙ l.invariant.0)) in
    let L = parted_led n l.self.rest l.self.names _ _ P in (
      c.part.ensures.0 ∙ l.invariant.0,
      (λ j k. omega (arith, led_few n _ L j k)),
      (λ f g. grouped_next f n (6 - (l.counter + 1)) l.self.rest l.self.names _ _ (subst (λ z. Grouped f n z l.self.rest l.self.names) e (l.invariant.2 f g)) P),
      (λ u. L),
      λ u z. true≢false (sym (T_true _ (→eqb _ 0 z)) ∙ t ∙ sym c.all_lead.ensures ∙ c.if-all_lead.false),
    )

pub returns : goal.returns
returns c = let l = c.loop in
    let n = c.args.self.now.count in
    let e : 6 - l.counter ≡ 0 = omega arith in
    λ f g. sym (grouped_no f n l.self.rest l.self.names (subst (λ z. Grouped f n z l.self.rest l.self.names) e (l.invariant.2 f g)) (l.invariant.3 (omega arith)) (l.invariant.4 (omega arith)))
