-- Of every ring that was just founded, by either form of fresh: that fresh finds its founder, and what the first calls give. Document 01's
-- probes on a fresh ring (its only hub leaves, nothing waits, a hub that is not in it is asked or joins through itself) are cases. Assumes nothing.
use Rattle.std.specs.Prelude.{◌≡◌, ◌≢◌, true, false, ◌&&◌, ◌||◌, List, [], ◌∷◌, ◌++◌, ℕ, ◌≤◌, ◌<◌, length}
use Rattle.std.proofs.Math.Path.{refl, ap}
use Rattle.std.proofs.Common.{sym, ◌∙◌, subst, arith}
use Rattle.std.proofs.Math.Bool.{not}
use Rattle.std.proofs.Common.{nat_le, nat_lt, nat_eq}
use Rattle.std.proofs.Math.Dec.{eqb_refl}
use Rattle.std.proofs.Math.ListN.{get_or}
use borrow.Author.Tests.{lt-ltb}
use Rattle.clockwise.specs.Clockwise.{dist, within}
use Rattle.lists.specs.Basics.{when◌then◌else◌, require, every, distinct, first}
use Rattle.lists.specs.Choice.{on_yes, on_no}
use Rattle.lists.specs.Tests.{T_true, says_distinct}
use Rattle.protocol.specs.declared.Route.TheVariants.{Own, To}
use Rattle.protocol.specs.declared.Answer.TheVariants.{Quiet, Found}
use Rattle.protocol.specs.Outcomes.{Outcome}
use Rattle.std.specs.Prelude.{Err, Ok}
use Rattle.protocol.specs.declared.refusal.Refusal.{Refusal}
use Rattle.protocol.specs.declared.refusal.Refusal.TheVariants.{IdentifierCount, IdentifierTwice, LastHub, NoFounder, NoMessage, NotInRing}
use Rattle.protocol.specs.Record.{round, record_size, State, count, row, identifier, ticketed, words}
use Rattle.protocol.specs.Fresh.{smallest, alone, fresh}
use Rattle.protocol.specs.Routing.{in_ring, covers, onward}
use Rattle.protocol.specs.Step as step
use Rattle.protocol.specs.Step.{Result, refused, accepted, asking}
use Rattle.protocol.specs.Calls.{Called, written, fresh_call, fresh_by_call}
use Rattle.layout.specs.Founder.{smallest_least}
use Rattle.layout.specs.Questions.{fresh_cases, long_yes}
use Rattle.atomicity.specs.Preserved.{fresh_form, length_founded}
use Rattle.atomicity.specs.Run.{founder_row, other_row}
use Rattle.atomicity.specs.Demand3.{Call, present, called}
use Rattle.atomicity.specs.Engines.{Begun, refused_answered, call_is, present_begins}
use Rattle.atomicity.specs.Probes.{ask, join, leave, deliver}

-- Where nobody is named the founder is there: fresh never refuses with 18.
pub never_18 : (w ids : List ℕ) → (fresh_call w ids).outcome ≡ Err NoFounder → ⊥
unfolding written
never_18 w ids =
    fresh_cases w ids (smallest ids) (λ z. z.outcome ≡ Err NoFounder → ⊥)
    (λ k m e. let n = m (reason_is e) in omega (arith, n.1, (smallest_least ids n.0).below))
    (λ a e. refused_answered (sym e))
  where
    reason : Outcome → Refusal
    reason = elim [ Err k ↦ k | Ok a ↦ NoFounder ]

    reason_is : {k : Refusal} → ◌≡◌ {A = Outcome} (Err k) (Err NoFounder) → k ≡ NoFounder
    reason_is e = ap reason e

-- Question 18 is the last one: an empty list and one with a repeated identifier are refused before it.
pub in_order : (w : List ℕ) → record_size ≤ length w
    → ((fresh_by_call w [] 0).outcome ≡ Err IdentifierCount)
    × ((fresh_by_call w (100 ∷ 100 ∷ []) 2).outcome ≡ Err IdentifierTwice)
    × ((fresh_by_call w (100 ∷ 200 ∷ []) 2).outcome ≡ Err NoFounder)
unfolding fresh_by_call require when◌then◌else◌ distinct every
in_order w l = (
  ap (λ (z : Called). z.outcome) (on_yes _ _ _ (long_yes w l)),
  ap (λ (z : Called). z.outcome) (on_yes _ _ _ (long_yes w l)),
  ap (λ (z : Called). z.outcome) (on_yes _ _ _ (long_yes w l)),
)

-- The first calls, on the record w.
pub record FirstCalls (ids : List ℕ) (founder : ℕ) (w : List ℕ) : Type 0 where
  pub answers : (v : ℕ) → (called present w (ask founder v)).outcome ≡ Ok (Found founder v 0 0)
  pub stays : (called present w (leave founder)).outcome ≡ Err LastHub
  pub empty : (x y : ℕ) → x < length ids → y < length ids → (called present w (deliver x y)).outcome ≡ Err NoMessage
  pub outside_asked : (hub v : ℕ) → hub < length ids → hub ≢ founder → (called present w (ask hub v)).outcome ≡ Err NotInRing
  pub outside_joins : (hub : ℕ) → hub < length ids → hub ≢ founder → (called present w (join hub hub)).outcome ≡ Err NotInRing

-- The steps of the state.
module _ (ids : List ℕ) (f : ℕ) (below : f < length ids) where
  abbrev s : State
  s = fresh ids f

  hubs : (hub : ℕ) → hub < length ids → nat_lt hub (count s) ≡ true
  unfolding fresh
  hubs hub l = lt-ltb hub (count s) (omega (arith, length_founded ids f))

  is_alone : row s f ≡ alone f (get_or ids f 0)
  unfolding fresh
  is_alone = founder_row ids f below

  -- the founder's range is the whole ring
  owns : (v : ℕ) → onward (identifier s (row s f).pred) (row s f) v ≡ Own
  unfolding onward covers within when◌then◌else◌
  owns v =
      let n = get_or ids f 0 in
      ap (λ h. onward (identifier s h.pred) h v) is_alone
      ∙ ap (λ h. onward h.identifier (alone f n) v) is_alone
      ∙ ap (λ b. when b || (nat_le 1 (dist round n v) && nat_le (dist round n v) (dist round n n)) then Own else To f) (T_true (nat_eq n n) (eqb_refl n))

  answers : (v : ℕ) → step.step s 0 f v ≡ accepted (Found f v 0 0) (ticketed s)
  unfolding fresh step.step step.ask asking when◌then◌else◌ in_ring
  answers v =
      on_yes _ _ _ (hubs f below)
      ∙ on_yes _ _ _ (ap in_ring is_alone)
      ∙ on_yes (nat_lt 0 4294967295) _ _ refl
      ∙ ap (asking s f v) (owns v)

  stays : step.step s 2 f 0 ≡ refused LastHub
  unfolding fresh step.step step.leave when◌then◌else◌ in_ring
  stays =
      on_yes _ _ _ (hubs f below)
      ∙ on_yes _ _ _ (ap in_ring is_alone)
      ∙ on_yes _ _ _ (ap (λ h. nat_eq h.lock 0) is_alone)
      ∙ on_no _ _ _ (ap (λ h. not (nat_eq h.succ f)) is_alone ∙ ap not (T_true (nat_eq f f) (eqb_refl f)))

  empty : (x y : ℕ) → x < length ids → y < length ids → step.step s 3 x y ≡ refused NoMessage
  unfolding fresh step.step step.deliver when◌then◌else◌ first require
  empty x y lx ly =
      on_yes _ _ _ (ap (λ b. b && nat_lt y (count s)) (hubs x lx) ∙ hubs y ly)

  module _ (hub : ℕ) (l : hub < length ids) (ne : hub ≢ f) where
    not_in : in_ring (row s hub) ≡ false
    unfolding fresh in_ring
    not_in = ap in_ring (other_row ids f below hub ne)

    asked : (v : ℕ) → step.step s 0 hub v ≡ refused NotInRing
    unfolding step.step step.ask when◌then◌else◌
    asked v = on_yes _ _ _ (hubs hub l) ∙ on_no _ _ _ not_in

    joins : step.step s 1 hub hub ≡ refused NotInRing
    unfolding fresh step.step step.join when◌then◌else◌
    joins =
        on_yes _ _ _ (ap (λ b. b && nat_lt hub (count s)) (hubs hub l) ∙ hubs hub l)
        ∙ on_yes _ _ _ (ap (λ h. nat_eq h.state 0) (other_row ids f below hub ne))
        ∙ on_no _ _ _ not_in

-- After every accepted fresh call.
pub first_calls : (slice ids : List ℕ) (founder : ℕ) → (fresh_by_call slice ids founder).outcome ≡ Ok Quiet
    → FirstCalls ids founder (fresh_by_call slice ids founder).slice
unfolding written
first_calls slice ids founder o = subst (FirstCalls ids founder) (sym k.is) (record {
  answers = λ v. gives (ask founder v) (answers ids founder k.below v);
  stays = gives (leave founder) (stays ids founder k.below);
  empty = λ x y lx ly. gives (deliver x y) (empty ids founder k.below x y lx ly);
  outside_asked = λ hub v l ne. gives (ask hub v) (asked ids founder k.below hub l ne v);
  outside_joins = λ hub l ne. gives (join hub hub) (joins ids founder k.below hub l ne);
})
  where
    k : Begun (λ s tail. words s ++ tail) ids founder (fresh_by_call slice ids founder).slice
    k = present_begins slice ids founder o

    w : List ℕ
    w = words (fresh ids founder) ++ k.tail

    gives : (c : Call) {r : Result} → step.step (fresh ids founder) c.operation c.x c.y ≡ r → (called present w c).outcome ≡ (written w r).outcome
    gives c e =
        ap (λ z. z.outcome) (call_is (fresh ids founder) k.tail c (fresh_form ids founder k.below k.few ((says_distinct ids).to k.differ)))
        ∙ ap (λ r. (written w r).outcome) e
