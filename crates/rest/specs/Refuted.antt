-- Each claim about a ring at rest can be false: for each of them rolls, owners and rows that it rules out. None of these can be reached with no
-- message waiting; a claim that was weakened would no longer rule out its case, and the case's proof would fail (tests/mutants tries that). The
-- hubs have the identifiers 100 and 200. Assumes nothing.
use Rattle.std.specs.Prelude.{◌≡◌, refl, List, [], ◌∷◌, ℕ, ◌<◌, T, Err, Ok, nat_lt, length, get_or, replicate}
use Rattle.std.proofs.Common.{sym, ◌∙◌, ap, subst, inl, inr, true≢false, arith}
use Rattle.clockwise.specs.Clockwise.{dist, within}
use Rattle.lists.specs.Basics.{when◌then◌else◌, require, every, distinct, first, Mem, times}
use Rattle.lists.specs.Members.{ind_same}
use Rattle.lists.specs.Tests.{T_true}
use Rattle.protocol.specs.declared.Row.{Row}
use Rattle.protocol.specs.Outcomes.{Ownership}
use Rattle.protocol.specs.declared.refusal.Refusal.TheVariants.{NoHolder}
use Rattle.protocol.specs.Names.{JOINING, INSIDE}
use Rattle.protocol.specs.Record.{round, none, State, count_in, outside, read, words}
use Rattle.protocol.specs.Fresh.{alone}
use Rattle.protocol.specs.Routing.{responsible, covers}
use Rattle.protocol.specs.WellFormed.{pointers_ok, lock_ok, flag_ok, row_ok, formed}
use Rattle.protocol.specs.Answers.{refusal}
use Rattle.protocol.specs.Calls.{Traversal, lost, complete, roll, Rolled, roll_call, lowest_holder, owner_call, long, on_record}
use Rattle.protocol.specs.Membership.{Owner, nobody, node, nearer, owner_among, holds}
use Rattle.protocol.specs.Bytes.{words_of, roll_told, roll_bytes, told, owner_bytes}
use Rattle.layout.specs.Form.{tested_form, well_formed_words, long_words}
use Rattle.layout.specs.Questions.{record_rest}
use Rattle.atomicity.specs.Refuted.{two, ring, same}
use Rattle.rest.specs.Arcs.{after}
use Rattle.rest.specs.AtRest.{RollIsRing, OwnerIsLedgers, RowsAtRest}
use Rattle.rest.specs.AtRestC.{ToldAtRest}

-- THE ROLL. What a traversal lists.
listed : Traversal → List ℕ
listed lost = []
listed (complete l) = l

abbrev inside : ℕ → ℕ → ℕ → Row
inside name before behind = record { identifier = name; state = INSIDE; lock = 0; flag = 0; pred = before; succ = behind; oldpred = none }

abbrev rows : Row → Row → State
rows h g = record { rows = h ∷ g ∷ []; messages = []; asked = 1 }

lists : (h g : Row) → listed (roll (read (ring h g [])) 0 (count_in (ring h g [])) 0) ≡ listed (roll (rows h g) 0 2 0)
unfolding words
lists h g = ap (λ z. listed (roll z 0 2 0)) (same h g [])

-- Hub 1 has left, and is still pointed at.
pub leaver_pointed_at : RollIsRing two (0 ∷ []) (ring (inside 100 1 1) (inside 200 0 0) []) 0 → ⊥
unfolding roll when◌then◌else◌ listed
leaver_pointed_at r =
    elim (r.members_only 1 (subst (Mem 1) (sym (lists (inside 100 1 1) (inside 200 0 0)) ∙ ap listed r.closes) (inr (inl refl)))) [ inl e ↦ omega (arith, e) | inr k ↦ k ]

-- Hub 1 has entered, and nobody points at it.
pub member_left_out : RollIsRing two (1 ∷ 0 ∷ []) (ring (alone 0 100) (alone 1 200) []) 0 → ⊥
unfolding roll when◌then◌else◌ listed
member_left_out r =
    elim (subst (Mem 1) (sym (ap listed r.closes) ∙ lists (alone 0 100) (alone 1 200)) (r.all_members 1 (inl refl))) [ inl e ↦ omega (arith, e) | inr k ↦ k ]

-- Three hubs in the wrong direction.
abbrev spread : List ℕ
spread = 100 ∷ 200 ∷ 300 ∷ []

abbrev Grows : List ℕ → Type 0
Grows l = dist round 100 (get_or spread (get_or l 1 none) 0) < dist round 100 (get_or spread (get_or l 2 none) 0)

-- A hub twice; another hub first; anticlockwise; more hubs than there are.
module _ (members w : List ℕ) where
  pub hub_twice : (r : RollIsRing two members w 0) → r.list ≡ 0 ∷ 0 ∷ [] → ⊥
  hub_twice r e = omega (arith, r.once 0, ap (λ l. times l 0) e, ind_same 0)

  pub starts_elsewhere : (r : RollIsRing two members w 0) → r.list ≡ 1 ∷ 0 ∷ [] → ⊥
  starts_elsewhere r e = omega (arith, r.starts, ap (λ l. get_or l 0 none) e)

  pub anticlockwise : (r : RollIsRing spread members w 0) → r.list ≡ 0 ∷ 2 ∷ 1 ∷ [] → ⊥
  unfolding dist
  anticlockwise r e = omega (arith, subst (λ l. 2 < length l → Grows l) e (r.clockwise 1 2 (omega arith)) (omega arith))

  pub too_many : (r : RollIsRing two members w 0) → r.list ≡ 0 ∷ 1 ∷ 2 ∷ [] → ⊥
  too_many r e = omega (arith, r.few, ap length e)

-- The call is refused by 1, whatever room there is.
number : Rolled → ℕ
number z = refusal z.outcome

pub refused_with_room : RollIsRing two (0 ∷ []) [] 0 → ⊥
unfolding number refusal roll_call on_record long require when◌then◌else◌
refused_with_room r = omega (arith, ap number (r.call r.list (omega arith)))

pub refused_without_room : RollIsRing two (0 ∷ []) [] 0 → ⊥
unfolding number refusal roll_call on_record long require when◌then◌else◌
refused_without_room r = omega (arith, ap number (r.no_room [] (some r.list r.starts)))
  where
    some : (l : List ℕ) → get_or l 0 none ≡ 0 → 0 < length l
    some [] e = absurd (omega (arith, e))
    some (x ∷ l) e = omega arith

-- THE OWNER. What the query says of two rows that are well formed.
says : (h g : Row) → T (formed (rows h g))
    → owner_call (ring h g []) 7 ≡ require (nat_lt (lowest_holder (rows h g) 7) 2) (Err NoHolder) (Ok (lowest_holder (rows h g) 7))
unfolding owner_call words
says h g t =
    let f = tested_form (rows h g) (omega arith) (omega arith) (omega arith) t in
    record_rest (ring h g []) Err _ (long_words (rows h g) [] f) (T_true _ (well_formed_words (rows h g) [] f))
    ∙ ap (λ z. require (nat_lt (lowest_holder z 7) 2) (Err NoHolder) (Ok (lowest_holder z 7))) (same h g [])

-- Nobody holds a number: 15.
pub nobody_holds : OwnerIsLedgers two (0 ∷ []) (ring (outside 100) (outside 200) []) 7 → ⊥
unfolding refusal formed distinct every row_ok pointers_ok lock_ok flag_ok holds responsible first require when◌then◌else◌
nobody_holds o = omega (arith, ap refusal (sym o.call ∙ says (outside 100) (outside 200) tt))

-- Hub 1 holds every number, and is not in the ledger.
owner_number : Owner → ℕ
owner_number nobody = none
owner_number (node hub) = hub

answer_of : Ownership → ℕ
answer_of (Err k) = none
answer_of (Ok hub) = hub

pub stranger_answers : OwnerIsLedgers two (0 ∷ []) (ring (outside 100) (alone 1 200) []) 7 → ⊥
unfolding owner_among nearer owner_number answer_of formed distinct every row_ok pointers_ok lock_ok flag_ok holds responsible covers within dist first require when◌then◌else◌
stranger_answers o = omega (arith, ap answer_of (sym o.call ∙ says (outside 100) (alone 1 200) tt), ap owner_number o.owner)

-- THE ROWS. Of the ring of hub 0 alone, if not said otherwise.
abbrev claimed : List ℕ → Row → Row → Type 0
claimed members h g = RowsAtRest two members (rows h g)

pub one_hub_more : RowsAtRest (100 ∷ []) (0 ∷ []) (rows (alone 0 100) (outside 200)) → ⊥
one_hub_more c = omega (arith, c.size)

pub another_name : claimed (0 ∷ []) (alone 0 101) (outside 200) → ⊥
another_name c = omega (arith, c.name 0)

pub no_member : claimed [] (outside 100) (outside 200) → ⊥
no_member c = c.some.1

pub member_no_hub : claimed (2 ∷ 0 ∷ []) (alone 0 100) (outside 200) → ⊥
member_no_hub c = omega (arith, c.below 2 (inl refl))

pub lock_taken : claimed (0 ∷ []) (record { identifier = 100; state = INSIDE; lock = 1; flag = 0; pred = 0; succ = 0; oldpred = none }) (outside 200) → ⊥
lock_taken c = omega (arith, c.lock 0)

pub flag_up : claimed (0 ∷ []) (record { identifier = 100; state = INSIDE; lock = 0; flag = 1; pred = 0; succ = 0; oldpred = 0 }) (outside 200) → ⊥
flag_up c = omega (arith, c.flag 0)

pub still_joining : claimed (0 ∷ []) (alone 0 100) (record { identifier = 200; state = JOINING; lock = 0; flag = 0; pred = none; succ = none; oldpred = none }) → ⊥
still_joining c = elim (c.state 1) [ inl e ↦ omega (arith, e) | inr e ↦ omega (arith, e) ]

pub member_outside : claimed (0 ∷ []) (outside 100) (outside 200) → ⊥
member_outside c = omega (arith, c.inside 0 (inl refl))

pub stranger_inside : claimed (0 ∷ []) (alone 0 100) (alone 1 200) → ⊥
stranger_inside c = elim (c.member 1 refl) [ inl e ↦ omega (arith, e) | inr k ↦ k ]

-- succ and pred: to a hub outside; not back again; and past a member.
pub succ_outside : claimed (0 ∷ []) (inside 100 0 1) (outside 200) → ⊥
succ_outside c = elim (c.succ_member 0 (inl refl)) [ inl e ↦ omega (arith, e) | inr k ↦ k ]

pub pred_outside : claimed (0 ∷ []) (inside 100 1 0) (outside 200) → ⊥
pred_outside c = elim (c.pred_member 0 (inl refl)) [ inl e ↦ omega (arith, e) | inr k ↦ k ]

pub pred_points_elsewhere : claimed (1 ∷ 0 ∷ []) (inside 100 1 0) (alone 1 200) → ⊥
pred_points_elsewhere c = omega (arith, c.succ_pred 0 (inr (inl refl)))

pub succ_knows_another : claimed (1 ∷ 0 ∷ []) (inside 100 0 1) (alone 1 200) → ⊥
succ_knows_another c = omega (arith, c.pred_succ 0 (inr (inl refl)))

pub succ_passes_a_member : claimed (1 ∷ 0 ∷ []) (alone 0 100) (alone 1 200) → ⊥
unfolding owner_among nearer dist after when◌then◌else◌ owner_number
succ_passes_a_member c = omega (arith, ap owner_number (c.succ_owner 0 (inr (inl refl))))

is_somebody : Owner → ℕ
is_somebody nobody = 0
is_somebody (node hub) = 1

-- Holders: a number that nobody owns; a holder that is no member; an owner that does not hold.
pub nobody_owns : claimed [] (alone 0 100) (outside 200) → ⊥
unfolding owner_among is_somebody
nobody_owns c = omega (arith, ap is_somebody (c.owned 7).1)

pub stranger_holds : claimed (0 ∷ []) (outside 100) (alone 1 200) → ⊥
unfolding owner_among nearer holds responsible covers within dist owner_number
stranger_holds c = omega (arith, ap owner_number (c.holder_owns 1 7 (omega arith) refl))

pub owner_holds_nothing : claimed (0 ∷ []) (outside 100) (alone 1 200) → ⊥
unfolding owner_among nearer holds responsible
owner_holds_nothing c = true≢false (sym (c.owner_holds 0 7 (omega arith) refl))

-- IN C. Bytes that are no record: `ring_roll` and `ring_owner` return 1.
pub no_roll_in_c : ToldAtRest two (0 ∷ []) [] → ⊥
unfolding roll_bytes roll_told roll_call on_record long refusal words_of require when◌then◌else◌
no_roll_in_c t =
    let r = t.rests.roll 0 (inl refl) in
    omega (arith, ap (λ z. z.code) (t.roll 0 (inl refl) (replicate 8 0) (replicate 4 0) (omega arith) (omega (arith, r.few)) (omega arith)))

pub no_owner_in_c : ToldAtRest two (0 ∷ []) [] → ⊥
unfolding owner_bytes told owner_call on_record long refusal words_of require when◌then◌else◌
no_owner_in_c t = omega (arith, ap (λ z. z.code) (t.owner 7 (omega arith) (replicate 4 0) (omega arith)).1)
