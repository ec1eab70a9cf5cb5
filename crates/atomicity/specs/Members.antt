-- The ledger's members as the invariant sees them, and its owner as document 01 computes it. Assumes nothing.
use Rattle.std.specs.Prelude.{◌≡◌, refl, ◌≢◌, Bool, true, false, List, [], ◌∷◌, ℕ, ◌<◌, T, nat_eq, length, get_or}
use Rattle.std.proofs.Common.{sym, ◌∙◌, ap, inl, inr, arith, eqb→eq, T_not}
use Rattle.lists.specs.Basics.{when◌then◌else◌, Mem}
use Rattle.lists.specs.Choice.{choose, passes}
use Rattle.lists.specs.Tests.{→eqb}
use Rattle.protocol.specs.Record.{round}
use Rattle.protocol.specs.Membership.{mark, struck_off, taken_in, node, owner_among}
use Rattle.layout.specs.Owners.{Names, owner_is}
use Rattle.atomicity.specs.Neighbours.{Owner}

pub mark_head : (members : List ℕ) (h : ℕ) → mark (h ∷ members) h ≡ 1
unfolding mark
mark_head members h = passes (λ z. z ≡ 1) (nat_eq h h) 1 (mark members h) (→eqb h h refl) refl

pub mark_tail : (members : List ℕ) (k h : ℕ) → h ≢ k → mark (k ∷ members) h ≡ mark members h
unfolding mark
mark_tail members k h ne = choose (λ z. z ≡ mark members h) (nat_eq k h) 1 (mark members h) (λ t. absurd (ne (sym (eqb→eq k h t)))) (λ _. refl)

-- striking off
pub struck_same : (members : List ℕ) (h : ℕ) → mark (struck_off members h) h ≡ 0
unfolding struck_off mark
struck_same [] h = refl
struck_same (k ∷ members) h =
    choose (λ z. mark z h ≡ 0) (nat_eq k h) (struck_off members h) (k ∷ struck_off members h)
    (λ _. struck_same members h)
    (λ t. mark_tail (struck_off members h) k h (λ e. T_not (nat_eq k h) t (→eqb k h (sym e))) ∙ struck_same members h)

pub struck_other : (members : List ℕ) (h x : ℕ) → x ≢ h → mark (struck_off members h) x ≡ mark members x
unfolding struck_off mark
struck_other [] h x ne = refl
struck_other (k ∷ members) h x ne =
    choose (λ z. mark z x ≡ mark (k ∷ members) x) (nat_eq k h) (struck_off members h) (k ∷ struck_off members h)
    (λ t. struck_other members h x ne ∙ sym (mark_tail members k x (λ e. ne (e ∙ eqb→eq k h t))))
    (λ _. both (struck_other members h x ne))
  where
    both : mark (struck_off members h) x ≡ mark members x → mark (k ∷ struck_off members h) x ≡ mark (k ∷ members) x
    both e = ap (λ z. when nat_eq k x then 1 else z) e

-- taking in
pub taken_in_same : (members : List ℕ) (h : ℕ) → mark (taken_in members h) h ≡ 1
unfolding taken_in
taken_in_same members h = mark_head (struck_off members h) h

pub taken_in_other : (members : List ℕ) (h x : ℕ) → x ≢ h → mark (taken_in members h) x ≡ mark members x
unfolding taken_in
taken_in_other members h x ne = mark_tail (struck_off members h) h x ne ∙ struck_other members h x ne

-- a marked hub is in the list
pub marked : (members : List ℕ) (h : ℕ) → mark members h ≡ 1 → Mem h members
unfolding mark when◌then◌else◌
marked [] h e = absurd (omega arith)
marked (k ∷ members) h e = go (nat_eq k h) (λ t. eqb→eq k h t) (marked members h) e
  where
    go : (b : Bool) → (T b → k ≡ h) → (mark members h ≡ 1 → Mem h members) → (when b then 1 else mark members h) ≡ 1 → Mem h (k ∷ members)
    go true f g e = inl (sym (f tt))
    go false f g e = inr (g e)

pub mem_marked : (members : List ℕ) (h : ℕ) → Mem h members → mark members h ≡ 1
unfolding mark
mem_marked (k ∷ members) h (inl e) = passes (λ z. z ≡ 1) (nat_eq k h) 1 (mark members h) (→eqb k h (sym e)) refl
mem_marked (k ∷ members) h (inr i) = choose (λ z. z ≡ 1) (nat_eq k h) 1 (mark members h) (λ _. refl) (λ _. mem_marked members h i)
mem_marked [] h i = absurd i

-- The owner by the invariant is the owner that the ledger computes.
pub owner_computed : (ids : List ℕ) → Names ids → (members : List ℕ) → ((h : ℕ) → mark members h ≡ 1 → h < length ids) → (v h : ℕ) → v < round
    → Owner round (λ k. get_or ids k 0) (mark members) v h → owner_among ids members v ≡ node h
owner_computed ids N members below v h lv o =
    (owner_is ids members N (λ k i. below k (mem_marked members k i)) v h lv (marked members h o.member) (λ k i. o.least k (mem_marked members k i))).is
