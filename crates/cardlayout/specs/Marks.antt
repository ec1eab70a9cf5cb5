-- The members that marks list, and the owner among them as a number. Assumes nothing.
use Rattle.std.specs.Prelude.{◌≡◌, refl, List, [], ◌∷◌, ℕ, zero, suc, ◌+◌, ◌≤◌, ◌<◌, nat_eq, length, get_or}
use Rattle.std.proofs.Common.{ap, subst, inl, inr, arith, eqb→eq, T_not}
use Rattle.lists.specs.Basics.{Mem}
use Rattle.lists.specs.Choice.{choose}
use Rattle.lists.specs.Tests.{→eqb}
use Rattle.protocol.specs.Cards.{marked_from, marked, hub_of, home}
use Rattle.layout.specs.Owners.{Owns}

-- who that is, as a number
pub home_is : {ids members : List ℕ} {v h : ℕ} → Owns ids members v h → home ids members v ≡ h
unfolding hub_of
home_is o = ap hub_of o.is

-- A marked hub.
pub record Marked (marks : List ℕ) (h : ℕ) : Type 0 where
  pub below : h < length marks
  pub at : get_or marks h 0 ≡ 1

marked_from_lem : (hub : ℕ) (marks : List ℕ) (h : ℕ) → Mem h (marked_from hub marks) → (j : ℕ) × (h ≡ hub + j) × (j < length marks) × (get_or marks j 0 ≡ 1)
unfolding marked_from
marked_from_lem hub [] h = λ i. absurd i
marked_from_lem hub (x ∷ marks) h =
    choose (λ z. Mem h z → (j : ℕ) × (h ≡ hub + j) × (j < length (x ∷ marks)) × (get_or (x ∷ marks) j 0 ≡ 1)) (nat_eq x 1) (hub ∷ marked_from (suc hub) marks) (marked_from (suc hub) marks)
    (λ t. elim [ inl e ↦ (0, omega arith, omega arith, eqb→eq x 1 t) | inr i ↦ later (marked_from_lem (suc hub) marks h i) ])
    (λ _ i. later (marked_from_lem (suc hub) marks h i))
  where
    later : (j : ℕ) × (h ≡ suc hub + j) × (j < length marks) × (get_or marks j 0 ≡ 1) → (j : ℕ) × (h ≡ hub + j) × (j < length (x ∷ marks)) × (get_or (x ∷ marks) j 0 ≡ 1)
    later r = (suc r.0, omega (arith, r.1), omega (arith, r.2), r.3)

from_marked : (hub : ℕ) (marks : List ℕ) (j : ℕ) → j < length marks → get_or marks j 0 ≡ 1 → (h : ℕ) → h ≡ hub + j → Mem h (marked_from hub marks)
unfolding marked_from
from_marked hub [] j l e h q = absurd (omega arith)
from_marked hub (x ∷ marks) zero l e h q =
    choose (Mem h) (nat_eq x 1) (hub ∷ marked_from (suc hub) marks) (marked_from (suc hub) marks)
    (λ _. inl (omega arith)) (λ t. absurd (T_not (nat_eq x 1) t (→eqb x 1 e)))
from_marked hub (x ∷ marks) (suc j) l e h q =
    let i = from_marked (suc hub) marks j (omega arith) e h (omega arith) in
    choose (Mem h) (nat_eq x 1) (hub ∷ marked_from (suc hub) marks) (marked_from (suc hub) marks) (λ _. inr i) (λ _. i)

pub mem_marked : (marks : List ℕ) (h : ℕ) → Mem h (marked marks) → Marked marks h
mem_marked marks h i =
    let r = marked_from_lem 0 marks h i in
    let e : r.0 ≡ h = omega (arith, r.1) in
    record { below = omega (arith, r.2); at = subst (λ z. get_or marks z 0 ≡ 1) e r.3 }

pub marked_mem : (marks : List ℕ) (h : ℕ) → Marked marks h → Mem h (marked marks)
marked_mem marks h m = from_marked 0 marks h m.below m.at h (omega arith)

-- some member
pub some_member : (l : List ℕ) → 1 ≤ length l → (h : ℕ) × Mem h l
some_member [] p = absurd (omega arith)
some_member (x ∷ l) p = (x, inl refl)

pub member_some : (l : List ℕ) (h : ℕ) → Mem h l → 1 ≤ length l
member_some [] h i = absurd i
member_some (x ∷ l) h i = omega arith
