-- The members' numbers go round the circle just once. So where gaps that are none too small add up to one circle, each of them is the member's reach.
-- Assumes nothing.
use Rattle.std.specs.Prelude.{◌≡◌, ◌⊎◌, Bool, ◌&&◌, List, T, length, get_or}
use Rattle.std.proofs.Math.Path.{refl}
use Rattle.std.proofs.Common.{sym, ◌∙◌, inl, inr, leb→le, le→leb, eqb→eq, T_not}
use Rattle.std.proofs.Math.Bool.{true, false}
use Prim.Native.Nat.{ℕ, zero, suc, ◌+◌, ◌≤◌, ◌<◌}
use Rattle.std.proofs.Math.Decide.{dec_le}
use native.Mathlib.Omega.{arith}
use Rattle.std.proofs.Common.{nat_le, nat_eq}
use Rattle.std.proofs.Math.ListN.{get_or-eq_default}
use Rattle.clockwise.specs.Clockwise.{dist}
use Rattle.clockwise.specs.Laws.{dist_law}
use Rattle.lists.specs.Basics.{when◌then◌else◌}
use Rattle.lists.specs.Choice.{choose, passes}
use Rattle.lists.specs.Sums.{bit, total, total_zero, total_plus, total_le, total_tight, total_one, at_most_one}
use Rattle.lists.specs.Tests.{→eqb, and_left, and_right, and_both}
use Rattle.protocol.specs.Record.{round}
use Rattle.protocol.specs.Cards.{marked}
use Rattle.layout.specs.Owners.{Owns, Names}
use Rattle.cardlayout.specs.Marks.{Marked, mem_marked, marked_mem, home_is}
use Rattle.cardlayout.specs.Reach.{top, gap, gap_to, least, least_says, reach, reach_owns, owns_reach, owner_of}

-- How many numbers are no farther than r, by distances that differ: r + 1 at most.
within_most : (d : ℕ → ℕ) (n : ℕ) → ((i j : ℕ) → i < n → j < n → d i ≡ d j → i ≡ j) → (r : ℕ) → total (λ v. bit (nat_le (d v) r)) n ≤ r + 1
within_most d n inj zero =
    at_most_one (λ v. nat_le (d v) zero) n (λ i j a b s t. inj i j a b (omega (arith, leb→le (d i) 0 s, leb→le (d j) 0 t)))
within_most d n inj (suc r) =
    omega (
      arith,
      within_most d n inj r,
      at_most_one (λ v. nat_eq (d v) (suc r)) n (λ i j a b s t. inj i j a b (eqb→eq _ _ s ∙ sym (eqb→eq _ _ t))),
      total_le (λ v. bit (nat_le (d v) (suc r))) (λ v. bit (nat_le (d v) r) + bit (nat_eq (d v) (suc r))) n (λ v l. more v),
      total_plus (λ v. bit (nat_le (d v) r)) (λ v. bit (nat_eq (d v) (suc r))) (λ v. bit (nat_le (d v) r) + bit (nat_eq (d v) (suc r))) n (λ v. refl),
    )
  where
    more : (v : ℕ) → bit (nat_le (d v) (suc r)) ≤ bit (nat_le (d v) r) + bit (nat_eq (d v) (suc r))
    more v = choose (λ z. z ≤ bit (nat_le (d v) r) + bit (nat_eq (d v) (suc r))) (nat_le (d v) (suc r)) 1 0 (λ t. go (leb→le _ _ t) (dec_le (d v) r)) (λ _. omega arith)
      where
        go : d v ≤ suc r → Dec (d v ≤ r) → 1 ≤ bit (nat_le (d v) r) + bit (nat_eq (d v) (suc r))
        go l (yes k) = omega (arith, passes (λ (z : ℕ). z ≡ 1) (nat_le (d v) r) 1 0 (le→leb _ _ k) refl)
        go l (no k) = omega (arith, passes (λ (z : ℕ). z ≡ 1) (nat_eq (d v) (suc r)) 1 0 (→eqb (d v) (suc r) (omega arith)) refl)

-- A ring's identifiers, and marks of some of its hubs, one at least.
module _ (ids marks : List ℕ) (N : Names ids) (below : (h : ℕ) → Marked marks h → h < length ids) (m : ℕ) (some : Marked marks m) where
  abbrev id : ℕ → ℕ
  id h = get_or ids h 0

  abbrev c : ℕ
  c = length marks

  -- hub h owns number v
  abbrev own : ℕ → ℕ → Bool
  own h v = nat_eq (get_or marks h 0) 1 && nat_le (dist round v (id h)) (reach ids marks h)

  -- each number has one owner
  owned_once : (v : ℕ) → v < round → total (λ h. bit (own h v)) c ≡ 1
  owned_once v lv =
      let o = owner_of ids marks N below m v some in
      let k = mem_marked marks o.0 o.1.member in
      total_one (λ h. own h v) c o.0 k.below
      (and_both (nat_eq (get_or marks o.0 0) 1) _ (→eqb _ 1 k.at) (le→leb _ _ (owns_reach ids marks N below o.0 v lv (λ x i. o.1.least x (marked_mem marks x i)))))
      (λ h t. only h o.0 o.1 t)
    where
      only : (h o : ℕ) → Owns ids (marked marks) v o → T (own h v) → h ≡ o
      only h o w t =
          let e = eqb→eq (get_or marks h 0) 1 (and_left (nat_eq (get_or marks h 0) 1) _ t) in
          sym (home_is (reach_owns ids marks N below h v lv (record { below = inside h e; at = e }) (leb→le _ _ (and_right (nat_eq (get_or marks h 0) 1) _ t)))) ∙ home_is w
        where
          inside : (h : ℕ) → get_or marks h 0 ≡ 1 → h < c
          inside h e = elim (dec_le c h) [ yes l ↦ absurd (omega (arith, e, get_or-eq_default marks 0 l)) | no l ↦ omega arith ]

  -- so all of them together own every number once
  owned : (n : ℕ) → n ≤ round → total (λ h. total (λ v. bit (own h v)) n) c ≡ n
  unfolding total
  owned zero l = total_zero (λ h. 0) c (λ i k. refl)
  owned (suc n) l =
      total_plus (λ h. total (λ v. bit (own h v)) n) (λ h. bit (own h n)) (λ h. total (λ v. bit (own h v)) n + bit (own h n)) c (λ h. refl)
      ∙ omega (arith, owned n (omega arith), owned_once n (omega arith))

  abbrev arc : (ℕ → ℕ) → ℕ → ℕ
  arc far h = when nat_eq (get_or marks h 0) 1 then far h + 1 else 0

  -- a member owns at most one number more than its reach
  arc_most : (h : ℕ) → total (λ v. bit (own h v)) round ≤ arc (reach ids marks) h
  unfolding when◌then◌else◌
  arc_most h = go (nat_eq (get_or marks h 0) 1) refl
    where
      go : (b : Bool) → nat_eq (get_or marks h 0) 1 ≡ b → total (λ v. bit (b && nat_le (dist round v (id h)) (reach ids marks h))) round ≤ (when b then reach ids marks h + 1 else 0)
      go true e = within_most (λ v. dist round v (id h)) round (λ i j a b q. back i j a b q) (reach ids marks h)
        where
          back : (i j : ℕ) → i < round → j < round → dist round i (id h) ≡ dist round j (id h) → i ≡ j
          back i j a b q = same (dist_law round i (id h) a (N.small h)) (dist_law round j (id h) b (N.small h))
            where
              same : (i + dist round i (id h) ≡ id h) ⊎ (i + dist round i (id h) ≡ id h + round) → (j + dist round j (id h) ≡ id h) ⊎ (j + dist round j (id h) ≡ id h + round) → i ≡ j
              same (inl x) (inl y) = omega arith
              same (inl x) (inr y) = omega arith
              same (inr x) (inl y) = omega arith
              same (inr x) (inr y) = omega arith
      go false e = let z = total_zero (λ v. bit (false && nat_le (dist round v (id h)) (reach ids marks h))) round (λ i k. refl) in omega (arith, z)

  -- Gaps that are none too small, and go round once.
  pub once_round : (far : ℕ → ℕ) → ((h : ℕ) → Marked marks h → reach ids marks h ≤ far h) → total (arc far) c ≡ round
      → (h : ℕ) → Marked marks h → far h ≡ reach ids marks h
  once_round far enough e h k =
      let a = total_le (λ x. total (λ v. bit (own x v)) round) (arc (reach ids marks)) c (λ x l. arc_most x) in
      let q = total_tight (arc (reach ids marks)) (arc far) c each (omega (arith, owned round (omega arith))) h k.below in
      let x = passes (λ z. z ≡ reach ids marks h + 1) (nat_eq (get_or marks h 0) 1) (reach ids marks h + 1) 0 (→eqb _ 1 k.at) refl in
      let y = passes (λ z. z ≡ far h + 1) (nat_eq (get_or marks h 0) 1) (far h + 1) 0 (→eqb _ 1 k.at) refl in
      omega (arith, q, x, y)
    where
      each : (x : ℕ) → x < c → arc (reach ids marks) x ≤ arc far x
      each x l =
          choose (λ z. z ≤ arc far x) (nat_eq (get_or marks x 0) 1) (reach ids marks x + 1) 0
          (λ t. omega (arith, passes (λ z. z ≡ far x + 1) (nat_eq (get_or marks x 0) 1) (far x + 1) 0 t refl, enough x (record { below = l; at = eqb→eq _ 1 t })))
          (λ _. omega arith)

-- A marked hub's gap is none too small.
pub gap_enough : (ids marks : List ℕ) (h p : ℕ) → Marked marks p → reach ids marks h ≤ gap (get_or ids p 0) (get_or ids h 0)
unfolding reach gap_to
gap_enough ids marks h p k =
    choose (λ z. least (gap_to ids marks h) (length marks) ≤ z → least (gap_to ids marks h) (length marks) ≤ gap (get_or ids p 0) (get_or ids h 0)) (nat_eq (get_or marks p 0) 1) (gap (get_or ids p 0) (get_or ids h 0)) top
    (λ _ l. l) (λ t _. absurd (T_not (nat_eq (get_or marks p 0) 1) t (→eqb _ 1 k.at)))
    ((least_says (gap_to ids marks h) (length marks) (least (gap_to ids marks h) (length marks)) (omega arith)).1 p k.below)
