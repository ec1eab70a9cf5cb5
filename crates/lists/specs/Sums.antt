-- Sums over the numbers below a limit, and how many of them pass a test. Assumes nothing.
use Rattle.std.specs.Prelude.{◌≡◌, Bool, T}
use Rattle.std.proofs.Math.Path.{refl}
use Rattle.std.proofs.Common.{sym, ◌∙◌, ap, subst, mul-suc, add-one}
use Rattle.std.proofs.Math.Bool.{true, false}
use Prim.Native.Nat.{ℕ, zero, suc, ◌+◌, ◌*◌, ◌≤◌, ◌<◌}
use Rattle.std.proofs.Math.Decide.{dec_lt, ℕ_discrete}
use native.Mathlib.Omega.{arith}
use Rattle.lists.specs.Basics.{when◌then◌else◌}
use Rattle.lists.specs.Choice.{choose, passes}

-- 1 for yes
abbrev pub bit : Bool → ℕ
bit b = when b then 1 else 0

-- The sum of g 0, g 1, .., n of them. (Of bits: how many are yes.)
unfoldable pub total : (ℕ → ℕ) → ℕ → ℕ
total g zero = 0
total g (suc n) = total g n + g n

pub total_none : (g : ℕ → ℕ) → total g 0 ≡ 0
unfolding total
total_none g = refl

pub total_more : (g : ℕ → ℕ) (n : ℕ) → total g (n + 1) ≡ total g n + g n
unfolding total
total_more g n = ap (total g) (add-one n)

pub total_zero : (g : ℕ → ℕ) (n : ℕ) → ((i : ℕ) → i < n → g i ≡ 0) → total g n ≡ 0
unfolding total
total_zero g zero h = refl
total_zero g (suc n) h = omega (arith, total_zero g n (λ i l. h i (omega arith)), h n (omega arith))

pub total_plus : (f g k : ℕ → ℕ) (n : ℕ) → ((i : ℕ) → k i ≡ f i + g i) → total k n ≡ total f n + total g n
unfolding total
total_plus f g k zero e = refl
total_plus f g k (suc n) e = omega (arith, total_plus f g k n e, e n)

pub total_le : (f g : ℕ → ℕ) (n : ℕ) → ((i : ℕ) → i < n → f i ≤ g i) → total f n ≤ total g n
unfolding total
total_le f g zero h = omega arith
total_le f g (suc n) h = omega (arith, total_le f g n (λ i l. h i (omega arith)), h n (omega arith))

-- those behind n are 0
pub total_cut : (g : ℕ → ℕ) (n c : ℕ) → n ≤ c → ((i : ℕ) → n ≤ i → g i ≡ 0) → total g c ≡ total g n
unfolding total
total_cut g n zero l h = let e : n ≡ zero = omega arith in ap (total g) (sym e)
total_cut g n (suc c) l h = elim (ℕ_discrete n (suc c)) [
  | yes e ↦ ap (total g) (sym e)
  | no e ↦ (let r = total_cut g n c (omega arith) h in omega (arith, h c (omega arith)))
]

-- each at most q
pub total_most : (g : ℕ → ℕ) (q n : ℕ) → ((i : ℕ) → g i ≤ q) → total g n ≤ q * n
unfolding total
total_most g q zero h = omega arith
total_most g q (suc n) h = let e : q * suc n ≡ q * n + q = mul-suc q n in omega (arith, total_most g q n h, h n, e)

-- sums that are equal, of terms of which none is less
pub total_tight : (f g : ℕ → ℕ) (n : ℕ) → ((i : ℕ) → i < n → f i ≤ g i) → total g n ≤ total f n → (i : ℕ) → i < n → f i ≡ g i
unfolding total
total_tight f g zero h e i l = absurd (omega arith)
total_tight f g (suc n) h e i l =
    let a = total_le f g n (λ i l. h i (omega arith)) in
    let b = h n (omega arith) in
    elim (ℕ_discrete i n) [
      | yes q ↦ (let z : f n ≡ g n = omega arith in ap f q ∙ z ∙ sym (ap g q))
      | no q ↦ total_tight f g n (λ j k. h j (omega arith)) (omega arith) i (omega arith)
    ]

-- none is more, and one is less: the sum is less
pub total_lt : (f g : ℕ → ℕ) (n i : ℕ) → i < n → ((j : ℕ) → j < n → f j ≤ g j) → f i < g i → total f n < total g n
total_lt f g n i l h k = go (dec_lt (total f n) (total g n))
  where
    go : Dec (total f n < total g n) → total f n < total g n
    go (yes m) = m
    go (no m) = absurd (omega (arith, k, total_tight f g n h (omega arith) i l))

-- one place alone
pub total_one : (f : ℕ → Bool) (n o : ℕ) → o < n → T (f o) → ((i : ℕ) → T (f i) → i ≡ o) → total (λ i. bit (f i)) n ≡ 1
unfolding total
total_one f zero o l t only = absurd (omega arith)
total_one f (suc n) o l t only = elim (ℕ_discrete o n) [
  | yes e ↦ (let a = total_zero (λ i. bit (f i)) n (λ i k. off i (λ z. omega (arith, only i z))) in
      let b : bit (f n) ≡ 1 = passes (λ z. z ≡ 1) (f n) 1 0 (subst (λ z. T (f z)) e t) refl in omega arith)
  | no e ↦ (let b = off n (λ z. e (sym (only n z))) in omega (arith, total_one f n o (omega arith) t only))
]
  where
    off : (i : ℕ) → (T (f i) → ⊥) → bit (f i) ≡ 0
    off i ne = choose (λ z. z ≡ 0) (f i) 1 0 (λ k. absurd (ne k)) (λ _. refl)

pub at_most_one : (f : ℕ → Bool) (n : ℕ) → ((i j : ℕ) → i < n → j < n → T (f i) → T (f j) → i ≡ j) → total (λ i. bit (f i)) n ≤ 1
unfolding total when◌then◌else◌
at_most_one f zero one = omega arith
at_most_one f (suc n) one = go (f n) refl (at_most_one f n (λ i j a b. one i j (omega arith) (omega arith)))
  where
    go : (b : Bool) → f n ≡ b → total (λ i. bit (f i)) n ≤ 1 → total (λ i. bit (f i)) n + bit b ≤ 1
    go true e r = omega (arith, total_zero (λ i. bit (f i)) n (λ i l. choose (λ z. z ≡ 0) (f i) 1 0 (λ t. absurd (omega (arith, one i n (omega arith) (omega arith) t (subst T (sym e) tt)))) (λ _. refl)))
    go false e r = omega (arith, r)
