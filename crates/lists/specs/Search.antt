-- The first place at which a test passes. Assumes nothing.
use Rattle.std.specs.Prelude.{◌≡◌, Bool, ◌⊎◌, Option, Some, None, ◌≤◌, MatchOption}
use Rattle.std.proofs.Math.Path.{refl, ap}
use Rattle.std.proofs.Common.{◌∙◌, sym, eq-or-lt_of_le, le_of_suc-le-suc, add-one, arith}
use Rattle.std.proofs.Math.Bool.{true, false}
use Rattle.std.proofs.Math.Logic.{inl, inr, ⊎_elim}
use Prim.Native.Nat.{ℕ, suc, zero, ◌+◌, ◌<◌}
use borrow.Author.Tests.{lt-ltb, le-ltb}
use Rattle.lists.specs.Basics.{when◌then◌else◌, first}

module _ (f : ℕ → Bool) where
  pub first_none : first f 0 ≡ 0
  unfolding first
  first_none = refl

  pub first_more : (i : ℕ) → first f i ≡ i → f i ≡ false → first f (i + 1) ≡ i + 1
  unfolding first when◌then◌else◌
  first_more i p q = rw (add-one, p, le-ltb i i (omega arith), q)

  pub first_at : (n i : ℕ) → first f i ≡ i → f i ≡ true → i < n → first f n ≡ i
  unfolding first when◌then◌else◌
  first_at zero i p q h = absurd (omega arith)
  first_at (suc n) i p q h =
      ⊎_elim
      (λ e. rw (← e, p, le-ltb i i (omega arith), q))
      (λ l. rw (first_at n i p q l, lt-ltb i n l))
      (eq-or-lt_of_le (le_of_suc-le-suc h))

  -- how a search ends
  pub record Located (n : ℕ) : Type 0 where
    pub below : first f n < n
    pub here : f (first f n) ≡ true
    pub before : (i : ℕ) → i < first f n → f i ≡ false

  pub record Missed (n : ℕ) : Type 0 where
    pub end : first f n ≡ n
    pub none : (i : ℕ) → i < n → f i ≡ false

  pub search_ends : (n : ℕ) → Located n ⊎ Missed n
  unfolding first when◌then◌else◌
  search_ends zero = inr (record { end = refl; none = λ i h. absurd (omega arith) })
  search_ends (suc n) = go (search_ends n) (f n) refl
    where
      go : Located n ⊎ Missed n → (b : Bool) → f n ≡ b → Located (suc n) ⊎ Missed (suc n)
      go (inl k) b e =
          let s : first f (suc n) ≡ first f n = rw (lt-ltb _ n k.below) in
          inl (record { below = omega (arith, k.below); here = rw s k.here; before = rw s k.before })
      go (inr k) true e =
          let s : first f (suc n) ≡ n = rw (k.end, le-ltb n n (omega arith), e) in
          inl (record { below = omega arith; here = rw s e; before = rw s k.none })
      go (inr k) false e =
          let s : first f (suc n) ≡ suc n = rw (k.end, le-ltb n n (omega arith), e) in
          inr (record {
            end = s;
            none = λ i h. ⊎_elim (λ q. ap f q ∙ e) (λ q. k.none i q) (eq-or-lt_of_le (le_of_suc-le-suc h));
          })

pub first_cong : (f g : ℕ → Bool) (n : ℕ) → ((i : ℕ) → i < n → f i ≡ g i) → first f n ≡ first g n
unfolding first
first_cong f g zero h = refl
first_cong f g (suc n) h = rw (first_cong f g n (λ i l. h i (omega arith)), h n (omega arith))

-- What a search over the numbers below n says of its answer, and that it is the first.
pub first_found : (f : ℕ → Bool) (n : ℕ) (r : Option ℕ)
    → MatchOption r ((k : ℕ) → 0 ≤ k → k < n → f k ≡ false) (λ i. (0 ≤ i) × (i < n) × (f i ≡ true) × ((k : ℕ) → 0 ≤ k → k < i → f k ≡ false))
    → MatchOption r (first f n ≡ n) (λ i. (i ≡ first f n) × (i < n))
first_found f n None none = go (search_ends f n)
  where
    go : Located f n ⊎ Missed f n → first f n ≡ n
    go (inl k) = let q : ◌≡◌ {A = Bool} false true = sym (none (first f n) (omega arith) k.below) ∙ k.here in cc
    go (inr k) = k.end
first_found f n (Some i) (low, below, here, before) = (sym (first_at f n i (start i before) here below), below)
  where
    start : (m : ℕ) → ((k : ℕ) → 0 ≤ k → k < m → f k ≡ false) → first f m ≡ m
    start zero none = first_none f
    start (suc m) none = sym (ap (λ k. first f k) (add-one m)) ∙ first_more f m (start m (λ k a b. none k a (omega arith))) (none m (omega arith) (omega arith)) ∙ add-one m
