-- A range read by its three numbers is the interval (a, b], for every modulus n. Assumes nothing.
use Rattle.std.specs.Prelude.{◌≡◌, ℕ, ◌+◌, ◌<◌, ◌≤◌, true, ◌&&◌, ◌||◌, ◌≢◌, ◌⊎◌, nat_le, nat_lt}
use Rattle.std.proofs.Common.{sym, ◌∙◌, inl, inr, true≢false, arith, eq-eqb, ne_eqb, lt-ltb, le-ltb, le-leb}
use Rattle.std.proofs.lemmas.Bool.{false≢true, lt-leb}
use Rattle.std.proofs.Math.Decide.{dec_le, dec_lt, ℕ_discrete}
use Rattle.clockwise.specs.Clockwise.{dist, within, in_range}
use Rattle.clockwise.specs.Laws.{dist_lt, dist_law}

-- two comparisons that follow from each other
leb_alike : (x y u v : ℕ) → (x ≤ y → u ≤ v) → (u ≤ v → x ≤ y) → nat_le x y ≡ nat_le u v
leb_alike x y u v f g = go (dec_le x y) (dec_le u v)
  where
    go : Dec (x ≤ y) → Dec (u ≤ v) → nat_le x y ≡ nat_le u v
    go (yes k) _ = le-leb x y k ∙ sym (le-leb u v (f k))
    go (no k) (yes l) = absurd (k (g l))
    go (no k) (no l) = lt-leb x y (omega arith) ∙ sym (lt-leb u v (omega arith))

module _ (n : ℕ) where
  -- What is not below a lies straight ahead of it; what is below a lies past zero.
  ahead : (a b : ℕ) → a < n → b < n → a ≤ b → a + dist n a b ≡ b
  ahead a b ha hb l = go (dist_law n a b ha hb) (dist_lt n a b ha)
    where
      go : (a + dist n a b ≡ b) ⊎ (a + dist n a b ≡ b + n) → dist n a b < n → a + dist n a b ≡ b
      go (inl e) k = e
      go (inr e) k = absurd (omega arith)

  past : (a b : ℕ) → a < n → b < n → b < a → a + dist n a b ≡ b + n
  past a b ha hb l = go (dist_law n a b ha hb)
    where
      go : (a + dist n a b ≡ b) ⊎ (a + dist n a b ≡ b + n) → a + dist n a b ≡ b + n
      go (inl e) = absurd (omega arith)
      go (inr e) = e

  -- The interval in each case, for a number v that is a itself, above a, or below a.
  module _ (a b v : ℕ) (ha : a < n) (hb : b < n) (hv : v < n) where
    whole : a ≡ b → within n a b v ≡ true
    unfolding within
    whole e = simp (eq-eqb a b e)

    apart : a ≢ b → within n a b v ≡ (nat_le 1 (dist n a v) && nat_le (dist n a v) (dist n a b))
    unfolding within
    apart e = simp (ne_eqb a b e)

    below : a < b → within n a b v ≡ (nat_lt a v && nat_le v b)
    below l = apart (λ e. omega arith) ∙ go (ℕ_discrete a v) (dec_lt a v) (ahead a b ha hb (omega arith))
      where
        go : Dec (a ≡ v) → Dec (a < v) → a + dist n a b ≡ b → (nat_le 1 (dist n a v) && nat_le (dist n a v) (dist n a b)) ≡ (nat_lt a v && nat_le v b)
        go (yes e) _ y =
            let x : a + dist n a v ≡ v = ahead a v ha hv (omega arith) in
            simp (le-ltb a v (omega arith), lt-leb 1 (dist n a v) (omega arith))
        go (no e) (yes m) y =
            let x : a + dist n a v ≡ v = ahead a v ha hv (omega arith) in
            simp (lt-ltb a v m, le-leb 1 (dist n a v) (omega arith), leb_alike v b (dist n a v) (dist n a b) (λ k. omega arith) (λ k. omega arith))
        go (no e) (no m) y =
            let x : a + dist n a v ≡ v + n = past a v ha hv (omega arith) in
            simp (le-ltb a v (omega arith), le-leb 1 (dist n a v) (omega arith), lt-leb (dist n a v) (dist n a b) (omega arith))

    passing : b < a → within n a b v ≡ (nat_lt a v || nat_le v b)
    passing l = apart (λ e. omega arith) ∙ go (ℕ_discrete a v) (dec_lt a v) (past a b ha hb l)
      where
        go : Dec (a ≡ v) → Dec (a < v) → a + dist n a b ≡ b + n → (nat_le 1 (dist n a v) && nat_le (dist n a v) (dist n a b)) ≡ (nat_lt a v || nat_le v b)
        go (yes e) _ y =
            let x : a + dist n a v ≡ v = ahead a v ha hv (omega arith) in
            simp (le-ltb a v (omega arith), lt-leb v b (omega arith), lt-leb 1 (dist n a v) (omega arith))
        go (no e) (yes m) y =
            let x : a + dist n a v ≡ v = ahead a v ha hv (omega arith) in
            simp (lt-ltb a v m, le-leb 1 (dist n a v) (omega arith), le-leb (dist n a v) (dist n a b) (omega arith))
        go (no e) (no m) y =
            let x : a + dist n a v ≡ v + n = past a v ha hv (omega arith) in
            simp (le-ltb a v (omega arith), le-leb 1 (dist n a v) (omega arith), leb_alike v b (dist n a v) (dist n a b) (λ k. omega arith) (λ k. omega arith))

-- The three cases together, at every modulus.
pub range_within : (n a b v : ℕ) → a < n → b < n → v < n → in_range a b v ≡ within n a b v
unfolding in_range
range_within n a b v ha hb hv = go (ℕ_discrete a b) (dec_lt a b)
  where
    go : Dec (a ≡ b) → Dec (a < b) → in_range a b v ≡ within n a b v
    go (yes e) _ = simp (eq-eqb a b e, whole n a b v ha hb hv e)
    go (no e) (yes l) = simp (ne_eqb a b e, lt-ltb a b l, below n a b v ha hb hv l)
    go (no e) (no l) = simp (ne_eqb a b e, le-ltb a b (omega arith), passing n a b v ha hb hv (omega arith))

-- Each premise is needed: where a, b or v is not below the modulus, here 8, the two may differ.
pub beyond : (in_range 10 3 0 ≢ within 8 10 3 0) × (in_range 1 10 5 ≢ within 8 1 10 5) × (in_range 1 3 10 ≢ within 8 1 3 10)
unfolding in_range within dist
beyond = (true≢false, true≢false, false≢true)
