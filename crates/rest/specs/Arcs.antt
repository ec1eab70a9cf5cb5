-- Clockwise arithmetic alone, for every modulus n: the number after one, and how far two points are from a third. Assumes nothing.
use Rattle.std.specs.Prelude.{◌≡◌, ◌⊎◌, ◌≢◌, T, ℕ, ◌+◌, ◌%◌, ◌≤◌, ◌<◌}
use Rattle.std.proofs.Common.{sym, ◌∙◌, ap, inl, inr, arith}
use Rattle.std.proofs.Math.Nat.{mod-eq_of_lt, mod-lt, mod_self}
use Rattle.std.proofs.Math.Decide.{dec_lt, ℕ_discrete}
use Rattle.clockwise.specs.Clockwise.{dist, within}
use Rattle.clockwise.specs.Laws.{In, dist_lt, dist_law, dist_self, dist_pos, dist_zero, tri}
use Rattle.lists.specs.Tests.{says_and, says_or, says_le, says_eq}

-- What is in an interval passes its test. (`within_in`, of clockwise, is the way back.)
pub in_within : (n a b v : ℕ) → In n a b v → T (within n a b v)
unfolding In within
in_within n a b v = (says_or (says_eq a b) (says_and (says_le 1 (dist n a v)) (says_le (dist n a v) (dist n a b)))).fro

-- The number one clockwise of a.
unfoldable pub after : ℕ → ℕ → ℕ
after n a = (a + 1) % n

module _ (n : ℕ) where
  pub after_lt : (a : ℕ) → 0 < n → after n a < n
  unfolding after
  after_lt a h = mod-lt (a + 1) h

  after_law : (a : ℕ) → a < n → (after n a ≡ a + 1) ⊎ ((a + 1 ≡ n) × (after n a ≡ 0))
  unfolding after
  after_law a h = go (dec_lt (a + 1) n)
    where
      go : Dec (a + 1 < n) → ((a + 1) % n ≡ a + 1) ⊎ ((a + 1 ≡ n) × ((a + 1) % n ≡ 0))
      go (yes l) = inl (mod-eq_of_lt l)
      go (no l) =
          let e : a + 1 ≡ n = omega arith in
          inr (e, ap (λ z. z % n) e ∙ mod_self n)

  after_dist : (a : ℕ) → a < n → 2 ≤ n → dist n a (after n a) ≡ 1
  after_dist a h l = go (after_law a h) (dist_law n a (after n a) h (after_lt a (omega arith))) (dist_lt n a (after n a) h)
    where
      go : (after n a ≡ a + 1) ⊎ ((a + 1 ≡ n) × (after n a ≡ 0))
          → (a + dist n a (after n a) ≡ after n a) ⊎ (a + dist n a (after n a) ≡ after n a + n) → dist n a (after n a) < n → dist n a (after n a) ≡ 1
      go (inl x) (inl y) k = omega arith
      go (inl x) (inr y) k = omega arith
      go (inr x) (inl y) k = omega arith
      go (inr x) (inr y) k = omega arith

  -- the number after a is in (a, b]
  pub in_after : (a b : ℕ) → a < n → b < n → 2 ≤ n → In n a b (after n a)
  unfolding In
  in_after a b ha hb l = go (ℕ_discrete a b)
    where
      go : Dec (a ≡ b) → (a ≡ b) ⊎ ((1 ≤ dist n a (after n a)) × (dist n a (after n a) ≤ dist n a b))
      go (yes e) = inl e
      go (no e) = inr (omega (arith, after_dist a ha l), omega (arith, after_dist a ha l, dist_pos n a b ha hb e))

  abbrev Legs : ℕ → ℕ → ℕ → Type 0
  Legs a b c = (dist n a b + dist n b c ≡ dist n a c) ⊎ (dist n a b + dist n b c ≡ dist n a c + n)

  -- from a point of (k, p] it is less far to p than to k
  pub nearer_end : (k p v : ℕ) → k < n → p < n → v < n → k ≢ p → In n k p v → dist n v p < dist n v k
  unfolding In
  nearer_end k p v hk hp hv ne i = go i (tri n k v p hk hv hp) (tri n k v k hk hv hk) (dist_self n k hk) (dist_lt n k p hk) (dist_lt n v p hv)
    where
      go : (k ≡ p) ⊎ ((1 ≤ dist n k v) × (dist n k v ≤ dist n k p)) → Legs k v p → Legs k v k → dist n k k ≡ 0 → dist n k p < n → dist n v p < n
          → dist n v p < dist n v k
      go (inl e) _ _ _ _ _ = absurd (ne e)
      go (inr w) (inl x) (inl y) z l m = omega arith
      go (inr w) (inl x) (inr y) z l m = omega arith
      go (inr w) (inr x) (inl y) z l m = omega arith
      go (inr w) (inr x) (inr y) z l m = omega arith

  -- Seen from a: where (x, y] passes by a, y is further than x, and what is further than x and no further than y is in it.
  module _ (a x y : ℕ) (ha : a < n) (hx : x < n) (hy : y < n) (out : In n x y a → ⊥) where
    apart : x ≢ y
    unfolding In
    apart e = out (inl e)

    -- the way from x to a is longer than that to y, unless x is a
    beyond : x ≢ a → dist n x y < dist n x a
    unfolding In
    beyond ne = go (dec_lt (dist n x y) (dist n x a))
      where
        go : Dec (dist n x y < dist n x a) → dist n x y < dist n x a
        go (yes l) = l
        go (no l) = absurd (out (inr (dist_pos n x a hx ha ne, omega arith)))

    pub whole_leg : dist n a x + dist n x y ≡ dist n a y
    whole_leg = go (ℕ_discrete x a) (tri n a x y ha hx hy) (tri n a x a ha hx ha) (dist_self n a ha) (dist_lt n a y ha) (dist_lt n x y hx) (dist_lt n x a hx)
      where
        go : Dec (x ≡ a) → Legs a x y → Legs a x a → dist n a a ≡ 0 → dist n a y < n → dist n x y < n → dist n x a < n → dist n a x + dist n x y ≡ dist n a y
        go (yes e) (inl p) q z l m k = p
        go (yes e) (inr p) q z l m k = absurd (omega (arith, ap (λ w. dist n a w) e))
        go (no e) (inl p) q z l m k = p
        go (no e) (inr p) (inl q) z l m k = omega (arith, beyond e)
        go (no e) (inr p) (inr q) z l m k = omega (arith, beyond e)

    pub further : dist n a x < dist n a y
    further = omega (arith, whole_leg, dist_pos n x y hx hy apart)

    pub in_leg : (m : ℕ) → m < n → dist n a x < dist n a m → dist n a m ≤ dist n a y → In n x y m
    unfolding In
    in_leg m hm l u = go (tri n a x m ha hx hm) (dist_lt n a m ha) (dist_lt n x m hx)
      where
        go : Legs a x m → dist n a m < n → dist n x m < n → (x ≡ y) ⊎ ((1 ≤ dist n x m) × (dist n x m ≤ dist n x y))
        go (inl p) q r = inr (omega (arith, whole_leg))
        go (inr p) q r = absurd (omega (arith, dist_lt n a x ha))

  -- what is further from a than x is in (x, a]
  pub in_rest : (a x m : ℕ) → a < n → x < n → m < n → dist n a x < dist n a m → In n x a m
  unfolding In
  in_rest a x m ha hx hm l = go (ℕ_discrete x a) (tri n a x m ha hx hm) (tri n a x a ha hx ha) (dist_self n a ha) (dist_lt n a m ha) (dist_lt n x m hx) (dist_lt n a x ha)
    where
      go : Dec (x ≡ a) → Legs a x m → Legs a x a → dist n a a ≡ 0 → dist n a m < n → dist n x m < n → dist n a x < n
          → (x ≡ a) ⊎ ((1 ≤ dist n x m) × (dist n x m ≤ dist n x a))
      go (yes e) _ _ _ _ _ _ = inl e
      go (no e) (inl p) (inl q) z r s t = absurd (e (sym (dist_zero n a x ha hx (omega arith))))
      go (no e) (inl p) (inr q) z r s t = inr (omega arith)
      go (no e) (inr p) q z r s t = absurd (omega arith)
