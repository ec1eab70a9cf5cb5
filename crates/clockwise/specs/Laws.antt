-- Laws of distance and interval, for every modulus n: all that the ring needs of them. Assumes nothing.
use Rattle.std.specs.Prelude.{◌≡◌, ℕ, ◌+◌, ◌-◌, ◌%◌, ◌<◌, ◌≤◌, Bool, true, false, ◌&&◌, ◌||◌, T, ◌≢◌, ◌⊎◌, ◌==◌, nat_le}
use Rattle.std.proofs.Common.{sym, ◌∙◌, arith, leb→le, eqb→eq}
use Rattle.std.proofs.Math.Path.{ap}
use Rattle.std.proofs.Math.Logic.{inl, inr}
use Rattle.std.proofs.Math.Nat.{mod-eq_of_lt, mod-lt, add-mod_right}
use Rattle.std.proofs.Math.Decide.{dec_le, ℕ_discrete}
use Rattle.clockwise.specs.Clockwise.{dist, within}

-- v is in (a, b], as a statement
unfoldable pub In : ℕ → ℕ → ℕ → ℕ → Type 0
In n a b v = (a ≡ b) ⊎ ((1 ≤ dist n a v) × (dist n a v ≤ dist n a b))

-- what the test says
pub within_in : (n a b v : ℕ) → T (within n a b v) → In n a b v
unfolding within In
within_in n a b v t = go (a == b) (eqb→eq a b) (nat_le 1 (dist n a v)) (leb→le 1 (dist n a v)) (nat_le (dist n a v) (dist n a b)) (leb→le _ _) t
  where
    go : (p : Bool) → (T p → a ≡ b) → (q : Bool) → (T q → 1 ≤ dist n a v) → (r : Bool) → (T r → dist n a v ≤ dist n a b) → T (p || q && r)
        → (a ≡ b) ⊎ ((1 ≤ dist n a v) × (dist n a v ≤ dist n a b))
    go true f q g r h t = inl (f tt)
    go false f true g true h t = inr (g tt, h tt)
    go false f true g false h t = absurd t
    go false f false g r h t = absurd t

-- the sum at most one round ahead, taken back
mod_once : (n x : ℕ) → n ≤ x → x < n + n → x % n ≡ x - n
mod_once n x h k =
    let e : x ≡ (x - n) + n = omega arith in
    let l : x - n < n = omega arith in
    ap (λ y. y % n) e ∙ add-mod_right (x - n) n ∙ mod-eq_of_lt l

module _ (n : ℕ) where
  pub dist_lt : (a b : ℕ) → a < n → dist n a b < n
  unfolding dist
  dist_lt a b h = mod-lt (b + (n - a)) (omega arith)

  -- what distance is: the one number below n that takes a to b
  pub dist_law : (a b : ℕ) → a < n → b < n → (a + dist n a b ≡ b) ⊎ (a + dist n a b ≡ b + n)
  unfolding dist
  dist_law a b ha hb = go (dec_le a b)
    where
      go : Dec (a ≤ b) → (a + dist n a b ≡ b) ⊎ (a + dist n a b ≡ b + n)
      go (yes l) = inl (omega (arith, mod_once n (b + (n - a)) (omega arith) (omega arith)))
      go (no l) = inr (omega (arith, mod-eq_of_lt {n = b + (n - a)} {m = n} (omega arith)))

  pub dist_self : (a : ℕ) → a < n → dist n a a ≡ 0
  dist_self a h = go (dist_law a a h h) (dist_lt a a h)
    where
      go : (a + dist n a a ≡ a) ⊎ (a + dist n a a ≡ a + n) → dist n a a < n → dist n a a ≡ 0
      go (inl e) l = omega arith
      go (inr e) l = omega arith

  pub dist_inj : (p a b : ℕ) → p < n → a < n → b < n → dist n p a ≡ dist n p b → a ≡ b
  dist_inj p a b hp ha hb e = go (dist_law p a hp ha) (dist_law p b hp hb)
    where
      go : (p + dist n p a ≡ a) ⊎ (p + dist n p a ≡ a + n) → (p + dist n p b ≡ b) ⊎ (p + dist n p b ≡ b + n) → a ≡ b
      go (inl x) (inl y) = omega arith
      go (inl x) (inr y) = omega arith
      go (inr x) (inl y) = omega arith
      go (inr x) (inr y) = omega arith

  pub dist_zero : (p a : ℕ) → p < n → a < n → dist n p a ≡ 0 → p ≡ a
  dist_zero p a hp ha e = dist_inj p p a hp hp ha (dist_self p hp ∙ sym e)

  -- two legs are the way, or the way and a round
  pub tri : (a b c : ℕ) → a < n → b < n → c < n
      → (dist n a b + dist n b c ≡ dist n a c) ⊎ (dist n a b + dist n b c ≡ dist n a c + n)
  tri a b c ha hb hc = go (dist_law a b ha hb) (dist_law b c hb hc) (dist_law a c ha hc)
      (dist_lt a b ha) (dist_lt b c hb) (dist_lt a c ha)
    where
      go : (a + dist n a b ≡ b) ⊎ (a + dist n a b ≡ b + n) → (b + dist n b c ≡ c) ⊎ (b + dist n b c ≡ c + n)
          → (a + dist n a c ≡ c) ⊎ (a + dist n a c ≡ c + n)
          → dist n a b < n → dist n b c < n → dist n a c < n
          → (dist n a b + dist n b c ≡ dist n a c) ⊎ (dist n a b + dist n b c ≡ dist n a c + n)
      go (inl x) (inl y) (inl z) l m k = inl (omega arith)
      go (inl x) (inl y) (inr z) l m k = inr (omega arith)
      go (inl x) (inr y) (inl z) l m k = inr (omega arith)
      go (inl x) (inr y) (inr z) l m k = inl (omega arith)
      go (inr x) (inl y) (inl z) l m k = inr (omega arith)
      go (inr x) (inl y) (inr z) l m k = inl (omega arith)
      go (inr x) (inr y) (inl z) l m k = inr (omega arith)
      go (inr x) (inr y) (inr z) l m k = inr (omega arith)

  pub dist_pos : (a b : ℕ) → a < n → b < n → a ≢ b → 1 ≤ dist n a b
  dist_pos a b ha hb e = go (dec_le 1 (dist n a b))
    where
      go : Dec (1 ≤ dist n a b) → 1 ≤ dist n a b
      go (yes l) = l
      go (no l) = absurd (e (dist_zero a b ha hb (omega arith)))

  -- The interval laws that the ring needs. All points are below n.
  abbrev Legs : ℕ → ℕ → ℕ → Type 0
  Legs a b c = (dist n a b + dist n b c ≡ dist n a c) ⊎ (dist n a b + dist n b c ≡ dist n a c + n)

  -- what lies no farther from v than b, in an interval (a, b] of v's, is in that interval
  pub in_nearer : (a b v x : ℕ) → a < n → b < n → v < n → x < n → In n a b v → dist n v x ≤ dist n v b → In n a b x
  unfolding In
  in_nearer a b v x ha hb hv hx i l = go i (tri a v x ha hv hx) (tri a v b ha hv hb) (dist_lt a x ha) (dist_lt v b hv) (dist_lt a b ha)
    where
      go : (a ≡ b) ⊎ ((1 ≤ dist n a v) × (dist n a v ≤ dist n a b)) → Legs a v x → Legs a v b
          → dist n a x < n → dist n v b < n → dist n a b < n → (a ≡ b) ⊎ ((1 ≤ dist n a x) × (dist n a x ≤ dist n a b))
      go (inl e) _ _ _ _ _ = inl e
      go (inr w) (inl y) (inl z) p q r = inr (omega arith)
      go (inr w) (inl y) (inr z) p q r = inr (omega arith)
      go (inr w) (inr y) (inl z) p q r = inr (omega arith)
      go (inr w) (inr y) (inr z) p q r = inr (omega arith)

  -- (a, a] is the whole circle
  pub in_whole : (a b v : ℕ) → a ≡ b → In n a b v
  unfolding In
  in_whole a b v e = inl e

  -- the start is not, unless the interval is the whole circle
  pub in_start : (a b : ℕ) → a < n → In n a b a → a ≡ b
  unfolding In
  in_start a b ha = elim [ inl e ↦ e | inr w ↦ absurd (omega (arith, dist_self a ha)) ]

  -- a new point a in (p, t] cuts it in two
  pub cut_right : (p t a m : ℕ) → p < n → t < n → a < n → m < n → a ≢ t → In n p t a → In n a t m → In n p t m
  unfolding In
  cut_right p t a m hp ht ha hm e i j = go i j (tri p a m hp ha hm) (tri p a t hp ha ht) (dist_lt p m hp) (dist_lt a t ha) (dist_lt p t hp)
    where
      go : In n p t a → In n a t m → Legs p a m → Legs p a t → dist n p m < n → dist n a t < n → dist n p t < n → In n p t m
      go (inl x) _ _ _ _ _ _ = inl x
      go (inr x) (inl y) _ _ _ _ _ = absurd (e y)
      go (inr x) (inr y) (inl z) (inl w) l k r = inr (omega arith)
      go (inr x) (inr y) (inl z) (inr w) l k r = inr (omega arith)
      go (inr x) (inr y) (inr z) (inl w) l k r = inr (omega arith)
      go (inr x) (inr y) (inr z) (inr w) l k r = inr (omega arith)

  pub cut_left : (p t a m : ℕ) → p ≢ a → In n p t a → In n p a m → In n p t m
  unfolding In
  cut_left p t a m e (inl x) _ = inl x
  cut_left p t a m e (inr x) (inl y) = absurd (e y)
  cut_left p t a m e (inr x) (inr y) = inr (omega arith)

  pub cut_end : (p t a : ℕ) → p < n → t < n → a < n → p ≢ a → In n p t a → In n p a t → a ≡ t
  unfolding In
  cut_end p t a hp ht ha e (inl x) (inl y) = absurd (e y)
  cut_end p t a hp ht ha e (inr x) (inl y) = absurd (e y)
  cut_end p t a hp ht ha e (inl x) (inr y) = absurd (omega (arith, dist_self p hp, ap (λ z. dist n p z) x))
  cut_end p t a hp ht ha e (inr x) (inr y) = dist_inj p a t hp ha ht (omega arith)

  -- two intervals joined: whatever is in (p, t] is in (p, q] or in (q, t]
  pub cover : (p q t m : ℕ) → p < n → q < n → t < n → m < n → In n p t m → In n p q m ⊎ In n q t m
  unfolding In
  cover p q t m hp hq ht hm i = go (ℕ_discrete p q) (ℕ_discrete q t) (dec_le 1 (dist n p m)) (dec_le (dist n p m) (dist n p q)) i
    where
      far : p ≢ q → dist n p q < dist n p m → In n p t m → In n q t m
      far ne l (inl e) = go2 (tri p q m hp hq hm) (tri p q p hp hq hp) (dist_self p hp) (dist_lt p m hp) (dist_lt q m hq) (dist_lt q p hq) (dist_pos q p hq hp (λ x. ne (sym x)))
        where
          go2 : Legs p q m → Legs p q p → dist n p p ≡ 0 → dist n p m < n → dist n q m < n → dist n q p < n → 1 ≤ dist n q p → In n q t m
          go2 (inl x) (inl y) z a b c d = absurd (omega arith)
          go2 (inl x) (inr y) z a b c d = inr (omega (arith, ap (λ w. dist n q w) e))
          go2 (inr x) (inl y) z a b c d = absurd (omega arith)
          go2 (inr x) (inr y) z a b c d = absurd (omega arith)
      far ne l (inr w) = go2 (tri p q m hp hq hm) (tri p q t hp hq ht) (dist_lt p m hp) (dist_lt q m hq) (dist_lt q t hq)
        where
          go2 : Legs p q m → Legs p q t → dist n p m < n → dist n q m < n → dist n q t < n → In n q t m
          go2 (inl x) (inl y) a b c = inr (omega arith)
          go2 (inl x) (inr y) a b c = inr (omega arith)
          go2 (inr x) (inl y) a b c = absurd (omega arith)
          go2 (inr x) (inr y) a b c = absurd (omega arith)

      near : p ≢ q → q ≢ t → dist n p m < 1 → In n p t m → In n q t m
      near ne nf l (inl e) =
          let pm : p ≡ m = dist_zero p m hp hm (omega arith) in
          let tm : dist n q m ≡ dist n q t = ap (λ w. dist n q w) (sym pm ∙ e) in
          inr (omega (arith, dist_pos q t hq ht nf))
      near ne nf l (inr w) = absurd (omega arith)

      go : Dec (p ≡ q) → Dec (q ≡ t) → Dec (1 ≤ dist n p m) → Dec (dist n p m ≤ dist n p q) → In n p t m → In n p q m ⊎ In n q t m
      go (yes e) _ _ _ i = inl (inl e)
      go (no e) (yes f) _ _ i = inr (inl f)
      go (no e) (no f) (no l) _ i = inr (near e f (omega arith) i)
      go (no e) (no f) (yes l) (yes k) i = inl (inr (l, k))
      go (no e) (no f) (yes l) (no k) i = inr (far e (omega arith) i)

  -- of two points one comes first
  pub first : (q h t : ℕ) → q < n → h < n → t < n → In n q t h ⊎ In n q h t
  unfolding In
  first q h t hq hh ht = go (ℕ_discrete q h) (ℕ_discrete q t) (dec_le (dist n q h) (dist n q t))
    where
      go : Dec (q ≡ h) → Dec (q ≡ t) → Dec (dist n q h ≤ dist n q t) → In n q t h ⊎ In n q h t
      go (yes e) _ _ = inr (inl e)
      go (no e) (yes f) _ = inl (inl f)
      go (no e) (no f) (yes l) = inl (inr (dist_pos q h hq hh e, l))
      go (no e) (no f) (no l) = inr (inr (dist_pos q t hq ht f, omega arith))
