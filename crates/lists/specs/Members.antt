-- Membership, and counting in lists of numbers. Assumes nothing.
use Rattle.std.specs.Prelude.{◌≡◌, refl, ◌⊎◌, ◌≢◌, List, [], ◌∷◌, ◌++◌, map, ℕ, zero, suc, ◌+◌, ◌≤◌, ◌<◌, length, get_or, set, drop, replicate}
use Rattle.std.proofs.Common.{sym, ◌∙◌, ap, subst, inl, inr, arith, get_or-set_same, get_or-set_other}
use Rattle.std.proofs.Math.Decide.{ℕ_discrete}
use Rattle.lists.specs.Basics.{Mem, All, ind, times}
use Rattle.lists.specs.Tests.{Distinct}

module _ {A : Type 0} where
  pub mem_split : (m : A) (s t : List A) → Mem m (s ++ t) → Mem m s ⊎ Mem m t
  mem_split m [] t h = inr h
  mem_split m (x ∷ xs) t (inl e) = inl (inl e)
  mem_split m (x ∷ xs) t (inr h) = go (mem_split m xs t h)
    where
      go : Mem m xs ⊎ Mem m t → Mem m (x ∷ xs) ⊎ Mem m t
      go (inl h) = inl (inr h)
      go (inr h) = inr h

  pub mem_left : (m : A) (s t : List A) → Mem m s → Mem m (s ++ t)
  mem_left m (x ∷ xs) t (inl e) = inl e
  mem_left m (x ∷ xs) t (inr h) = inr (mem_left m xs t h)
  mem_left m [] t h = absurd h

  pub mem_right : (m : A) (s t : List A) → Mem m t → Mem m (s ++ t)
  mem_right m [] t h = h
  mem_right m (x ∷ xs) t h = inr (mem_right m xs t h)

  pub mem_mid : (s : List A) (m : A) (t : List A) → Mem m (s ++ (m ∷ t))
  mem_mid s m t = mem_right m s (m ∷ t) (inl refl)

  -- what is left is there with the one taken out, too
  pub mem_put : (x : A) (s : List A) (m : A) (t : List A) → Mem x (s ++ t) → Mem x (s ++ (m ∷ t))
  mem_put x s m t h = go (mem_split x s t h)
    where
      go : Mem x s ⊎ Mem x t → Mem x (s ++ (m ∷ t))
      go (inl h) = mem_left x s (m ∷ t) h
      go (inr h) = mem_right x s (m ∷ t) (inr h)

  pub all_mem : (P : A → Type 0) (l : List A) → All P l → (x : A) → Mem x l → P x
  all_mem P (y ∷ l) a x (inl e) = subst P (sym e) a.0
  all_mem P (y ∷ l) a x (inr h) = all_mem P l a.1 x h
  all_mem P [] a x h = absurd h

pub ind_cases : (a h : ℕ) → ((a ≡ h) × (ind a h ≡ 1)) ⊎ ((a ≢ h) × (ind a h ≡ 0))
unfolding ind
ind_cases a h = go (ℕ_discrete a h)
  where
    pick : Dec (a ≡ h) → ℕ
    pick d = elim d [ yes e ↦ 1 | no e ↦ 0 ]

    go : (d : Dec (a ≡ h)) → ((a ≡ h) × (pick d ≡ 1)) ⊎ ((a ≢ h) × (pick d ≡ 0))
    go (yes e) = inl (e, refl)
    go (no e) = inr (e, refl)

pub ind_same : (a : ℕ) → ind a a ≡ 1
ind_same a = elim (ind_cases a a) [ inl w ↦ w.1 | inr w ↦ absurd (w.0 refl) ]

pub ind_ne : (a h : ℕ) → a ≢ h → ind a h ≡ 0
ind_ne a h e = elim (ind_cases a h) [ inl w ↦ absurd (e w.0) | inr w ↦ w.1 ]

-- h is none of them
abbrev pub Off : List ℕ → ℕ → Type 0
Off [] h = Unit {0}
Off (x ∷ xs) h = (h ≢ x) × Off xs h

pub times_off : (l : List ℕ) (h : ℕ) → Off l h → times l h ≡ 0
times_off [] h o = refl
times_off (x ∷ xs) h o = omega (arith, ind_ne x h (λ e. o.0 (sym e)), times_off xs h o.1)

pub off_or_in : (l : List ℕ) (h : ℕ) → Off l h ⊎ Mem h l
off_or_in [] h = inl tt
off_or_in (x ∷ xs) h = go (ℕ_discrete h x) (off_or_in xs h)
  where
    go : Dec (h ≡ x) → Off xs h ⊎ Mem h xs → Off (x ∷ xs) h ⊎ Mem h (x ∷ xs)
    go (yes e) _ = inr (inl e)
    go (no e) (inl o) = inl (e, o)
    go (no e) (inr m) = inr (inr m)

pub times_in : (l : List ℕ) (h : ℕ) → Mem h l → 1 ≤ times l h
times_in (x ∷ xs) h (inl e) = omega (arith, ind_same h, ap (λ y. ind y h) e)
times_in (x ∷ xs) h (inr m) = omega (arith, times_in xs h m)
times_in [] h m = absurd m

pub off_of : (l : List ℕ) (h : ℕ) → times l h ≡ 0 → Off l h
off_of l h e = elim (off_or_in l h) [ inl o ↦ o | inr m ↦ absurd (omega (arith, times_in l h m)) ]

-- a fact of every number, from one of them and all others
pub by_row : {P : ℕ → Type 0} (r : ℕ) → P r → ((h : ℕ) → h ≢ r → P h) → (h : ℕ) → P h
by_row {P} r p f h = elim (ℕ_discrete h r) [ yes e ↦ subst P (sym e) p | no e ↦ f h e ]

-- membership by place
module _ {A : Type 0} where
  pub mem_at : (l : List A) (i : ℕ) (d : A) → i < length l → Mem (get_or l i d) l
  mem_at (x ∷ l) zero d h = inl refl
  mem_at (x ∷ l) (suc i) d h = inr (mem_at l i d (omega arith))
  mem_at [] i d h = absurd (omega arith)

  -- what holds at every place holds of every element
  pub all_at : (P : A → Type 0) (l : List A) (d : A) → ((i : ℕ) → i < length l → P (get_or l i d)) → All P l
  all_at P [] d f = tt
  all_at P (x ∷ l) d f = (f 0 (omega arith), all_at P l d (λ i h. f (suc i) (omega arith)))

  -- of a list behind its first elements, of two lists, and of one value repeated
  pub all_drop : (P : A → Type 0) (n : ℕ) (l : List A) → All P l → All P (drop n l)
  all_drop P zero l a = a
  all_drop P (suc n) [] a = a
  all_drop P (suc n) (x ∷ l) a = all_drop P n l a.1

  pub all_append : (P : A → Type 0) (l m : List A) → All P l → All P m → All P (l ++ m)
  all_append P [] m a b = b
  all_append P (x ∷ l) m a b = (a.0, all_append P l m a.1 b)

  pub all_replicate : (P : A → Type 0) (n : ℕ) (x : A) → P x → All P (replicate n x)
  all_replicate P zero x p = tt
  all_replicate P (suc n) x p = (p, all_replicate P n x p)

  -- at a place that is there the default does not matter
  pub get_d_any : (l : List A) (i : ℕ) (d e : A) → i < length l → get_or l i d ≡ get_or l i e
  get_d_any (x ∷ l) zero d e h = refl
  get_d_any (x ∷ l) (suc i) d e h = get_d_any l i d e (omega arith)
  get_d_any [] i d e h = absurd (omega arith)

  -- a member has a place
  pub place : (x : A) (l : List A) (d : A) → Mem x l → (i : ℕ) × (i < length l) × (get_or l i d ≡ x)
  place x (y ∷ l) d (inl e) = (0, omega arith, sym e)
  place x (y ∷ l) d (inr k) = let r = place x l d k in (suc r.0, omega (arith, r.1), r.2)
  place x [] d k = absurd k

  -- one place more is filled: what g says holds below i, and is stored at i
  pub filled : (l : List A) (i : ℕ) (v d : A) (g : ℕ → A) → i < length l → v ≡ g i → ((k : ℕ) → k < i → get_or l k d ≡ g k)
      → (k : ℕ) → k < i + 1 → get_or (set l i v) k d ≡ g k
  filled l i v d g h e f k u = go (ℕ_discrete k i)
    where
      go : Dec (k ≡ i) → get_or (set l i v) k d ≡ g k
      go (yes q) = ap (λ z. get_or (set l i v) z d) q ∙ get_or-set_same l i v d h ∙ e ∙ ap g (sym q)
      go (no q) = get_or-set_other l i k v d q ∙ f k (omega arith)

pub mem_map : {A B : Type 0} (f : A → B) (l : List A) (y : B) → Mem y (map f l) → (x : A) × Mem x l × (y ≡ f x)
mem_map f [] y i = absurd i
mem_map f (x ∷ l) y (inl e) = (x, inl refl, e)
mem_map f (x ∷ l) y (inr i) = let r = mem_map f l y i in (r.0, inr r.1, r.2)

pub mem_set : {A : Type 0} (l : List A) (i : ℕ) (v x : A) → Mem x (set l i v) → (x ≡ v) ⊎ Mem x l
mem_set [] i v x k = absurd k
mem_set (y ∷ l) zero v x (inl e) = inl e
mem_set (y ∷ l) zero v x (inr k) = inr (inr k)
mem_set (y ∷ l) (suc i) v x (inl e) = inr (inl e)
mem_set (y ∷ l) (suc i) v x (inr k) = elim (mem_set l i v x k) [ inl e ↦ inl e | inr j ↦ inr (inr j) ]

-- Numbers that differ: where two places have the same, they are one place.
pub distinct_apart : (l : List ℕ) → Distinct l → (a b : ℕ) → a < length l → b < length l → get_or l a 0 ≡ get_or l b 0 → a ≡ b
unfolding Distinct
distinct_apart [] d a b la lb e = absurd (omega arith)
distinct_apart (x ∷ l) d zero zero la lb e = refl
distinct_apart (x ∷ l) d zero (suc b) la lb e = absurd (d.0 (get_or l b 0) (mem_at l b 0 (omega arith)) e)
distinct_apart (x ∷ l) d (suc a) zero la lb e = absurd (d.0 (get_or l a 0) (mem_at l a 0 (omega arith)) (sym e))
distinct_apart (x ∷ l) d (suc a) (suc b) la lb e = ap suc (distinct_apart l d.1 a b (omega arith) (omega arith) e)
