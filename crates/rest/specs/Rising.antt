-- Lists along which a number grows: no element is there twice, and what stands at a later place is further on. Assumes nothing.
use Rattle.std.specs.Prelude.{◌≡◌, ◌≢◌, List, [], ◌∷◌, ◌≤◌, ◌<◌, length, get_or}
use Rattle.std.proofs.Common.{subst, ap, arith}
use Prim.Native.Nat.{ℕ, zero, suc, ◌+◌}
use Rattle.std.proofs.Math.Decide.{ℕ_discrete}
use Rattle.lists.specs.Basics.{All, ind, times}
use Rattle.lists.specs.Members.{all_mem, mem_at, ind_same, ind_ne, Off, times_off}

abbrev pub Rising : (ℕ → ℕ) → List ℕ → Type 0
Rising f [] = Unit {0}
Rising f (x ∷ l) = All (λ y. f x < f y) l × Rising f l

pub rising_once : (f : ℕ → ℕ) (l : List ℕ) → Rising f l → (h : ℕ) → times l h ≤ 1
rising_once f [] r h = omega arith
rising_once f (x ∷ l) r h = go (ℕ_discrete x h) (rising_once f l r.1 h)
  where
    ne : (y : ℕ) → f x < f y → x ≢ y
    ne y k e = omega (arith, ap f e)

    off : (s : List ℕ) → All (λ y. f x < f y) s → Off s x
    off [] a = tt
    off (y ∷ s) a = (ne y a.0, off s a.1)

    go : Dec (x ≡ h) → times l h ≤ 1 → ind x h + times l h ≤ 1
    go (yes e) ih = omega (arith, ind_same h, ap (λ z. ind z h) e, times_off l h (subst (Off l) e (off l r.0)))
    go (no e) ih = omega (arith, ind_ne x h e)

pub rising_places : (f : ℕ → ℕ) (l : List ℕ) (d : ℕ) → Rising f l → (i j : ℕ) → i < j → j < length l → f (get_or l i d) < f (get_or l j d)
rising_places f [] d r i j u v = absurd (omega arith)
rising_places f (x ∷ l) d r i zero u v = absurd (omega arith)
rising_places f (x ∷ l) d r zero (suc j) u v = all_mem (λ y. f x < f y) l r.0 (get_or l j d) (mem_at l j d (omega arith))
rising_places f (x ∷ l) d r (suc i) (suc j) u v = rising_places f l d r.1 i j (omega arith) (omega arith)
