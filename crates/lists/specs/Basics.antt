-- The definitions about tests and lists that the meaning of the protocol and demand 3 rest on: what a reader must believe of this crate.
-- Everything else here is laws about them.
use Rattle.std.specs.Prelude.{◌≡◌, ◌⊎◌, Bool, true, false, not, ◌&&◌, List, [], ◌∷◌, ◌++◌, ℕ, zero, suc, ◌+◌, nat_lt, nat_eq}
use Rattle.std.proofs.Math.Decide.{ℕ_discrete}

-- Choice by a test. (Like the next ones it stays shut, so that a proof about it finds its parts.)
infixr 5 when◌then◌else◌
unfoldable pub when◌then◌else◌ : {A : Type 0} → Bool → A → A → A
when true then x else y = x
when false then x else y = y

-- A question: where the answer is no, what stands for the refusal.
unfoldable pub require : {A : Type 0} → Bool → A → A → A
require b no_result rest = when b then rest else no_result

-- every element passes
unfoldable pub every : {A : Type 0} → (A → Bool) → List A → Bool
every f [] = true
every f (x ∷ l) = f x && every f l

-- no element twice
unfoldable pub distinct : List ℕ → Bool
distinct [] = true
distinct (x ∷ l) = every (λ y. not (nat_eq x y)) l && distinct l

-- the least number below n at which f passes, n where there is none
unfoldable pub first : (ℕ → Bool) → ℕ → ℕ
first f zero = zero
first f (suc n) = when nat_lt (first f n) n then first f n else when f n then n else suc n

-- f 0, f 1, .., n of them
unfoldable pub table : {A : Type 0} → ℕ → (ℕ → A) → List A
table zero f = []
table (suc n) f = table n f ++ (f n ∷ [])

module _ {A : Type 0} (f : A → List ℕ) where
  -- the words of each value, one after the other
  abbrev pub flat : List A → List ℕ
  flat [] = []
  flat (x ∷ xs) = f x ++ flat xs

module _ {A : Type 0} where
  -- being an element
  abbrev pub Mem : A → List A → Type 0
  Mem m [] = ⊥
  Mem m (x ∷ xs) = (m ≡ x) ⊎ Mem m xs

  -- what holds of each element
  abbrev pub All : (A → Type 0) → List A → Type 0
  All P [] = Unit {0}
  All P (x ∷ xs) = P x × All P xs

-- 1 where the two numbers are one
unfoldable pub ind : ℕ → ℕ → ℕ
ind a h = elim (ℕ_discrete a h) [ yes e ↦ 1 | no e ↦ 0 ]

-- how often h stands in a list
abbrev pub times : List ℕ → ℕ → ℕ
times [] h = 0
times (x ∷ xs) h = ind x h + times xs h
