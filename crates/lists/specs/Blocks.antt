-- Tables of values, and lists of values as runs of words. Assumes nothing.
use Rattle.std.specs.Prelude.{◌≡◌, ◌⊎◌, length, drop, set}
use Rattle.std.proofs.Math.Path.{refl, ap, sym}
use Rattle.std.proofs.Common.{ap₂, ◌∙◌, inl, inr, add_comm, mul-zero, mul-suc, eq-or-lt_of_le, le_of_suc-le-suc, arith}
use mathlib.Core.List.{List, [], ◌∷◌, ◌++◌, map, append_assoc, map-append}
use Prim.Native.Nat.{ℕ, suc, zero, ◌+◌, ◌*◌, ◌≤◌, ◌<◌}
use Rattle.std.proofs.Math.Numerals.{add-one}
use Rattle.std.proofs.Math.ListN.{take, get_or, length-append, get_or-append}
use lib.Seq.{length-take-le, split_at, set_split, get_or_at}
use Rattle.lists.specs.Basics.{table, flat, Mem, All}
use Rattle.lists.specs.Members.{all_append}

module _ {A : Type 0} where
  pub length_table : (n : ℕ) (f : ℕ → A) → length (table n f) ≡ n
  unfolding table
  length_table zero f = refl
  length_table (suc n) f = length-append (table n f) (f n ∷ []) ∙ ap (λ k. k + 1) (length_table n f) ∙ add-one n

  pub get_or_table : (n : ℕ) (f : ℕ → A) (i : ℕ) (d : A) → i < n → get_or (table n f) i d ≡ f i
  unfolding table
  get_or_table zero f i d h = absurd (omega arith)
  get_or_table (suc n) f i d h = go (eq-or-lt_of_le (le_of_suc-le-suc h)) (λ l. get_or_table n f i d l)
    where
      go : (i ≡ n) ⊎ (i < n) → (i < n → get_or (table n f) i d ≡ f i) → get_or (table n f ++ (f n ∷ [])) i d ≡ f i
      go (inl e) ih = get_or_at (table n f) (f n) [] d i (length_table n f ∙ sym e) ∙ ap f (sym e)
      go (inr l) ih = get_or-append (table n f) (f n ∷ []) d i (omega (arith, length_table n f)) ∙ ih l

  -- a list is the table of its elements
  pub table_of : (l : List A) (d : A) (f : ℕ → A) (n : ℕ) → n ≤ length l → ((i : ℕ) → i < n → f i ≡ get_or l i d) → table n f ≡ take n l
  unfolding table
  table_of l d f zero h e = refl
  table_of l d f (suc n) h e =
      ap (λ z. z ++ (f n ∷ [])) (table_of l d f n (omega arith) (λ i k. e i (omega arith)))
      ∙ ap (λ z. take n l ++ (z ∷ [])) (e n (omega arith))
      ∙ sym (lib.Seq.take-suc l n d (omega arith))

module _ {A : Type 0} (f : A → List ℕ) where
  pub flat_append : (xs ys : List A) → flat f (xs ++ ys) ≡ flat f xs ++ flat f ys
  flat_append [] ys = refl
  flat_append (x ∷ xs) ys = ap (λ l. f x ++ l) (flat_append xs ys) ∙ sym (append_assoc (f x) (flat f xs) (flat f ys))

  module _ (k : ℕ) (size : (x : A) → length (f x) ≡ k) where
    pub length_flat : (xs : List A) → length (flat f xs) ≡ k * length xs
    length_flat [] = sym (mul-zero k)
    length_flat (x ∷ xs) = simp (length-append, size, length_flat xs, mul-suc) (add_comm k (k * length xs))

    pub length_front : (xs : List A) (i : ℕ) → i ≤ length xs → length (flat f (take i xs)) ≡ k * i
    length_front xs i h = length_flat (take i xs) ∙ ap (λ n. k * n) (length-take-le i xs h)

  -- the words before value i, its own, and those after
  pub flat_split : (xs : List A) (i : ℕ) (d : A) → i < length xs → flat f xs ≡ flat f (take i xs) ++ (f (get_or xs i d) ++ flat f (drop (suc i) xs))
  flat_split xs i d h = ap (flat f) (split_at xs i d h) ∙ flat_append (take i xs) (get_or xs i d ∷ drop (suc i) xs)

  pub flat_set : (xs : List A) (i : ℕ) (x : A) → i < length xs → flat f (set xs i x) ≡ flat f (take i xs) ++ (f x ++ flat f (drop (suc i) xs))
  flat_set xs i x h = ap (flat f) (set_split xs i x h) ∙ flat_append (take i xs) (x ∷ drop (suc i) xs)

  -- what holds of each word of each value
  pub all_flat : (P : ℕ → Type 0) (xs : List A) → ((x : A) → Mem x xs → All P (f x)) → All P (flat f xs)
  all_flat P [] a = tt
  all_flat P (x ∷ xs) a = all_append P (f x) (flat f xs) (a x (inl refl)) (all_flat P xs (λ y k. a y (inr k)))

-- tables, value by value
pub table_cong : {A : Type 0} (f g : ℕ → A) (n : ℕ) → ((i : ℕ) → i < n → f i ≡ g i) → table n f ≡ table n g
unfolding table
table_cong f g zero e = refl
table_cong f g (suc n) e = ap₂ (λ l x. l ++ (x ∷ [])) (table_cong f g n (λ i h. e i (omega arith))) (e n (omega arith))

pub map_table : {A B : Type 0} (f : A → B) (g : ℕ → A) (n : ℕ) → map f (table n g) ≡ table n (λ i. f (g i))
unfolding table
map_table f g zero = refl
map_table f g (suc n) = map-append f (table n g) (g n ∷ []) ∙ ap (λ l. l ++ (f (g n) ∷ [])) (map_table f g n)
