-- Runs: bytes one after the other that pass a test, up to the first that does not. Assumes nothing.
use Rattle.std.specs.Prelude.{◌≡◌, refl, Bool, true, false, List, [], ◌∷◌, ◌++◌, ℕ, zero, suc, ◌+◌, ◌-◌, ◌*◌, ◌≤◌, ◌<◌, length, take, drop, get_or}
use Rattle.std.proofs.lemmas.Slice.{between_to_end}
use Rattle.std.proofs.lemmas.List.{get_or_default}
use Rattle.std.specs.List.{AllWithin, HoldsAt}
use Rattle.std.proofs.Common.{nat_lt, ltb-true, add-zero, ap, sym, subst, ◌∙◌, arith, length-drop, take-append-drop, take-suc, take-add, length-take-le, get_or-drop, drop-drop}
use Rattle.lists.specs.Basics.{every}
use Rattle.lists.specs.Merge.{every_append}
use Rattle.sheets.specs.Grammar.{worth}
use Rattle.sheets.specs.Bytes.{every_head}

-- The bytes of a text from a place up to another.
abbrev pub between : ℕ → ℕ → List ℕ → List ℕ
between i j t = take (j - i) (drop i t)

-- All bytes from i up to j pass the test, and the next one, if there is one, does not.
pub record RunTo (f : ℕ → Bool) (t : List ℕ) (i j : ℕ) : Type 0 where
  pub from : i ≤ j
  pub within : j ≤ length t
  pub passed : every f (between i j t) ≡ true
  pub stopped : j < length t → f (get_or t j 0) ≡ false

-- a byte that `get` found
pub looked_up : (t : List ℕ) (i x : ℕ) → true ≡ nat_lt i (length t) → x ≡ get_or t i x → (i < length t) × (x ≡ get_or t i 0)
looked_up t i x h e = let l = ltb-true _ _ (sym h) in (l, e ∙ get_or_default t i x 0 l)

-- the rest of a text, and its first two bytes
rest_at : (i k : ℕ) (t : List ℕ) → get_or (between i (length t) t) k 0 ≡ get_or t (i + k) 0
rest_at i k t = ap (λ l. get_or l k 0) (between_to_end t i (length t) (omega arith)) ∙ get_or-drop i t k 0

pub rest_first : (i : ℕ) (t : List ℕ) → get_or (between i (length t) t) 0 0 ≡ get_or t i 0
rest_first i t = rest_at i 0 t ∙ ap (λ k. get_or t k 0) (add-zero i)

pub rest_second : (i : ℕ) (t : List ℕ) → get_or (between i (length t) t) 1 0 ≡ get_or t (i + 1) 0
rest_second i t = rest_at i 1 t

pub length_rest : (i : ℕ) (t : List ℕ) → length (between i (length t) t) ≡ length t - i
length_rest i t = ap length (between_to_end t i (length t) (omega arith)) ∙ length-drop i t

-- one byte more between two places
pub between_none : (i : ℕ) (t : List ℕ) → between i i t ≡ []
between_none i t = ap (λ k. take k (drop i t)) (let e : i - i ≡ 0 = omega arith in e)

pub between_more : (i j : ℕ) (t : List ℕ) → i ≤ j → j < length t → between i (j + 1) t ≡ between i j t ++ (get_or t j 0 ∷ [])
between_more i j t h k =
    let e : j + 1 - i ≡ suc (j - i) = omega arith in
    let f : i + (j - i) ≡ j = omega arith in
    ap (λ n. take n (drop i t)) e ∙ take-suc (drop i t) (j - i) 0 (omega (arith, length-drop i t))
    ∙ ap (λ b. between i j t ++ (b ∷ [])) (get_or-drop i t (j - i) 0 ∙ ap (λ n. get_or t n 0) f)

pub length_between : (i j : ℕ) (t : List ℕ) → i ≤ j → j ≤ length t → length (between i j t) ≡ j - i
length_between i j t h k = length-take-le (j - i) (drop i t) (omega (arith, length-drop i t))

pub every_between : (f : ℕ → Bool) (i j : ℕ) (t : List ℕ) → i ≤ j → j < length t → every f (between i j t) ≡ true → f (get_or t j 0) ≡ true → every f (between i (j + 1) t) ≡ true
unfolding every
every_between f i j t h k e q = ap (every f) (between_more i j t h k) ∙ every_append f (between i j t) (get_or t j 0 ∷ []) ∙ rw (e, q)

pub every_empty : (f : ℕ → Bool) (i : ℕ) (t : List ℕ) → every f (between i i t) ≡ true
unfolding every
every_empty f i t = ap (every f) (between_none i t)

-- a run found in the rest of a text, by what is known of each byte of it
module _ (f : ℕ → Bool) (t : List ℕ) (i : ℕ) (small : (k : ℕ) → get_or t k 0 < 256) where
  said_at : (b : Bool) (n : ℕ) → HoldsAt (λ x. x < 256 → f x ≡ b) (between i (length t) t) n → f (get_or t (i + n) 0) ≡ b
  said_at b n h = subst (λ x. x < 256 → f x ≡ b) (rest_at i n t) (h 0) (small (i + n))

  passed_all : (n : ℕ) → i + n ≤ length t → AllWithin (λ x. x < 256 → f x ≡ true) (between i (length t) t) 0 n → every f (between i (i + n) t) ≡ true
  passed_all zero h a = ap (λ j. every f (between i j t)) (add-zero i) ∙ every_empty f i t
  passed_all (suc n) h a =
      let e : i + suc n ≡ i + n + 1 = omega arith in
      ap (λ j. every f (between i j t)) e
      ∙ every_between f i (i + n) t (omega arith) (omega arith) (passed_all n (omega arith) (λ k d l m. a k d l (omega arith))) (said_at true n (λ d. a n d (omega arith) (omega arith)))

  pub run_found : (n : ℕ) → n < length (between i (length t) t) → HoldsAt (λ x. x < 256 → f x ≡ false) (between i (length t) t) n → AllWithin (λ x. x < 256 → f x ≡ true) (between i (length t) t) 0 n
      → RunTo f t i (i + n)
  run_found n l h a = let z = length_rest i t in record {
    from = omega arith;
    within = omega arith;
    passed = passed_all n (omega arith) a;
    stopped = λ _. said_at false n h;
  }

  pub run_to_end : i ≤ length t → AllWithin (λ x. x < 256 → f x ≡ true) (between i (length t) t) 0 (length (between i (length t) t)) → RunTo f t i (length t)
  run_to_end h a =
      let z = length_rest i t in
      let e : i + length (between i (length t) t) ≡ length t = omega arith in
      record {
        from = h;
        within = omega arith;
        passed = sym (ap (λ j. every f (between i j t)) e) ∙ passed_all _ (omega arith) a;
        stopped = λ l. absurd (omega arith);
      }

-- the rest of a text, cut at a later place
pub rest_between : (i j : ℕ) (t : List ℕ) → i ≤ j → drop i t ≡ between i j t ++ drop j t
rest_between i j t h =
    let e : i + (j - i) ≡ j = omega arith in
    sym (take-append-drop (j - i) (drop i t)) ∙ ap (λ l. between i j t ++ l) (drop-drop (j - i) i t ∙ ap (λ k. drop k t) e)

pub between_both : (i j k : ℕ) (t : List ℕ) → i ≤ j → j ≤ k → between i k t ≡ between i j t ++ between j k t
between_both i j k t h l =
    let e : k - i ≡ (j - i) + (k - j) = omega arith in
    let f : i + (j - i) ≡ j = omega arith in
    ap (λ n. take n (drop i t)) e ∙ take-add (j - i) (k - j) (drop i t) ∙ ap (λ m. between i j t ++ take (k - j) m) (drop-drop (j - i) i t ∙ ap (λ n. drop n t) f)

-- the number that digits make: it never shrinks, and goes on behind more digits
pub worth_append : (s u : List ℕ) (v : ℕ) → worth v (s ++ u) ≡ worth (worth v s) u
unfolding worth
worth_append [] u v = refl
worth_append (b ∷ s) u v = worth_append s u (10 * v + (b - 48))

pub worth_grows : (s : List ℕ) (v : ℕ) → v ≤ worth v s
unfolding worth
worth_grows [] v = omega arith
worth_grows (b ∷ s) v = let e = worth_grows s (10 * v + (b - 48)) in omega arith

pub worth_ten : (s : List ℕ) (v : ℕ) → 1 ≤ length s → 10 * v ≤ worth v s
unfolding worth
worth_ten [] v h = absurd (omega arith)
worth_ten (b ∷ s) v h = let e = worth_grows s (10 * v + (b - 48)) in omega arith

pub worth_none : (i : ℕ) (t : List ℕ) → 0 ≡ worth 0 (between i i t)
unfolding worth
worth_none i t = ap (worth 0) (sym (between_none i t))

pub worth_more : (i j : ℕ) (t : List ℕ) → i ≤ j → j < length t → worth 0 (between i (j + 1) t) ≡ 10 * worth 0 (between i j t) + (get_or t j 0 - 48)
unfolding worth
worth_more i j t h k = ap (worth 0) (between_more i j t h k) ∙ worth_append (between i j t) (get_or t j 0 ∷ []) 0

-- the first byte of a run that is not empty
pub run_first : (f : ℕ → Bool) (t : List ℕ) (i j : ℕ) → RunTo f t i j → i < j → f (get_or t i 0) ≡ true
unfolding every
run_first f t i j r h =
    let w = r.within in
    let e : between i (i + 1) t ≡ get_or t i 0 ∷ [] = between_more i i t (omega arith) (omega arith) ∙ ap (λ l. l ++ (get_or t i 0 ∷ [])) (between_none i t) in
    let s : between i j t ≡ get_or t i 0 ∷ between (i + 1) j t = between_both i (i + 1) j t (omega arith) (omega arith) ∙ ap (λ l. l ++ between (i + 1) j t) e in
    every_head f (get_or t i 0) (between (i + 1) j t) (sym (ap (every f) s) ∙ r.passed)
