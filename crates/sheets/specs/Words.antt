-- Numbers as words. Assumes nothing.
use Rattle.std.specs.Prelude.{◌≡◌, refl, Bool, true, ◌&&◌, List, [], ◌∷◌, ◌++◌, ℕ, min, length}
use Rattle.std.proofs.Common.{ap, ap₂, ◌∙◌, arith, leb→le}
use Rattle.lists.specs.Basics.{every}
use Rattle.lists.specs.Tests.{and_true, true_T, says_same, says_as, says_le}
use Rattle.lists.specs.Merge.{every_append}
use Rattle.sheets.specs.Bytes.{every_head, every_tail}
use Rattle.sheets.specs.Calls.{is_word}

-- Of a number that is too large the largest word is written; but then nothing is.
abbrev pub word : ℕ → ℕ
word v = min v 4294967295

unfoldable pub words : List ℕ → List ℕ
words [] = []
words (v ∷ l) = word v ∷ words l

pub words_append : (s t : List ℕ) → words (s ++ t) ≡ words s ++ words t
unfolding words
words_append [] t = refl
words_append (v ∷ s) t = ap (λ l. word v ∷ l) (words_append s t)

pub length_words : (l : List ℕ) → length (words l) ≡ length l
unfolding words
length_words [] = refl
length_words (v ∷ l) = let e = length_words l in omega arith

pub words_same : (l : List ℕ) → every is_word l ≡ true → words l ≡ l
unfolding words is_word
words_same [] e = refl
words_same (v ∷ l) e =
    let h = leb→le v 4294967295 (true_T _ (every_head is_word v l e)) in
    let q : word v ≡ v = omega arith in
    ap₂ (λ x y. x ∷ y) q (words_same l (every_tail is_word v l e))

-- a number that is followed up to 2^32 fits a word as the number itself does
pub cap_word : (v : ℕ) → is_word (min v 4294967296) ≡ is_word v
unfolding is_word
cap_word v = says_same (says_le (min v 4294967296) 4294967295) (says_as (says_le v 4294967295) (λ h. omega arith) (λ h. omega arith))

pub every_one : (f : ℕ → Bool) (l : List ℕ) (v : ℕ) → every f (l ++ (v ∷ [])) ≡ (every f l && f v)
unfolding every
every_one f l v = every_append f l (v ∷ []) ∙ ap (λ z. every f l && z) (and_true (f v))
