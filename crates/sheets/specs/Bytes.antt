-- Bytes and the tests of them. Assumes nothing.
use Rattle.std.specs.Prelude.{◌≡◌, refl, Bool, true, false, not, ◌&&◌, List, [], ◌∷◌, ℕ, T, nat_eq}
use Rattle.std.proofs.Common.{ap, sym, ◌∙◌, eqb→eq}
use Rattle.lists.specs.Basics.{when◌then◌else◌, every}
use Rattle.lists.specs.Tests.{and_left, and_right, T_true, true_T}
use Rattle.sheets.specs.Grammar.{quote, comma, cr, lf, bare, non_zero, is_digit, doubled}

-- what the tests of a byte say together
pub every_head : (f : ℕ → Bool) (b : ℕ) (s : List ℕ) → every f (b ∷ s) ≡ true → f b ≡ true
unfolding every
every_head f b s e = T_true (f b) (and_left (f b) (every f s) (true_T _ e))

pub every_tail : (f : ℕ → Bool) (b : ℕ) (s : List ℕ) → every f (b ∷ s) ≡ true → every f s ≡ true
unfolding every
every_tail f b s e = T_true (every f s) (and_right (f b) (every f s) (true_T _ e))

pub T_false : (b : Bool) → T (not b) → b ≡ false
T_false true t = absurd t
T_false false t = refl

pub not_yes : (a : Bool) → not a ≡ true → a ≡ false
not_yes true e = sym e
not_yes false e = refl

pub not_zero : (b : ℕ) → non_zero b ≡ true → nat_eq b 0 ≡ false
unfolding non_zero
not_zero b e = not_yes (nat_eq b 0) e

pub and_first : (a b : Bool) → (a && b) ≡ true → a ≡ true
and_first true b e = refl
and_first false b e = e

pub and_second : (a b : Bool) → (a && b) ≡ true → b ≡ true
and_second true b e = e
and_second false b e = absurd (let z : T false = true_T _ e in z)

pub bare_quote : (b : ℕ) → bare b ≡ true → nat_eq b quote ≡ false
unfolding bare
bare_quote b e = not_yes _ (and_first (not (nat_eq b quote)) (not (nat_eq b comma)) (and_first _ _ e))

pub bare_comma : (b : ℕ) → bare b ≡ true → nat_eq b comma ≡ false
unfolding bare
bare_comma b e =
    let h : (not (nat_eq b quote) && not (nat_eq b comma)) ≡ true = and_first _ (not (nat_eq b cr) && not (nat_eq b lf)) e in
    not_yes _ (T_true _ (and_right (not (nat_eq b quote)) (not (nat_eq b comma)) (true_T _ h)))

-- a digit is none of the bytes that a sheet tells apart
pub digit_not : (b k : ℕ) → is_digit k ≡ false → is_digit b ≡ true → nat_eq b k ≡ false
digit_not b k f e = go (nat_eq b k) refl
  where
    go : (t : Bool) → nat_eq b k ≡ t → t ≡ false
    go true q = sym e ∙ ap is_digit (eqb→eq b k (true_T _ q)) ∙ f
    go false q = refl

pub digit_quote : (b : ℕ) → is_digit b ≡ true → nat_eq b quote ≡ false
unfolding is_digit
digit_quote b e = digit_not b quote refl e

pub digit_bare : (b : ℕ) → is_digit b ≡ true → bare b ≡ true
unfolding bare is_digit
digit_bare b e = rw (digit_not b quote refl e, digit_not b comma refl e, digit_not b cr refl e, digit_not b lf refl e)

pub every_more : (f : ℕ → Bool) (b : ℕ) (s : List ℕ) → f b ≡ true → every f s ≡ true → every f (b ∷ s) ≡ true
unfolding every
every_more f b s e k = rw (e, k)

pub every_none : (f : ℕ → Bool) → every f [] ≡ true
unfolding every
every_none f = refl

pub zero_not : (b : ℕ) → nat_eq b 0 ≡ false → non_zero b ≡ true
unfolding non_zero
zero_not b e = ap not e

-- so digits stand unquoted, and none of them is doubled
pub digits_bare : (s : List ℕ) → every is_digit s ≡ true → every bare s ≡ true
digits_bare [] e = every_none bare
digits_bare (b ∷ s) e = every_more bare b s (digit_bare b (every_head is_digit b s e)) (digits_bare s (every_tail is_digit b s e))

pub digits_single : (s : List ℕ) → every is_digit s ≡ true → doubled s ≡ s
unfolding doubled when◌then◌else◌
digits_single [] e = refl
digits_single (b ∷ s) e = rw (digit_quote b (every_head is_digit b s e)) (ap (λ l. b ∷ l) (digits_single s (every_tail is_digit b s e)))
