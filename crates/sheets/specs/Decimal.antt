-- The digits that are written for a number are digits, say the number, and begin with no zero but in 0 itself. Assumes nothing.
use Rattle.std.specs.Prelude.{◌≡◌, refl, ◌⊎◌, Bool, true, List, [], ◌∷◌, ◌++◌, ℕ, zero, suc, ◌+◌, ◌-◌, ◌*◌, ◌/◌, ◌%◌, ◌^◌, ◌≤◌, ◌<◌, nat_le, nat_lt, length}
use Rattle.std.proofs.Common.{ap, ◌∙◌, inl, inr, pow-suc, arith, add-one, ltb-false, le→leb, ltb→lt, length-append}
use Rattle.lists.specs.Choice.{choose}
use Rattle.lists.specs.Basics.{every}
use Rattle.lists.specs.Tests.{T_true, and_both}
use Rattle.lists.specs.Merge.{every_append}
use Rattle.sheets.specs.Bytes.{T_false}
use Rattle.sheets.specs.Grammar.{is_digit, worth}
use Rattle.sheets.specs.Writer.{last_digits, digit_count, decimal}

pub length_last : (k v : ℕ) → length (last_digits k v) ≡ k
unfolding last_digits
length_last zero v = refl
length_last (suc k) v = length-append (last_digits k (v / 10)) ((48 + v % 10) ∷ []) ∙ ap (λ n. n + 1) (length_last k (v / 10)) ∙ add-one k

one_digit : (v : ℕ) → is_digit (48 + v % 10) ≡ true
unfolding is_digit
one_digit v = T_true _ (and_both (nat_le 48 (48 + v % 10)) (nat_le (48 + v % 10) 57) (le→leb 48 (48 + v % 10) (omega arith)) (le→leb (48 + v % 10) 57 (omega arith)))

every_last : (f : ℕ → Bool) (l : List ℕ) (b : ℕ) → every f l ≡ true → f b ≡ true → every f (l ++ (b ∷ [])) ≡ true
unfolding every
every_last f l b e k = every_append f l (b ∷ []) ∙ rw (e, k)

pub last_digits_lem : (k v : ℕ) → every is_digit (last_digits k v) ≡ true
unfolding last_digits every
last_digits_lem zero v = refl
last_digits_lem (suc k) v = every_last is_digit (last_digits k (v / 10)) (48 + v % 10) (last_digits_lem k (v / 10)) (one_digit v)

worth_last : (v b : ℕ) (s : List ℕ) → worth v (s ++ (b ∷ [])) ≡ 10 * worth v s + (b - 48)
unfolding worth
worth_last v b [] = refl
worth_last v b (a ∷ s) = worth_last (10 * v + (a - 48)) b s

pub digits_worth : (k v : ℕ) → v < 10 ^ k → worth 0 (last_digits k v) ≡ v
unfolding last_digits worth
digits_worth zero v h = omega arith
digits_worth (suc k) v h =
    let l : v < 10 ^ k * 10 = rw pow-suc at h in
    worth_last 0 (48 + v % 10) (last_digits k (v / 10))
    ∙ ap (λ n. 10 * n + (48 + v % 10 - 48)) (digits_worth k (v / 10) (omega arith))
    ∙ omega arith

-- There are digits enough.
abbrev Enough : ℕ → ℕ → Type 0
Enough v n = (v < 10 ^ n) × (1 ≤ n) × (n ≤ 10)

pub count_enough : (v : ℕ) → v < 10000000000 → Enough v (digit_count v)
unfolding digit_count
count_enough v h =
    choose (Enough v) (nat_lt v 10) 1 _ (λ t. let l = ltb→lt v 10 t in (omega arith, omega arith, omega arith))
    (λ _. choose (Enough v) (nat_lt v 100) 2 _ (λ t. let l = ltb→lt v 100 t in (omega arith, omega arith, omega arith))
    (λ _. choose (Enough v) (nat_lt v 1000) 3 _ (λ t. let l = ltb→lt v 1000 t in (omega arith, omega arith, omega arith))
    (λ _. choose (Enough v) (nat_lt v 10000) 4 _ (λ t. let l = ltb→lt v 10000 t in (omega arith, omega arith, omega arith))
    (λ _. choose (Enough v) (nat_lt v 100000) 5 _ (λ t. let l = ltb→lt v 100000 t in (omega arith, omega arith, omega arith))
    (λ _. choose (Enough v) (nat_lt v 1000000) 6 _ (λ t. let l = ltb→lt v 1000000 t in (omega arith, omega arith, omega arith))
    (λ _. choose (Enough v) (nat_lt v 10000000) 7 _ (λ t. let l = ltb→lt v 10000000 t in (omega arith, omega arith, omega arith))
    (λ _. choose (Enough v) (nat_lt v 100000000) 8 _ (λ t. let l = ltb→lt v 100000000 t in (omega arith, omega arith, omega arith))
    (λ _. choose (Enough v) (nat_lt v 1000000000) 9 _ (λ t. let l = ltb→lt v 1000000000 t in (omega arith, omega arith, omega arith))
    (λ _. (omega arith, omega arith, omega arith))))))))))

pub decimal_digits : (v : ℕ) → v < 10000000000 → (every is_digit (decimal v) ≡ true) × (1 ≤ length (decimal v)) × (worth 0 (decimal v) ≡ v)
unfolding decimal
decimal_digits v h =
    let c = count_enough v h in
    (last_digits_lem (digit_count v) v, rw (length_last (digit_count v) v) c.1, digits_worth (digit_count v) v c.0)

-- And no fewer would do: there is one digit, or the first of them is not 0.
abbrev Least : ℕ → ℕ → Type 0
Least v n = (n ≡ 1) ⊎ (10 ^ (n - 1) ≤ v)

pub count_least : (v : ℕ) → Least v (digit_count v)
unfolding digit_count
count_least v =
    choose (Least v) (nat_lt v 10) 1 _ (λ _. inl refl)
    (λ n1. choose (Least v) (nat_lt v 100) 2 _ (λ _. inr (ltb-false v 10 (T_false (nat_lt v 10) n1)))
    (λ n2. choose (Least v) (nat_lt v 1000) 3 _ (λ _. inr (ltb-false v 100 (T_false (nat_lt v 100) n2)))
    (λ n3. choose (Least v) (nat_lt v 10000) 4 _ (λ _. inr (ltb-false v 1000 (T_false (nat_lt v 1000) n3)))
    (λ n4. choose (Least v) (nat_lt v 100000) 5 _ (λ _. inr (ltb-false v 10000 (T_false (nat_lt v 10000) n4)))
    (λ n5. choose (Least v) (nat_lt v 1000000) 6 _ (λ _. inr (ltb-false v 100000 (T_false (nat_lt v 100000) n5)))
    (λ n6. choose (Least v) (nat_lt v 10000000) 7 _ (λ _. inr (ltb-false v 1000000 (T_false (nat_lt v 1000000) n6)))
    (λ n7. choose (Least v) (nat_lt v 100000000) 8 _ (λ _. inr (ltb-false v 10000000 (T_false (nat_lt v 10000000) n7)))
    (λ n8. choose (Least v) (nat_lt v 1000000000) 9 _ (λ _. inr (ltb-false v 100000000 (T_false (nat_lt v 100000000) n8)))
    (λ n9. inr (ltb-false v 1000000000 (T_false (nat_lt v 1000000000) n9)))))))))))
