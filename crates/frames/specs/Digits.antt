-- What digits are worth at most, the number that digits make one by one, and a test of all bytes. Assumes nothing.
use Rattle.std.specs.Prelude.{◌≡◌, Bool, true, false, List, [], ◌∷◌, ◌++◌, ℕ, suc, ◌+◌, ◌-◌, ◌*◌, ◌^◌, ◌<◌, ◌≤◌, ◌&&◌, nat_lt, length, take, drop, get_or}
use Rattle.std.proofs.Math.Path.{refl, ap, sym, ◌∙◌}
use Rattle.std.proofs.Common.{add-one, arith, ltb→lt, subst}
use Rattle.std.proofs.Math.Nat.{pow-suc, pow-le-pow_right}
use Rattle.std.proofs.Math.Seq.{drop-cons}
use Rattle.std.proofs.lemmas.List.{get_or-drop, length-drop}
use Rattle.std.specs.List.{list_all}
use Rattle.lists.specs.Choice.{choose}
use Rattle.lists.specs.Basics.{every, table}
use Rattle.lists.specs.Blocks.{length_table, table_of}
use Rattle.protocol.specs.Frames.{digit_value, number_after, number, bytes_at, read2, read8}

pub digit_bound : (b : ℕ) → digit_value b < 16
unfolding digit_value
digit_bound b =
    choose (λ v. v < 16) (nat_lt b 48) 0 _ (λ _. omega arith)
    (λ _. choose (λ v. v < 16) (nat_lt b 58) (b - 48) _ (λ t. let h = ltb→lt b 58 t in omega arith)
    (λ _. choose (λ v. v < 16) (nat_lt b 65) 0 _ (λ _. omega arith)
    (λ _. choose (λ v. v < 16) (nat_lt b 71) (b - 55) 0 (λ t. let h = ltb→lt b 71 t in omega arith) (λ _. omega arith))))

-- i digits and one more, of at most eight
pub one_more : (v b i : ℕ) → v < 16 ^ i → i < 8 → (v * 16 + digit_value b < 16 ^ (i + 1)) × (v * 16 + digit_value b < 2 ^ 32)
one_more v b i h k =
    let d = digit_bound b in
    let e : 16 ^ suc i ≡ 16 ^ i * 16 = pow-suc 16 i in
    let z : 0 < 16 = omega arith in
    let q : i ≤ 7 = omega arith in
    let p : 16 ^ i ≤ 16 ^ 7 = pow-le-pow_right z q in
    (rw (add-one, e) (omega arith), omega arith)

-- so many digits are less than 16 to that power: two less than 256, four less than 65536
bound_after : (v i : ℕ) (digits : List ℕ) → v < 16 ^ i → number_after v digits < 16 ^ (i + length digits)
bound_after v i [] h = let e : i ≡ i + 0 = omega arith in subst (λ n. v < 16 ^ n) e h
bound_after v i (d ∷ digits) h =
    let b = digit_bound d in
    let p : 16 ^ suc i ≡ 16 ^ i * 16 = pow-suc 16 i in
    let e : suc i + length digits ≡ i + suc (length digits) = omega arith in
    subst (λ n. number_after (v * 16 + digit_value d) digits < 16 ^ n) e (bound_after (v * 16 + digit_value d) (suc i) digits (omega arith))

pub number_bound : (digits : List ℕ) → number digits < 16 ^ length digits
number_bound digits =
    let e : 0 + length digits ≡ length digits = omega arith in
    subst (λ n. number digits < 16 ^ n) e (bound_after 0 0 digits (omega arith))

pub read2_bound : (l : List ℕ) (at : ℕ) → read2 l at < 256
read2_bound l at =
    let n : length (bytes_at l at 2) ≡ 2 = length_table 2 (λ i. get_or l (at + i) 0) in
    subst (λ k. read2 l at < 16 ^ k) n (number_bound (bytes_at l at 2))

-- two digits, and eight as twice four, of any line
module _ (l : List ℕ) (at : ℕ) where
  digit_at : (i j : ℕ) → i ≡ j → digit_value (get_or l i 0) ≡ digit_value (get_or l j 0)
  digit_at i j e = ap (λ k. digit_value (get_or l k 0)) e

  pub two_digits : read2 l at ≡ digit_value (get_or l at 0) * 16 + digit_value (get_or l (at + 1) 0)
  unfolding table
  two_digits = omega (arith, digit_at (at + 0) at (omega arith))

  pub eight_digits : read8 l at ≡ (read2 l at * 256 + read2 l (at + 2)) * 65536 + (read2 l (at + 4) * 256 + read2 l (at + 6))
  unfolding table
  eight_digits =
      let b = digit_at (at + 2 + 0) (at + 2) (omega arith) in
      let c = digit_at (at + 2 + 1) (at + 3) (omega arith) in
      let d = digit_at (at + 4 + 0) (at + 4) (omega arith) in
      let e = digit_at (at + 4 + 1) (at + 5) (omega arith) in
      let f = digit_at (at + 6 + 0) (at + 6) (omega arith) in
      let g = digit_at (at + 6 + 1) (at + 7) (omega arith) in
      omega arith

-- where the line is long enough, they are the bytes of its part
pub bytes_of : (l : List ℕ) (at n : ℕ) → at + n ≤ length l → bytes_at l at n ≡ take n (drop at l)
bytes_of l at n h =
    let d = length-drop at l in
    table_of (drop at l) 0 (λ i. get_or l (at + i) 0) n (omega arith) (λ i k. sym (get_or-drop at l i 0))

-- so a number read there is that of the part
pub number_of_part : (l : List ℕ) (at n r : ℕ) → r ≡ number (take n (drop at l)) → at + n ≤ length l → number (bytes_at l at n) ≡ r
number_of_part l at n r e h = ap number (bytes_of l at n h) ∙ sym e

-- The byte at i decides, or leaves it to those after it.
module _ (f : ℕ → Bool) (l : List ℕ) (i : ℕ) (h : i < length l) where
  pub every_stops : f (get_or l i 0) ≡ false → every f (drop i l) ≡ false
  unfolding every
  every_stops e = rw (drop-cons l i 0 h, e)

  pub every_goes_on : f (get_or l i 0) ≡ true → every f (drop i l) ≡ every f (drop (i + 1) l)
  unfolding every
  every_goes_on e = rw (add-one, drop-cons l i 0 h, e)

pub every_is : (f : ℕ → Bool) (l : List ℕ) → every f l ≡ list_all f l
unfolding every
every_is f [] = refl
every_is f (x ∷ l) = ap (λ b. f x && b) (every_is f l)

-- digits behind digits: so four digits are 256 times the first two and the last two, and eight 65536 times the first four and the last four
behind : (v : ℕ) (digits : List ℕ) → number_after v digits ≡ v * 16 ^ length digits + number digits
behind v [] = omega arith
behind v (d ∷ digits) =
    let p = 16 ^ length digits in
    let x = digit_value d in
    let e : 16 ^ suc (length digits) ≡ p * 16 = pow-suc 16 (length digits) in
    let f = behind (v * 16 + x) digits in
    let g = behind (0 * 16 + x) digits in
    let h : v * (p * 16) + ((0 * 16 + x) * p + number digits) ≡ (v * 16 + x) * p + number digits = omega arith in
    f ∙ sym h ∙ sym (ap (λ z. v * z + number_after (0 * 16 + x) digits) e ∙ ap (λ z. v * (p * 16) + z) g)

pub number_append : (a b : List ℕ) → number (a ++ b) ≡ number a * 16 ^ length b + number b
number_append a b = go 0 a
  where
    go : (v : ℕ) (a : List ℕ) → number_after v (a ++ b) ≡ number_after v a * 16 ^ length b + number b
    go v [] = behind v b
    go v (d ∷ a) = go (v * 16 + digit_value d) a
