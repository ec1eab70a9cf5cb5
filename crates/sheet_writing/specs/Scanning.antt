-- What is known of a name before it is written, and the room that its row takes. Assumes nothing.
use Rattle.std.specs.Prelude.{◌≡◌, refl, Bool, true, false, ◌&&◌, List, [], ◌∷◌, ◌++◌, Option, None, Some, max, ◌*◌, ◌^◌, nat_eq, nat_lt}
use Rattle.std.specs.Option.{SomeIff}
use Rattle.std.specs.List.{slice_get}
use Rattle.std.proofs.lemmas.Option.{slice_get-get_or}
use Rattle.std.proofs.Math.Path.{ap, sym}
use Rattle.std.proofs.Common.{ap₂, ◌∙◌, append-nil, ltb-true, ltb-false, lt-ltb, le-ltb, length-append}
use Prim.Native.Nat.{ℕ, zero, suc, ◌+◌, ◌-◌, ◌≤◌, ◌<◌}
use mir.Val.{bool_byte}
use native.Mathlib.Omega.{arith}
use Rattle.std.proofs.Common.{drop_of_length-le}
use Rattle.std.proofs.Math.ListN.{length, take, get_or}
use Rattle.lists.specs.Basics.{when◌then◌else◌, every}
use Rattle.lists.specs.Choice.{choose}
use Rattle.lists.specs.Tests.{says_same, says_as, says_lt}
use Rattle.sheet_writing.specs.declared.names.Scan.{Scan}
use Rattle.sheets.specs.Grammar.{quote, comma, cr, lf, bare, doubled}
use Rattle.sheets.specs.Writer.{name_text, last_digits, digit_count, decimal, row_text, first_name, zeros, ends_well}
use Rattle.sheets.specs.Bytes.{every_head, every_tail, bare_quote}
use Rattle.sheets.specs.Decimal.{length_last}
use Rattle.std.proofs.Common.{add-one, eq-eqb, ne_eqb, drop-cons}
use Rattle.std.proofs.Math.Nat.{add-zero}
use Rattle.std.proofs.Math.ListN.{drop}
use Rattle.std.proofs.Math.Seq.{drop-length}
use Rattle.lists.specs.Tests.{and_true}
use Rattle.sheets.specs.Buffers.{first_zero, first_more}

abbrev pub one : Bool → ℕ
one t = when t then 1 else 0

unfoldable pub quotes : List ℕ → ℕ
quotes [] = 0
quotes (b ∷ s) = one (nat_eq b quote) + quotes s

unfoldable pub scanned : List ℕ → Scan
scanned s = record { length = length s; quotes = quotes s; plain = every bare s }

-- the quote before and behind a name that may not stand unquoted
unfoldable pub quote_if : Bool → List ℕ
quote_if true = []
quote_if false = quote ∷ []

-- what is left of the room, if there is any, behind so many bytes
unfoldable pub less_by : Option ℕ → ℕ → Option ℕ
less_by None k = None
less_by (Some n) k = when nat_lt n k then None else Some (n - k)

pub less_in : (n k : ℕ) → k ≤ n → Some (n - k) ≡ less_by (Some n) k
unfolding less_by when◌then◌else◌
less_in n k h = rw (le-ltb n k h)

pub less_out : (n k : ℕ) → n < k → None ≡ less_by (Some n) k
unfolding less_by when◌then◌else◌
less_out n k h = rw (lt-ltb n k h)

pub less_as : (r : Option ℕ) (n k : ℕ) → SomeIff r (k ≤ n) (n - k) → r ≡ less_by (Some n) k
less_as None n k h = less_out n k (omega arith)
less_as (Some m) n k h = ap Some h.1 ∙ less_in n k h.0

-- the room of one part, then of another
less_again : (n a b : ℕ) (t : Bool) → nat_lt n a ≡ t → less_by (when t then None else Some (n - a)) b ≡ less_by (Some n) (a + b)
unfolding less_by when◌then◌else◌
less_again n a b true e = let h = ltb-true n a e in rw (lt-ltb n (a + b) (omega arith))
less_again n a b false e =
    let h = ltb-false n a e in
    let k : nat_lt (n - a) b ≡ nat_lt n (a + b) = says_same (says_lt (n - a) b) (says_as (says_lt n (a + b)) (λ k. omega arith) (λ k. omega arith)) in
    let m : n - a - b ≡ n - (a + b) = omega arith in
    ap₂ (λ t x. when t then None else Some x) k m

pub less_less : (r : Option ℕ) (a b : ℕ) → less_by (less_by r a) b ≡ less_by r (a + b)
unfolding less_by
less_less None a b = refl
less_less (Some n) a b = less_again n a b (nat_lt n a) refl

pub less_none : (r : Option ℕ) → r ≡ less_by r 0
unfolding less_by when◌then◌else◌
less_none None = refl
less_none (Some n) = rw (le-ltb n 0 (omega arith)) (ap Some (let e : n ≡ n - 0 = omega arith in e))

pub less_left : (n k m : ℕ) → Some m ≡ less_by (Some n) k → k ≤ n
unfolding less_by when◌then◌else◌
less_left n k m e = go (nat_lt n k) refl e
  where
    go : (t : Bool) → nat_lt n k ≡ t → Some m ≡ (when t then None else Some (n - k)) → k ≤ n
    go true q e = cc
    go false q e = ltb-false n k q

pub less_short : (n k : ℕ) → None ≡ less_by (Some n) k → n < k
unfolding less_by when◌then◌else◌
less_short n k e = go (nat_lt n k) refl e
  where
    go : (t : Bool) → nat_lt n k ≡ t → None ≡ (when t then None else Some (n - k)) → n < k
    go true q e = ltb-true n k q
    go false q e = cc

-- quotes that are doubled
pub doubled_append : (s t : List ℕ) → doubled (s ++ t) ≡ doubled s ++ doubled t
unfolding doubled when◌then◌else◌
doubled_append [] t = refl
doubled_append (b ∷ s) t = go (nat_eq b quote) (doubled_append s t)
  where
    go : (q : Bool) → doubled (s ++ t) ≡ doubled s ++ doubled t
        → (when q then quote ∷ quote ∷ doubled (s ++ t) else b ∷ doubled (s ++ t)) ≡ (when q then quote ∷ quote ∷ doubled s else b ∷ doubled s) ++ doubled t
    go true e = ap (λ l. quote ∷ quote ∷ l) e
    go false e = ap (λ l. b ∷ l) e

pub length_doubled : (s : List ℕ) → length (doubled s) ≡ length s + quotes s
unfolding doubled quotes when◌then◌else◌
length_doubled [] = refl
length_doubled (b ∷ s) = go (nat_eq b quote) (length_doubled s)
  where
    go : (q : Bool) → length (doubled s) ≡ length s + quotes s → length (when q then quote ∷ quote ∷ doubled s else b ∷ doubled s) ≡ suc (length s) + (one q + quotes s)
    go true e = omega arith
    go false e = omega arith

pub bare_single : (s : List ℕ) → every bare s ≡ true → doubled s ≡ s
unfolding doubled when◌then◌else◌
bare_single [] e = refl
bare_single (b ∷ s) e = rw (bare_quote b (every_head bare b s e)) (ap (λ l. b ∷ l) (bare_single s (every_tail bare b s e)))

-- a name's text is the name with its quotes doubled, between two quotes or none
pub name_parts : (s : List ℕ) → name_text s ≡ quote_if (every bare s) ++ (doubled s ++ quote_if (every bare s))
unfolding name_text quote_if when◌then◌else◌
name_parts s = go (every bare s) refl
  where
    go : (t : Bool) → every bare s ≡ t → (when t then s else quote ∷ (doubled s ++ (quote ∷ []))) ≡ quote_if t ++ (doubled s ++ quote_if t)
    go true e = sym (append-nil (doubled s) ∙ bare_single s e)
    go false e = refl

-- a name whose flag says whether it may stand unquoted
module _ (s : List ℕ) (p : Bool) (e : p ≡ every bare s) where
  pub name_pieces : name_text s ≡ quote_if p ++ (doubled s ++ quote_if p)
  name_pieces = name_parts s ∙ ap (λ p. quote_if p ++ (doubled s ++ quote_if p)) (sym e)

  pub name_size : length (name_text s) ≡ length (quote_if p) + (length (doubled s) + length (quote_if p))
  name_size = ap length name_pieces ∙ length-append (quote_if p) (doubled s ++ quote_if p) ∙ ap (λ n. length (quote_if p) + n) (length-append (doubled s) (quote_if p))

  -- the parts of its row: the name, its quotes once more, a quote on both sides, and a number between a comma and CR LF
  pub row_parts : (v : ℕ) → length (row_text (record { name = s; identifier = v })) ≡ length s + quotes s + (length (quote_if p) + length (quote_if p)) + (digit_count v + 3)
  unfolding row_text decimal
  row_parts v =
      let a = name_size in
      let d = length_doubled s in
      let e : length (last_digits (digit_count v) v ++ (cr ∷ lf ∷ [])) ≡ digit_count v + 2 = length-append (last_digits (digit_count v) v) (cr ∷ lf ∷ []) ∙ ap (λ n. n + 2) (length_last (digit_count v) v) in
      let z = length-append (name_text s) (comma ∷ (last_digits (digit_count v) v ++ (cr ∷ lf ∷ []))) in
      omega arith

-- a test as a number
pub byte_one : (t : Bool) → bool_byte t ≡ one t
unfolding when◌then◌else◌
byte_one true = refl
byte_one false = refl

pub one_small : (t : Bool) → one t ≤ 1
unfolding when◌then◌else◌
one_small true = omega arith
one_small false = omega arith

and_assoc : (a b c : Bool) → (a && (b && c)) ≡ ((a && b) && c)
and_assoc true b c = refl
and_assoc false b c = refl

zeros_head : (b : ℕ) (s : List ℕ) → zeros (b ∷ s) ≡ one (nat_eq b 0) + zeros s
unfolding zeros when◌then◌else◌
zeros_head b s = go (nat_eq b 0)
  where
    go : (t : Bool) → (when t then 1 + zeros s else zeros s) ≡ one t + zeros s
    go true = refl
    go false = omega arith

-- counting zero bytes
pub zeros_more : (l : List ℕ) (i n : ℕ) → i < length l → zeros l ≡ n + zeros (drop i l) → zeros l ≡ n + one (nat_eq (get_or l i 0) 0) + zeros (drop (i + 1) l)
zeros_more l i n h e =
    let b = get_or l i 0 in
    let z : zeros (drop i l) ≡ one (nat_eq b 0) + zeros (drop (suc i) l) = ap zeros (drop-cons l i 0 h) ∙ zeros_head b (drop (suc i) l) in
    let f : zeros (drop (i + 1) l) ≡ zeros (drop (suc i) l) = ap (λ n. zeros (drop n l)) (add-one i) in
    omega arith

pub zeros_all : (l : List ℕ) (i n : ℕ) → length l ≤ i → zeros l ≡ n + zeros (drop i l) → n ≡ zeros l
unfolding zeros
zeros_all l i n h e = sym (e ∙ ap (λ s. n + zeros s) (drop_of_length-le l h) ∙ add-zero n)

-- What is known of the first name of the bytes l after i of its bytes: what is counted, and what is left.
pub record Scanning (l : List ℕ) (i q : ℕ) (p : Bool) : Type 0 where
  pub lengths : length (first_name l) ≡ i + length (first_name (drop i l))
  pub quotes_are : quotes (first_name l) ≡ q + quotes (first_name (drop i l))
  pub plain_is : every bare (first_name l) ≡ (p && every bare (first_name (drop i l)))
  pub few : q ≤ i

pub scan_none : (l : List ℕ) → Scanning l 0 0 true
scan_none l = record { lengths = omega arith; quotes_are = omega arith; plain_is = refl; few = omega arith }

module _ (l : List ℕ) (i q : ℕ) (p : Bool) (k : Scanning l i q p) where
  -- the name ends here
  scan_end : first_name (drop i l) ≡ [] → record { length = i; quotes = q; plain = p } ≡ scanned (first_name l)
  unfolding scanned quotes every
  scan_end e =
      let a : length (first_name l) ≡ i = k.lengths ∙ ap (λ s. i + length s) e ∙ add-zero i in
      let b : quotes (first_name l) ≡ q = k.quotes_are ∙ ap (λ s. q + quotes s) e ∙ add-zero q in
      let c : every bare (first_name l) ≡ p = k.plain_is ∙ ap (λ s. p && every bare s) e ∙ and_true p in
      λ j. record { length = sym a j; quotes = sym b j; plain = sym c j }

  pub scan_out : i ≡ length l → record { length = i; quotes = q; plain = p } ≡ scanned (first_name l)
  unfolding first_name
  scan_out e = scan_end (ap (λ n. first_name (drop n l)) e ∙ ap first_name (drop-length l))

  module _ (h : i < length l) where
    pub scan_zero : get_or l i 0 ≡ 0 → record { length = i; quotes = q; plain = p } ≡ scanned (first_name l)
    scan_zero e = scan_end (ap first_name (drop-cons l i 0 h) ∙ (first_zero (get_or l i 0) (drop (suc i) l) (eq-eqb (get_or l i 0) 0 e)).0)

    pub scan_more : (get_or l i 0 ≡ 0 → ⊥) → Scanning l (i + 1) (q + one (nat_eq (get_or l i 0) quote)) (p && bare (get_or l i 0))
    unfolding quotes every
    scan_more n =
        let b = get_or l i 0 in
        let r = drop (suc i) l in
        let e : first_name (drop i l) ≡ b ∷ first_name r = ap first_name (drop-cons l i 0 h) ∙ (first_more b r (ne_eqb b 0 n)).0 in
        let f : drop (i + 1) l ≡ r = ap (λ n. drop n l) (add-one i) in
        let x : length (first_name l) ≡ i + suc (length (first_name r)) = k.lengths ∙ ap (λ s. i + length s) e in
        let y : quotes (first_name l) ≡ q + (one (nat_eq b quote) + quotes (first_name r)) = k.quotes_are ∙ ap (λ s. q + quotes s) e in
        let z : every bare (first_name l) ≡ (p && (bare b && every bare (first_name r))) = k.plain_is ∙ ap (λ s. p && every bare s) e in
        let o = one_small (nat_eq b quote) in
        let w = k.few in
        record {
          lengths = (let g : length (first_name l) ≡ i + 1 + length (first_name r) = omega arith in g) ∙ ap (λ s. i + 1 + length (first_name s)) (sym f);
          quotes_are = (let g : quotes (first_name l) ≡ q + one (nat_eq b quote) + quotes (first_name r) = omega arith in g) ∙ ap (λ s. q + one (nat_eq b quote) + quotes (first_name s)) (sym f);
          plain_is = z ∙ and_assoc p (bare b) (every bare (first_name r)) ∙ ap (λ s. (p && bare b) && every bare (first_name s)) (sym f);
          few = omega arith;
        }

-- a name is the bytes before its zero byte
pub first_take : (l : List ℕ) → take (length (first_name l)) l ≡ first_name l
unfolding first_name when◌then◌else◌
first_take [] = refl
first_take (b ∷ l) = go (nat_eq b 0) (first_take l)
  where
    go : (t : Bool) → take (length (first_name l)) l ≡ first_name l → take (length (when t then [] else b ∷ first_name l)) (b ∷ l) ≡ (when t then [] else b ∷ first_name l)
    go true e = refl
    go false e = ap (λ k. b ∷ k) e

pub first_length : (l : List ℕ) → length (first_name l) ≤ length l
unfolding first_name when◌then◌else◌
first_length [] = omega arith
first_length (b ∷ l) = go (nat_eq b 0) (first_length l)
  where
    go : (t : Bool) → length (first_name l) ≤ length l → length (when t then [] else b ∷ first_name l) ≤ suc (length l)
    go true e = omega arith
    go false e = omega arith

-- what a scan says of the name
module _ (names : List ℕ) (s : Scan) (e : s ≡ scanned (first_name names)) where
  pub scan_length : s.length ≡ length (first_name names)
  unfolding scanned
  scan_length = ap (λ s. s.length) e

  pub scan_within : s.length ≤ length names
  scan_within = let x = scan_length in let y = first_length names in omega arith

  pub scan_quotes : s.quotes ≡ quotes (first_name names)
  unfolding scanned
  scan_quotes = ap (λ s. s.quotes) e

  pub scan_plain : s.plain ≡ every bare (first_name names)
  unfolding scanned
  scan_plain = ap (λ s. s.plain) e

  pub scan_bytes : take s.length names ≡ first_name names
  scan_bytes = ap (λ n. take n names) scan_length ∙ first_take names

  pub scan_text : name_text (first_name names) ≡ quote_if s.plain ++ (doubled (take s.length names) ++ quote_if s.plain)
  scan_text = name_pieces (first_name names) s.plain scan_plain ∙ ap (λ l. quote_if s.plain ++ (doubled l ++ quote_if s.plain)) (sym scan_bytes)

  pub scan_size : length (name_text (first_name names)) ≡ length (quote_if s.plain) + (length (doubled (take s.length names)) + length (quote_if s.plain))
  scan_size =
      name_size (first_name names) s.plain scan_plain
      ∙ ap (λ l. length (quote_if s.plain) + (length (doubled l) + length (quote_if s.plain))) (sym scan_bytes)

-- the last byte, if there is one
pub ends_last : (l : List ℕ) (b : ℕ) → Some b ≡ slice_get l (length l - 1) → nat_eq b 0 ≡ ends_well l
unfolding ends_well
ends_last [] b e = cc
ends_last (x ∷ []) b e = let q : b ≡ x = cc in ap (λ k. nat_eq k 0) q
ends_last (x ∷ y ∷ l) b e = ends_last (y ∷ l) b (e ∙ ap (slice_get (x ∷ y ∷ l)) (let q : length (x ∷ y ∷ l) - 1 ≡ suc (length (y ∷ l) - 1) = omega arith in q))

pub ends_empty : (l : List ℕ) → None ≡ slice_get l (length l - 1) → true ≡ ends_well l
unfolding ends_well
ends_empty [] e = refl
ends_empty (x ∷ l) e =
    let i = length (x ∷ l) - 1 in
    let h : i < length (x ∷ l) = omega arith in
    let q : None ≡ Some (get_or (x ∷ l) i 0) = e ∙ slice_get-get_or (x ∷ l) i 0 h in
    cc

pub ends_at : (l : List ℕ) → (length l ≡ 0 → ⊥) → nat_eq (get_or l (length l - 1) 0) 0 ≡ ends_well l
ends_at l h = ends_last l (get_or l (length l - 1) 0) (sym (slice_get-get_or l (length l - 1) 0 (omega arith)))

-- part by part
pub row_less : (r : Option ℕ) (a b q d : ℕ) → less_by (less_by (less_by (less_by r a) b) q) d ≡ less_by r (a + b + q + d)
row_less r a b q d = ap (λ x. less_by (less_by x q) d) (less_less r a b) ∙ ap (λ x. less_by x d) (less_less r (a + b) q) ∙ less_less r (a + b + q) d

pub count_most : (v : ℕ) → digit_count v ≤ 10
unfolding digit_count
count_most v =
    choose (λ n. n ≤ 10) (nat_lt v 10) 1 _ (λ _. omega arith)
    (λ _. choose (λ n. n ≤ 10) (nat_lt v 100) 2 _ (λ _. omega arith)
    (λ _. choose (λ n. n ≤ 10) (nat_lt v 1000) 3 _ (λ _. omega arith)
    (λ _. choose (λ n. n ≤ 10) (nat_lt v 10000) 4 _ (λ _. omega arith)
    (λ _. choose (λ n. n ≤ 10) (nat_lt v 100000) 5 _ (λ _. omega arith)
    (λ _. choose (λ n. n ≤ 10) (nat_lt v 1000000) 6 _ (λ _. omega arith)
    (λ _. choose (λ n. n ≤ 10) (nat_lt v 10000000) 7 _ (λ _. omega arith)
    (λ _. choose (λ n. n ≤ 10) (nat_lt v 100000000) 8 _ (λ _. omega arith)
    (λ _. choose (λ n. n ≤ 10) (nat_lt v 1000000000) 9 _ (λ _. omega arith)
    (λ _. omega arith)))))))))

-- by the power of ten that it reaches
pub count_powers : (v k : ℕ) → k < 10 → 10 ^ k ≤ max v 1 → max v 1 < 10 * 10 ^ k → k + 1 ≡ digit_count v
unfolding digit_count when◌then◌else◌
count_powers v zero h a b = simp (lt-ltb v 10 (omega arith))
count_powers v (suc zero) h a b = simp (le-ltb v 10 (omega arith), lt-ltb v 100 (omega arith))
count_powers v (suc (suc zero)) h a b = simp (le-ltb v 10 (omega arith), le-ltb v 100 (omega arith), lt-ltb v 1000 (omega arith))
count_powers v (suc (suc (suc zero))) h a b = simp (le-ltb v 10 (omega arith), le-ltb v 100 (omega arith), le-ltb v 1000 (omega arith), lt-ltb v 10000 (omega arith))
count_powers v (suc (suc (suc (suc zero)))) h a b = simp (le-ltb v 10 (omega arith), le-ltb v 100 (omega arith), le-ltb v 1000 (omega arith), le-ltb v 10000 (omega arith), lt-ltb v 100000 (omega arith))
count_powers v (suc (suc (suc (suc (suc zero))))) h a b = simp (le-ltb v 10 (omega arith), le-ltb v 100 (omega arith), le-ltb v 1000 (omega arith), le-ltb v 10000 (omega arith), le-ltb v 100000 (omega arith), lt-ltb v 1000000 (omega arith))
count_powers v (suc (suc (suc (suc (suc (suc zero)))))) h a b = simp (le-ltb v 10 (omega arith), le-ltb v 100 (omega arith), le-ltb v 1000 (omega arith), le-ltb v 10000 (omega arith), le-ltb v 100000 (omega arith), le-ltb v 1000000 (omega arith), lt-ltb v 10000000 (omega arith))
count_powers v (suc (suc (suc (suc (suc (suc (suc zero))))))) h a b = simp (le-ltb v 10 (omega arith), le-ltb v 100 (omega arith), le-ltb v 1000 (omega arith), le-ltb v 10000 (omega arith), le-ltb v 100000 (omega arith), le-ltb v 1000000 (omega arith), le-ltb v 10000000 (omega arith), lt-ltb v 100000000 (omega arith))
count_powers v (suc (suc (suc (suc (suc (suc (suc (suc zero)))))))) h a b = simp (le-ltb v 10 (omega arith), le-ltb v 100 (omega arith), le-ltb v 1000 (omega arith), le-ltb v 10000 (omega arith), le-ltb v 100000 (omega arith), le-ltb v 1000000 (omega arith), le-ltb v 10000000 (omega arith), le-ltb v 100000000 (omega arith), lt-ltb v 1000000000 (omega arith))
count_powers v (suc (suc (suc (suc (suc (suc (suc (suc (suc zero))))))))) h a b = simp (le-ltb v 10 (omega arith), le-ltb v 100 (omega arith), le-ltb v 1000 (omega arith), le-ltb v 10000 (omega arith), le-ltb v 100000 (omega arith), le-ltb v 1000000 (omega arith), le-ltb v 10000000 (omega arith), le-ltb v 100000000 (omega arith), le-ltb v 1000000000 (omega arith))
count_powers v (suc (suc (suc (suc (suc (suc (suc (suc (suc (suc k)))))))))) h a b = absurd (omega arith)
