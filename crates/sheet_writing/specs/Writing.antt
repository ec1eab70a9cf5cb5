-- What is written so far: digits from the last on, a name byte by byte, row by row. Assumes nothing.
use Rattle.std.specs.Prelude.{◌≡◌, refl, Bool, true, false, List, [], ◌∷◌, ◌++◌, Option, None, Some, ℕ, zero, suc, ◌+◌, ◌-◌, ◌/◌, ◌%◌, ◌≤◌, ◌<◌, nat_eq, map, length, take, set, Err}
use Rattle.std.proofs.Math.Path.{ap, ap₂}
use Rattle.std.proofs.Common.{sym, ◌∙◌, subst, append_assoc, append-nil, add-zero, add-one, arith, le-leb, length-append, length-set, take-append-drop, take-suc, drop-cons, drop-drop, length-drop, drop_at, get_or-set_same, drop-set-lt, take-take, drop_of_length-le}
use Rattle.std.proofs.lemmas.Bool.{lt-leb}
use Rattle.std.proofs.Math.Dec.{eqb→eq}
use Rattle.std.proofs.Math.ListN.{drop, get_or}
use Rattle.std.proofs.Math.Seq.{append_snoc, take-length}
use Rattle.std.proofs.lemmas.List.{take-set-le}
use Rattle.lists.specs.Basics.{when◌then◌else◌}
use Rattle.lists.specs.Choice.{on_yes, on_no}
use Rattle.lists.specs.Tests.{and_left, true_T}
use Rattle.lists.specs.Splice.{splice}
use Rattle.protocol.specs.declared.refusal.Refusal.TheVariants.{NoSheet, RoomShort}
use Rattle.sheets.specs.Grammar.{quote, comma, cr, lf, doubled}
use Rattle.sheets.specs.Writer.{name_text, last_digits, digit_count, decimal, row_text, write_sheet, first_name, behind_name, rows_in, zeros, ends_well, names_for}
use Rattle.sheets.specs.Calls.{done, laid, sheet_text, write_call}
use Rattle.sheets.specs.Decimal.{length_last}
use Rattle.sheets.specs.Buffers.{split_name}
use Rattle.sheets.specs.Laying.{splice_none, splice_twice, laid_none, laid_more}
use Rattle.sheet_writing.specs.declared.names.Scan.{Scan}
use Rattle.sheet_writing.specs.Scanning.{quote_if, scanned, scan_length, scan_quotes, scan_plain, row_parts, less_by, less_less, doubled_append}

-- Digits: those that are left to write, before what is written, are all of them.
pub record Digits (w t : List ℕ) (at count v left rest : ℕ) : Type 0 where
  pub within : left ≤ count
  pub behind : last_digits left rest ++ drop (at + left) t ≡ last_digits count v ++ drop (at + count) w
  pub before : take (at + left) t ≡ take (at + left) w
  pub same : length t ≡ length w

pub digits_none : (w : List ℕ) (at count v : ℕ) → Digits w w at count v count v
digits_none w at count v = record { within = omega arith; behind = refl; before = refl; same = refl }

drop_set_here : (l : List ℕ) (k d : ℕ) → k < length l → drop k (set l k d) ≡ d ∷ drop (suc k) l
drop_set_here l k d h = drop-cons (set l k d) k 0 (simp length-set h) ∙ ap₂ (λ x y. x ∷ y) (get_or-set_same l k d 0 h) (drop-set-lt (suc k) l k d (omega arith))

digits_step : (w t : List ℕ) (at count v n rest : ℕ) → at + count ≤ length w → Digits w t at count v (suc n) rest
    → Digits w (set t (at + n) (48 + rest % 10)) at count v n (rest / 10)
unfolding last_digits
digits_step w t at count v n rest fits k =
    let d = 48 + rest % 10 in
    let p = k.within in
    let q = k.same in
    let e : suc (at + n) ≡ at + suc n = omega arith in
    let h : at + n < length t = omega arith in
    record {
      within = omega arith;
      behind =
          ap (λ l. last_digits n (rest / 10) ++ l) (drop_set_here t (at + n) d h ∙ ap (λ x. d ∷ drop x t) e)
          ∙ sym (append_snoc (last_digits n (rest / 10)) d (drop (at + suc n) t))
          ∙ k.behind;
      before =
          take-set-le (at + n) t (at + n) d (omega arith)
          ∙ sym (take-take (at + n) (at + suc n) t (omega arith)) ∙ ap (take (at + n)) k.before ∙ take-take (at + n) (at + suc n) w (omega arith);
      same = length-set t (at + n) d ∙ q;
    }

pub digits_more : (w t : List ℕ) (at count v left rest : ℕ) → at + count ≤ length w → 0 < left → Digits w t at count v left rest
    → Digits w (set t (at + (left - 1)) (48 + rest % 10)) at count v (left - 1) (rest / 10)
digits_more w t at count v zero rest fits h k = absurd (omega arith)
digits_more w t at count v (suc n) rest fits h k =
    let e : n ≡ suc n - 1 = omega arith in
    subst (λ m. Digits w (set t (at + m) (48 + rest % 10)) at count v m (rest / 10)) e (digits_step w t at count v n rest fits k)

digits_end : (w t : List ℕ) (at count v rest : ℕ) → Digits w t at count v 0 rest → t ≡ splice w at (last_digits count v)
unfolding last_digits splice
digits_end w t at count v rest k =
    let l = last_digits count v in
    sym (take-append-drop (at + 0) t)
    ∙ ap₂ (λ x y. x ++ y) (k.before ∙ ap (λ n. take n w) (add-zero at)) k.behind
    ∙ sym (append_assoc (take at w) l (drop (at + count) w))
    ∙ ap (λ n. (take at w ++ l) ++ drop (at + n) w) (sym (length_last count v))

pub digits_all : (w t : List ℕ) (at count v left rest : ℕ) → left ≡ 0 → Digits w t at count v left rest → t ≡ splice w at (last_digits count v)
digits_all w t at count v left rest e k = digits_end w t at count v rest (subst (λ n. Digits w t at count v n rest) e k)

-- A name: its first i bytes are written.
pub double_room : (l : List ℕ) (i n : ℕ) → i ≤ n → length (doubled (take i l)) ≤ length (doubled (take n l))
unfolding doubled when◌then◌else◌
double_room [] zero n h = omega arith
double_room [] (suc i) n h = omega arith
double_room (b ∷ l) zero n h = omega arith
double_room (b ∷ l) (suc i) zero h = absurd (omega arith)
double_room (b ∷ l) (suc i) (suc n) h = go (nat_eq b quote) (double_room l i n (omega arith))
  where
    go : (q : Bool) → length (doubled (take i l)) ≤ length (doubled (take n l))
        → length (when q then quote ∷ quote ∷ doubled (take i l) else b ∷ doubled (take i l)) ≤ length (when q then quote ∷ quote ∷ doubled (take n l) else b ∷ doubled (take n l))
    go true e = omega arith
    go false e = omega arith

pub double_more : (l : List ℕ) (i : ℕ) → i < length l → doubled (take (i + 1) l) ≡ doubled (take i l) ++ doubled (get_or l i 0 ∷ [])
double_more l i h = ap doubled (ap (λ k. take k l) (add-one i) ∙ take-suc l i 0 h) ∙ doubled_append (take i l) (get_or l i 0 ∷ [])

-- there is room for one byte more
pub double_fits : (l : List ℕ) (i : ℕ) → i < length l → length (doubled (take i l)) + length (doubled (get_or l i 0 ∷ [])) ≤ length (doubled l)
double_fits l i h =
    let e = ap length (double_more l i h) ∙ length-append (doubled (take i l)) (doubled (get_or l i 0 ∷ [])) in
    let r = double_room l (i + 1) (length l) (omega arith) in
    let w = ap (λ s. length (doubled s)) (take-length l) in
    omega arith

pub record Doubling (w t l : List ℕ) (at i to : ℕ) : Type 0 where
  pub to_is : to ≡ at + length (doubled (take i l))
  pub text_is : t ≡ splice w at (doubled (take i l))

pub doubling_none : (w l : List ℕ) (at : ℕ) → Doubling w w l at 0 at
unfolding doubled
doubling_none w l at = record { to_is = omega arith; text_is = splice_none w at }

pub doubling_more : (w t l : List ℕ) (at i to : ℕ) → i < length l → at + length (doubled l) ≤ length w → Doubling w t l at i to
    → Doubling w (splice t to (doubled (get_or l i 0 ∷ []))) l at (i + 1) (to + length (doubled (get_or l i 0 ∷ [])))
doubling_more w t l at i to h fits d =
    let s = doubled (take i l) in
    let x = doubled (get_or l i 0 ∷ []) in
    let e = double_more l i h in
    let f = ap length e ∙ length-append s x in
    let g = double_fits l i h in
    let p = d.to_is in
    record {
      to_is = omega arith;
      text_is = ap₂ (λ y a. splice y a x) d.text_is p ∙ splice_twice w s x at (omega arith) ∙ ap (splice w at) (sym e);
    }

-- a comma, a number, CR LF
pub number_size : (v : ℕ) → length (comma ∷ (decimal v ++ (cr ∷ lf ∷ []))) ≡ digit_count v + 3
unfolding decimal
number_size v = let x = length-append (last_digits (digit_count v) v) (cr ∷ lf ∷ []) in let y = length_last (digit_count v) v in omega arith

pub row_length : (s : List ℕ) (v : ℕ) → length (row_text (record { name = s; identifier = v })) ≡ length (name_text s) + length (comma ∷ (decimal v ++ (cr ∷ lf ∷ [])))
unfolding row_text
row_length s v = length-append (name_text s) (comma ∷ (decimal v ++ (cr ∷ lf ∷ [])))

-- The next name: it ends within the names, and the others stand behind it.
module _ (names : List ℕ) (n : ℕ) (z : zeros names ≡ suc n) where
  split : names ≡ first_name names ++ (0 ∷ behind_name names)
  split = (split_name names (omega arith)).0

  pub name_within : length (first_name names) + 1 ≤ length names
  name_within =
      let a : length names ≡ length (first_name names) + suc (length (behind_name names)) = ap length split ∙ length-append (first_name names) (0 ∷ behind_name names) in
      omega arith

  pub behind_is : drop (length (first_name names) + 1) names ≡ behind_name names
  behind_is =
      let s = first_name names in
      ap (drop (length s + 1)) split
      ∙ ap (drop (length s + 1)) (sym (append_snoc s 0 (behind_name names)))
      ∙ drop_at (s ++ (0 ∷ [])) (behind_name names) (length s + 1) (length-append s (0 ∷ []))

  pub zeros_behind : zeros (behind_name names) ≡ n
  zeros_behind = let e = (split_name names (omega arith)).1 in omega arith

-- The rows: one, and those behind it.
module _ (names ids others : List ℕ) (v : ℕ) (e : ids ≡ v ∷ others) where
  pub next_row : write_sheet (rows_in names ids) ≡ row_text (record { name = first_name names; identifier = v }) ++ write_sheet (rows_in (behind_name names) others)
  unfolding write_sheet rows_in
  next_row = ap (λ k. write_sheet (rows_in names k)) e

  pub room_more : (room : Option ℕ) → less_by room (length (write_sheet (rows_in names ids)))
      ≡ less_by (less_by room (length (row_text (record { name = first_name names; identifier = v })))) (length (write_sheet (rows_in (behind_name names) others)))
  room_more room =
      let line = row_text (record { name = first_name names; identifier = v }) in
      let rest = write_sheet (rows_in (behind_name names) others) in
      ap (λ k. less_by room (length k)) next_row ∙ ap (less_by room) (length-append line rest) ∙ sym (less_less room (length line) (length rest))

-- The identifiers from a place on: one, and those behind it.
pub next_value : {T : Type 0} (f : T → ℕ) (l : List T) (i : ℕ) (x : T) → i < length l → x ≡ get_or l i x → map f (drop i l) ≡ f x ∷ map f (drop (i + 1) l)
next_value f l i x h e = ap (map f) (drop-cons l i x h ∙ ap₂ (λ y n. y ∷ drop n l) (sym e) (sym (add-one i)))

-- What a row leaves of the room, the others take.
pub room_step : {T : Type 0} (f : T → ℕ) (l : List T) (i : ℕ) (x : T) (names name behind : List ℕ) (v room : ℕ) (left : Option ℕ) → i < length l → x ≡ get_or l i x
    → name ≡ first_name names → behind ≡ behind_name names → v ≡ f x → left ≡ less_by (Some room) (length (row_text (record { name = name; identifier = v })))
    → less_by (Some room) (length (write_sheet (rows_in names (map f (drop i l))))) ≡ less_by left (length (write_sheet (rows_in behind (map f (drop (i + 1) l)))))
room_step f l i x names name behind v room left h e n b w r =
    let others = map f (drop (i + 1) l) in
    room_more names (map f (drop i l)) others (f x) (next_value f l i x h e) (Some room)
    ∙ rw (← n, ← b, ← w, ← r) refl

pub room_over : {T : Type 0} (f : T → ℕ) (l : List T) (i : ℕ) (x : T) (names name behind : List ℕ) (v room : ℕ) → i < length l → x ≡ get_or l i x
    → name ≡ first_name names → behind ≡ behind_name names → v ≡ f x → None ≡ less_by (Some room) (length (row_text (record { name = name; identifier = v })))
    → None ≡ less_by (Some room) (length (write_sheet (rows_in names (map f (drop i l)))))
unfolding less_by
room_over f l i x names name behind v room h e n b w r = sym (room_step f l i x names name behind v room None h e n b w r)

-- no row is left
pub rows_out : {T : Type 0} (f : T → ℕ) (names : List ℕ) (l : List T) (i : ℕ) → length l ≤ i → write_sheet (rows_in names (map f (drop i l))) ≡ []
unfolding write_sheet rows_in
rows_out f names l i h = ap (λ k. write_sheet (rows_in names (map f k))) (drop_of_length-le l h)

-- What is written of a sheet: its rows up to a place, and what is left of them.
pub record Written (all w t rest : List ℕ) (out : ℕ) : Type 0 where
  pub so_far : List ℕ
  pub parts : all ≡ so_far ++ rest
  pub out_is : out ≡ length so_far
  pub text_is : t ≡ laid w so_far

pub written_none : (all w : List ℕ) → Written all w w all 0
written_none all w = record { so_far = []; parts = refl; out_is = refl; text_is = laid_none w }

pub written_room : (all w t rest line others : List ℕ) (out : ℕ) → length all ≤ length w → rest ≡ line ++ others → Written all w t rest out → out + length line ≤ length w
written_room all w t rest line others out h e k =
    let a = ap length k.parts ∙ length-append k.so_far rest in
    let b = ap length e ∙ length-append line others in
    let c = k.out_is in
    omega arith

pub written_more : (all w t rest line others : List ℕ) (out : ℕ) → rest ≡ line ++ others → Written all w t rest out → Written all w (splice t out line) others (out + length line)
written_more all w t rest line others out e k = record {
  so_far = k.so_far ++ line;
  parts = k.parts ∙ ap (λ l. k.so_far ++ l) e ∙ sym (append_assoc k.so_far line others);
  out_is = ap (λ n. n + length line) k.out_is ∙ sym (length-append k.so_far line);
  text_is = ap (λ l. splice l out line) k.text_is ∙ laid_more w k.so_far line out k.out_is;
}

pub written_all : (all w t rest : List ℕ) (out : ℕ) → rest ≡ [] → Written all w t rest out → (out ≡ length all) × (t ≡ laid w all)
written_all all w t rest out e k =
    let p : all ≡ k.so_far = k.parts ∙ ap (λ l. k.so_far ++ l) e ∙ append-nil k.so_far in
    (k.out_is ∙ ap length (sym p), k.text_is ∙ ap (laid w) (sym p))

-- One row more, in names and identifiers that are kept whole: where the next name begins, and what is left of the names and of the room.
module _ (names ids : List ℕ) (at i : ℕ) (s : Scan) (h : at ≤ length names) (l : i < length ids) (z : zeros (drop at names) ≡ length ids - i)
    (e : s ≡ scanned (first_name (drop at names))) where
  some : zeros (drop at names) ≡ suc (length ids - (i + 1))
  some = omega arith

  size : s.length ≡ length (first_name (drop at names))
  size = scan_length (drop at names) s e

  behind : drop (at + s.length + 1) names ≡ behind_name (drop at names)
  behind =
      let q : at + s.length + 1 ≡ at + (s.length + 1) = omega arith in
      ap (λ k. drop k names) q ∙ sym (drop-drop (s.length + 1) at names) ∙ ap (λ k. drop (k + 1) (drop at names)) size
      ∙ behind_is (drop at names) (length ids - (i + 1)) some

  one : drop i ids ≡ get_or ids i 0 ∷ drop (i + 1) ids
  one = drop-cons ids i 0 l ∙ ap (λ k. get_or ids i 0 ∷ drop k ids) (sym (add-one i))

  pub step_within : at + s.length + 1 ≤ length names
  step_within =
      let x = size in
      let y = name_within (drop at names) (length ids - (i + 1)) some in
      let w = length-drop at names in
      omega arith

  pub step_zeros : zeros (drop (at + s.length + 1) names) ≡ length ids - (i + 1)
  step_zeros = ap zeros behind ∙ zeros_behind (drop at names) (length ids - (i + 1)) some

  pub step_rows : write_sheet (rows_in (drop at names) (drop i ids))
      ≡ row_text (record { name = first_name (drop at names); identifier = get_or ids i 0 }) ++ write_sheet (rows_in (drop (at + s.length + 1) names) (drop (i + 1) ids))
  step_rows =
      next_row (drop at names) (drop i ids) (drop (i + 1) ids) (get_or ids i 0) one
      ∙ ap (λ x. row_text (record { name = first_name (drop at names); identifier = get_or ids i 0 }) ++ write_sheet (rows_in x (drop (i + 1) ids))) (sym behind)

  pub step_room : (room : Option ℕ) → less_by room (length (write_sheet (rows_in (drop at names) (drop i ids))))
      ≡ less_by (less_by room (s.length + s.quotes + (length (quote_if s.plain) + length (quote_if s.plain)) + (digit_count (get_or ids i 0) + 3)))
      (length (write_sheet (rows_in (drop (at + s.length + 1) names) (drop (i + 1) ids))))
  step_room room =
      room_more (drop at names) (drop i ids) (drop (i + 1) ids) (get_or ids i 0) one room
      ∙ ap₂ (λ x y. less_by (less_by room x) (length (write_sheet (rows_in y (drop (i + 1) ids))))) sizes (sym behind)
    where
      sizes : length (row_text (record { name = first_name (drop at names); identifier = get_or ids i 0 })) ≡ s.length + s.quotes + (length (quote_if s.plain) + length (quote_if s.plain)) + (digit_count (get_or ids i 0) + 3)
      sizes =
          row_parts (first_name (drop at names)) s.plain (scan_plain (drop at names) s e) (get_or ids i 0)
          ∙ ap₂ (λ x y. x + y + (length (quote_if s.plain) + length (quote_if s.plain)) + (digit_count (get_or ids i 0) + 3)) (sym size) (sym (scan_quotes (drop at names) s e))

-- What the call gives, question by question.
module _ (names ids text : List ℕ) where
  pub write_wrong : names_for names (length ids) ≡ false → write_call names ids text ≡ record { outcome = Err NoSheet; text = text }
  unfolding write_call
  write_wrong e = on_no (names_for names (length ids)) _ _ e

  module _ (e : names_for names (length ids) ≡ true) where
    pub write_zeros : zeros names ≡ length ids
    unfolding names_for
    write_zeros = eqb→eq _ _ (and_left (nat_eq (zeros names) (length ids)) (ends_well names) (true_T _ e))

    pub write_short : length text < length (sheet_text names ids) → write_call names ids text ≡ record { outcome = Err RoomShort; text = text }
    unfolding write_call
    write_short h = on_yes (names_for names (length ids)) _ _ e ∙ on_no _ _ _ (lt-leb (length (sheet_text names ids)) (length text) h)

    pub write_done : length (sheet_text names ids) ≤ length text → write_call names ids text ≡ record { outcome = done (length ids) (length (sheet_text names ids)); text = laid text (sheet_text names ids) }
    unfolding write_call
    write_done h = on_yes (names_for names (length ids)) _ _ e ∙ on_yes _ _ _ (le-leb (length (sheet_text names ids)) (length text) h)
