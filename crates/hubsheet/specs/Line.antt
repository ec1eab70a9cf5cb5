-- The line that `hubsheet` prints for a sheet: the founding frame of its identifiers, or EE and the number of the refusal; LF (10) ends it.
use Rattle.std.specs.Prelude.{◌≡◌, refl, Bool, true, false, ◌&&◌, List, [], ◌∷◌, ◌++◌, ℕ, ◌+◌, ◌*◌, ◌≤◌, ◌<◌, is_some, min, nat_le, length, take, get_or, set}
use Rattle.std.specs.Option.{unwrap_or}
use Rattle.std.proofs.Math.Path.{ap, sym}
use Rattle.std.proofs.Common.{◌∙◌, append_assoc, append-nil, add-one, arith, leb-true, leb-false, length-append, take-suc, take_all, length-take-le}
use Rattle.std.proofs.lemmas.Bool.{lt-leb}
use Rattle.std.proofs.lemmas.List.Edits.{sets, sets-eq}
use Rattle.std.proofs.Math.Seq.{take-length}
use Rattle.lists.specs.Splice.{splice}
use Rattle.lists.specs.Basics.{when◌then◌else◌, require, every}
use Rattle.lists.specs.Choice.{on_yes, on_no}
use Rattle.texts.specs.Laws.{all_fits}
use Rattle.protocol.specs.Frames.{print2, print8, refusal_text}
use Rattle.protocol.specs.declared.refusal.Refusal.{Refusal}
use Rattle.protocol.specs.declared.refusal.Refusal.TheVariants.{NoSheet, IdentifierTooLarge, RoomShort}
use Rattle.protocol.specs.Refusals.{number_of}
use Rattle.sheets.specs.declared.Ending.{Ending}
use Rattle.sheets.specs.declared.Ending.TheVariants.{Within, BehindRows, BehindNumber}
use Rattle.sheets.specs.Reader.{Reader, Said, nothing, lists, ending, ended_as, ended}
use Rattle.sheets.specs.Calls.{is_word}
use Rattle.sheets.specs.Words.{words, words_same}
use Rattle.hubsheet.specs.declared.hubs.Hubs.{Hubs}
use Rattle.hubsheet.specs.Held.{Holds, holds_row}

unfoldable pub eights : List ℕ → List ℕ
eights [] = []
eights (v ∷ l) = print8 v ++ eights l

unfoldable pub refusal_line : Refusal → List ℕ
refusal_line k = refusal_text (number_of k) ++ (10 ∷ [])

unfoldable pub founding_line : List ℕ → List ℕ
founding_line ids = (print2 240 ++ eights ids) ++ (10 ∷ [])

-- What is printed for what a text says. A ring has 64 hubs at most, so there are 64 places.
unfoldable pub hub_line : Said → List ℕ
hub_line nothing = refusal_line NoSheet
hub_line (lists n i) = require (every is_word i) (refusal_line IdentifierTooLarge) (require (nat_le (length i) 64) (refusal_line RoomShort) (founding_line i))

pub length_print2 : (v : ℕ) → length (print2 v) ≡ 2
length_print2 v = refl

pub length_print8 : (v : ℕ) → length (print8 v) ≡ 8
length_print8 v = refl

eights_last : (s : List ℕ) (v : ℕ) → eights (s ++ (v ∷ [])) ≡ eights s ++ print8 v
unfolding eights
eights_last [] v = append-nil (print8 v)
eights_last (x ∷ s) v = ap (λ l. print8 x ++ l) (eights_last s v) ∙ sym (append_assoc (print8 x) (eights s) (print8 v))

pub eights_more : (l : List ℕ) (i : ℕ) → i < length l → eights (take (i + 1) l) ≡ eights (take i l) ++ print8 (get_or l i 0)
eights_more l i h = ap eights (ap (λ k. take k l) (add-one i) ∙ take-suc l i 0 h) ∙ eights_last (take i l) (get_or l i 0)

pub length_eights : (l : List ℕ) → length (eights l) ≡ 8 * length l
unfolding eights
length_eights [] = refl
length_eights (v ∷ l) = let e = length-append (print8 v) (eights l) in let f = length_print8 v in let g = length_eights l in omega arith

-- digits that are put into a line, as a piece of it
pub put_piece : (w vs : List ℕ) (at : ℕ) → at + length vs ≤ length w → sets w at vs ≡ splice w at vs
unfolding splice
put_piece w vs at h = sets-eq vs w at h

-- eight digits more, where n bytes are kept
pub eights_put : (n : ℕ) (t l : List ℕ) (i : ℕ) → i < length l → 2 + 8 * length l ≤ n → t ≡ print2 240 ++ eights (take i l) → take n (t ++ print8 (get_or l i 0)) ≡ print2 240 ++ eights (take (i + 1) l)
eights_put n t l i h k e =
    let a = length_eights (take i l) in
    let b = length-take-le i l (omega arith) in
    let c = length-append (print2 240) (eights (take i l)) in
    let d = length_print2 240 in
    let f = length_print8 (get_or l i 0) in
    let g = ap length e in
    all_fits n t (print8 (get_or l i 0)) (omega arith)
    ∙ ap (λ z. z ++ print8 (get_or l i 0)) e
    ∙ append_assoc (print2 240) (eights (take i l)) (print8 (get_or l i 0))
    ∙ ap (λ z. print2 240 ++ z) (sym (eights_more l i h))

pub founding_length : (l : List ℕ) → length (founding_line l) ≡ 2 + 8 * length l + 1
unfolding founding_line
founding_length l =
    let a = length-append (print2 240 ++ eights l) (10 ∷ []) in
    let b = length-append (print2 240) (eights l) in
    let c = length_eights l in
    let d = length_print2 240 in
    omega arith

pub founding_put : (n : ℕ) (t l : List ℕ) (i : ℕ) → i ≡ length l → 2 + 8 * length l + 1 ≤ n → t ≡ print2 240 ++ eights (take i l) → take n (t ++ (10 ∷ [])) ≡ founding_line l
unfolding founding_line
founding_put n t l i e h f =
    let g : t ≡ print2 240 ++ eights l = f ∙ ap (λ k. print2 240 ++ eights (take k l)) e ∙ ap (λ z. print2 240 ++ eights z) (take-length l) in
    let a = length_eights l in
    let b = length-append (print2 240) (eights l) in
    let c = length_print2 240 in
    let d = ap length g in
    all_fits n t (10 ∷ []) (omega arith) ∙ ap (λ z. z ++ (10 ∷ [])) g

pub founding_small : (l : List ℕ) → length l ≤ 64 → length (founding_line l) ≤ 516
founding_small l h = let b = founding_length l in omega arith

-- The same of what is held at the end.
unfoldable pub rows_line : Bool → ℕ → List ℕ → List ℕ
rows_line fits rows ids = require fits (refusal_line IdentifierTooLarge) (require (nat_le rows 64) (refusal_line RoomShort) (founding_line (take rows ids)))

rows_line_lem : (n l ids : List ℕ) (rows : ℕ) (fits : Bool) → fits ≡ every is_word l → rows ≡ min (length l) 65 → length ids ≡ 64 → take (min (length l) 64) ids ≡ take 64 (words l)
    → rows_line fits rows ids ≡ hub_line (lists n l)
unfolding rows_line hub_line require when◌then◌else◌
rows_line_lem n l ids rows fits f r k e = rw f (go (every is_word l) refl)
  where
    few : every is_word l ≡ true → (b : Bool) → nat_le (length l) 64 ≡ b → require (nat_le rows 64) (refusal_line RoomShort) (founding_line (take rows ids)) ≡ require (nat_le (length l) 64) (refusal_line RoomShort) (founding_line l)
    few w true q =
        let h : length l ≤ 64 = leb-true _ _ q in
        let x : rows ≡ length l = omega arith in
        let y : min (length l) 64 ≡ length l = omega arith in
        let z : take rows ids ≡ l = ap (λ j. take j ids) (x ∙ sym y) ∙ e ∙ ap (take 64) (words_same l w) ∙ take_all 64 l h in
        on_yes (nat_le rows 64) _ _ (ap (λ j. nat_le j 64) x ∙ q) ∙ ap founding_line z ∙ sym (on_yes (nat_le (length l) 64) _ _ q)
    few w false q =
        let h : 64 < length l = leb-false _ _ q in
        on_no (nat_le rows 64) _ _ (lt-leb rows 64 (omega arith)) ∙ sym (on_no (nat_le (length l) 64) _ _ q)

    go : (b : Bool) → every is_word l ≡ b → require b (refusal_line IdentifierTooLarge) (require (nat_le rows 64) (refusal_line RoomShort) (founding_line (take rows ids))) ≡ require b (refusal_line IdentifierTooLarge) (require (nat_le (length l) 64) (refusal_line RoomShort) (founding_line l))
    go true q = few q (nat_le (length l) 64) refl
    go false q = refl

-- What is printed is the line of whatever reader is held.
abbrev pub Printed : Hubs → List ℕ → List ℕ → Type 0
Printed h ids printed = (m : Reader) → Holds m h ids → printed ≡ hub_line (ended m)

module _ (h : Hubs) (ids : List ℕ) (e : Ending) (is : e ≡ ending h.place) (m : Reader) (k : Holds m h ids) where
  ended_as_lem : ended m ≡ ended_as e m
  unfolding ended
  ended_as_lem = ap (λ x. ended_as x m) (ap ending (sym k.place_is) ∙ sym is)

  pub line_within : e ≡ Within → refusal_line NoSheet ≡ hub_line (ended m)
  unfolding ended_as hub_line
  line_within q = sym (ap hub_line (ended_as_lem ∙ ap (λ x. ended_as x m) q))

  pub line_rows : e ≡ BehindRows → rows_line h.fits h.rows ids ≡ hub_line (ended m)
  unfolding ended_as
  line_rows q = rows_line_lem m.names m.identifiers ids h.rows h.fits k.fits_is k.rows_are k.places k.ids_are ∙ sym (ap hub_line (ended_as_lem ∙ ap (λ x. ended_as x m) q))

  pub line_number : e ≡ BehindNumber → rows_line (h.fits && is_some h.value) (min (h.rows + 1) 65) (set ids h.rows (unwrap_or h.value 4294967295)) ≡ hub_line (ended m)
  unfolding ended_as
  line_number q =
      let z = holds_row m h ids k in
      rows_line_lem m.names (m.identifiers ++ (m.value ∷ [])) _ _ _ z.0 z.1 z.2 z.3 ∙ sym (ap hub_line (ended_as_lem ∙ ap (λ x. ended_as x m) q))
