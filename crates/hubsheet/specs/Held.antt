-- What is held of a sheet that arrives in pieces, and that it goes on over each piece. Assumes nothing.
use Rattle.std.specs.Prelude.{◌≡◌, Bool, ◌&&◌, List, [], ◌∷◌, ◌++◌, Option, None, Some, is_some, SomeIff, nat_le, get_or, set}
use Rattle.std.specs.Option.{unwrap_or}
use Rattle.std.proofs.Math.Path.{refl, ap, ap₂, sym}
use Rattle.std.proofs.Common.{◌∙◌, le-leb, leb-true, leb-false, subst, append-nil, add-one, length-set, take-suc}
use Rattle.std.proofs.Math.Bool.{true, false}
use Prim.Native.Nat.{ℕ, suc, ◌+◌, ◌-◌, ◌*◌, ◌≤◌, ◌<◌, min}
use native.Mathlib.Omega.{arith}
use borrow.Author.Tests.{ltb-true, ltb-false}
use Rattle.std.proofs.Common.{nat_lt}
use Rattle.std.proofs.Math.ListN.{length, take, length-append}
use Rattle.std.proofs.Math.Seq.{take-suc-set, take_all, set_out}
use Rattle.std.proofs.lemmas.List.{take-append-le}
use Rattle.std.proofs.lemmas.Bool.{lt-leb}
use Rattle.lists.specs.Basics.{when◌then◌else◌, every}
use Rattle.console.specs.declared.arriving.Arrival.{Arrival}
use Rattle.console.specs.declared.arriving.Arrival.TheVariants.{Bytes, End, Failed}
use Rattle.sheets.specs.declared.Place.{Place}
use Rattle.sheets.specs.declared.Place.TheVariants.{Start}
use Rattle.sheets.specs.declared.Effect.{Effect}
use Rattle.sheets.specs.declared.Effect.TheVariants.{Quiet, Letter, EndName, Figure, EndRow}
use Rattle.sheets.specs.Reader.{Reader, next, effect, said, told, valued, moved, fed, run, fresh}
use Rattle.sheets.proofs.Complete.{run_append}
use Rattle.sheets.specs.Calls.{is_word}
use Rattle.sheets.specs.Words.{word, words, words_append, length_words, every_one}
use Rattle.hubsheet.specs.declared.hubs.Hubs.{Hubs}

-- A number, if a word has room for it.
unfoldable pub fitting : ℕ → Option ℕ
fitting v = when is_word v then Some v else None

-- A figure more.
unfoldable pub grown : Option ℕ → ℕ → Option ℕ
grown None b = None
grown (Some v) b = fitting (10 * v + (b - 48))

pub fitting_in : (v : ℕ) → v ≤ 4294967295 → fitting v ≡ Some v
unfolding fitting is_word when◌then◌else◌
fitting_in v h = rw (le-leb v 4294967295 h)

pub fitting_out : (v : ℕ) → 4294967295 < v → fitting v ≡ None
unfolding fitting is_word when◌then◌else◌
fitting_out v h = rw (lt-leb v 4294967295 h)

pub fitting_as : (r : Option ℕ) (n v : ℕ) → n ≡ v → SomeIff r (n < 4294967296) n → r ≡ fitting v
fitting_as None n v e h = sym (fitting_out v (omega arith))
fitting_as (Some m) n v e h = ap Some (h.1 ∙ e) ∙ sym (fitting_in v (omega arith))

module _ (v : ℕ) where
  -- a number fits, or it does not
  cases : (P : Option ℕ → Bool → Type 0) → (v ≤ 4294967295 → P (Some v) true) → (4294967295 < v → P None false) → P (fitting v) (is_word v)
  unfolding is_word
  cases P fits out = go (nat_le v 4294967295) refl
    where
      go : (t : Bool) → nat_le v 4294967295 ≡ t → P (fitting v) (nat_le v 4294967295)
      go true e = let h = leb-true _ _ e in subst (λ o. P o (nat_le v 4294967295)) (sym (fitting_in v h)) (subst (P (Some v)) (sym e) (fits h))
      go false e = let h = leb-false _ _ e in subst (λ o. P o (nat_le v 4294967295)) (sym (fitting_out v h)) (subst (P None) (sym e) (out h))

  pub fitting_word : is_some (fitting v) ≡ is_word v
  fitting_word = cases (λ o t. is_some o ≡ t) (λ _. refl) (λ _. refl)

  pub fitting_cap : unwrap_or (fitting v) 4294967295 ≡ word v
  fitting_cap = cases (λ o t. unwrap_or o 4294967295 ≡ word v) (λ h. omega arith) (λ h. omega arith)

  pub grown_fitting : (b : ℕ) → grown (fitting v) b ≡ fitting (10 * v + (b - 48))
  unfolding grown
  grown_fitting b = cases (λ o t. grown o b ≡ fitting (10 * v + (b - 48))) (λ h. refl) (λ h. sym (fitting_out (10 * v + (b - 48)) (omega arith)))

-- What a byte of this effect, which leads to q, makes of what is held.
unfoldable pub after_spec : Effect → Hubs → Place → ℕ → Hubs
after_spec Quiet h q b = record { place = q; rows = h.rows; value = h.value; fits = h.fits }
after_spec Letter h q b = record { place = q; rows = h.rows; value = h.value; fits = h.fits }
after_spec EndName h q b = record { place = q; rows = h.rows; value = Some 0; fits = h.fits }
after_spec Figure h q b = record { place = q; rows = h.rows; value = grown h.value b; fits = h.fits }
after_spec EndRow h q b = record { place = q; rows = min (h.rows + 1) 65; value = h.value; fits = h.fits && is_some h.value }

unfoldable pub kept_by : Effect → List ℕ → ℕ → Option ℕ → List ℕ
kept_by Quiet ids row value = ids
kept_by Letter ids row value = ids
kept_by EndName ids row value = ids
kept_by Figure ids row value = ids
kept_by EndRow ids row value = set ids row (unwrap_or value 4294967295)

-- What is held is of the reader m: its place, its rows as far as they are followed, its number if it fits, and its first 64 identifiers.
pub record Holds (m : Reader) (h : Hubs) (ids : List ℕ) : Type 0 where
  pub place_is : h.place ≡ m.place
  pub rows_are : h.rows ≡ min (length m.identifiers) 65
  pub value_is : h.value ≡ fitting m.value
  pub fits_is : h.fits ≡ every is_word m.identifiers
  pub places : length ids ≡ 64
  pub ids_are : take (min (length m.identifiers) 64) ids ≡ take 64 (words m.identifiers)

pub holds_none : (ids : List ℕ) → length ids ≡ 64 → Holds fresh (record { place = Start; rows = 0; value = Some 0; fits = true }) ids
unfolding fresh every words
holds_none ids l = record { place_is = refl; rows_are = refl; value_is = sym (fitting_in 0 (omega arith)); fits_is = refl; places = l; ids_are = refl }

-- a number more, where there is a place for it
module _ (ids l : List ℕ) (v : ℕ) (n : length ids ≡ 64) (e : take (min (length l) 64) ids ≡ take 64 (words l)) where
  pub kept_more : take (min (length (l ++ (v ∷ []))) 64) (set ids (min (length l) 65) (word v)) ≡ take 64 (words (l ++ (v ∷ [])))
  unfolding words
  kept_more = go (nat_lt (length l) 64) refl
    where
      go : (b : Bool) → nat_lt (length l) 64 ≡ b → take (min (length (l ++ (v ∷ []))) 64) (set ids (min (length l) 65) (word v)) ≡ take 64 (words (l ++ (v ∷ [])))
      go true q =
          let h : length l < 64 = ltb-true _ _ q in
          let a = length-append l (v ∷ []) in
          let s = length_words l in
          let x : min (length (l ++ (v ∷ []))) 64 ≡ suc (length l) = omega arith in
          let y : min (length l) 65 ≡ length l = omega arith in
          let z : min (length l) 64 ≡ length l = omega arith in
          let w = length-append (words l) (word v ∷ []) in
          ap₂ (λ i j. take i (set ids j (word v))) x y ∙ take-suc-set ids (length l) (word v) (omega arith)
          ∙ ap (λ k. k ++ (word v ∷ [])) (ap (λ k. take k ids) (sym z) ∙ e ∙ take_all 64 (words l) (omega arith))
          ∙ sym (take_all 64 (words l ++ (word v ∷ [])) (omega arith)) ∙ ap (take 64) (sym (words_append l (v ∷ [])))
      go false q =
          let h : 64 ≤ length l = ltb-false _ _ q in
          let a = length-append l (v ∷ []) in
          let s = length_words l in
          let x : min (length (l ++ (v ∷ []))) 64 ≡ min (length l) 64 = omega arith in
          ap₂ take x (set_out ids (min (length l) 65) (word v) (omega arith)) ∙ e
          ∙ sym (take-append-le 64 (words l) (word v ∷ []) (omega arith)) ∙ ap (take 64) (sym (words_append l (v ∷ [])))

-- a row more
pub holds_row : (m : Reader) (h : Hubs) (ids : List ℕ) → Holds m h ids
    → ((h.fits && is_some h.value) ≡ every is_word (m.identifiers ++ (m.value ∷ []))) × (min (h.rows + 1) 65 ≡ min (length (m.identifiers ++ (m.value ∷ []))) 65)
    × (length (set ids h.rows (unwrap_or h.value 4294967295)) ≡ 64)
    × (take (min (length (m.identifiers ++ (m.value ∷ []))) 64) (set ids h.rows (unwrap_or h.value 4294967295)) ≡ take 64 (words (m.identifiers ++ (m.value ∷ []))))
holds_row m h ids k =
    let r = k.rows_are in
    let w : unwrap_or h.value 4294967295 ≡ word m.value = ap (λ o. unwrap_or o 4294967295) k.value_is ∙ fitting_cap m.value in
    let l = length-append m.identifiers (m.value ∷ []) in (
      ap₂ (λ x y. x && is_some y) k.fits_is k.value_is ∙ ap (λ z. every is_word m.identifiers && z) (fitting_word m.value) ∙ sym (every_one is_word m.identifiers m.value),
      omega arith,
      length-set ids h.rows (unwrap_or h.value 4294967295) ∙ k.places,
      ap₂ (λ i x. take (min (length (m.identifiers ++ (m.value ∷ []))) 64) (set ids i x)) k.rows_are w ∙ kept_more ids m.identifiers m.value k.places k.ids_are,
    )

-- a byte more
by_effect : (x : Effect) (q : Place) (m : Reader) (h : Hubs) (ids : List ℕ) (b : ℕ) → Holds m h ids
    → Holds (record { place = q; names = m.names ++ said x b; identifiers = m.identifiers ++ told x m.value; value = valued x b m.value }) (after_spec x h q b) (kept_by x ids h.rows h.value)
unfolding after_spec kept_by said told valued
by_effect Quiet q m h ids b k = subst (λ i. Holds (record { place = q; names = m.names ++ []; identifiers = i; value = m.value }) (record { place = q; rows = h.rows; value = h.value; fits = h.fits }) ids) (sym (append-nil m.identifiers))
    (record { place_is = refl; rows_are = k.rows_are; value_is = k.value_is; fits_is = k.fits_is; places = k.places; ids_are = k.ids_are })
by_effect Letter q m h ids b k = subst (λ i. Holds (record { place = q; names = m.names ++ (b ∷ []); identifiers = i; value = m.value }) (record { place = q; rows = h.rows; value = h.value; fits = h.fits }) ids) (sym (append-nil m.identifiers))
    (record { place_is = refl; rows_are = k.rows_are; value_is = k.value_is; fits_is = k.fits_is; places = k.places; ids_are = k.ids_are })
by_effect EndName q m h ids b k = subst (λ i. Holds (record { place = q; names = m.names ++ (0 ∷ []); identifiers = i; value = 0 }) (record { place = q; rows = h.rows; value = Some 0; fits = h.fits }) ids) (sym (append-nil m.identifiers))
    (record { place_is = refl; rows_are = k.rows_are; value_is = sym (fitting_in 0 (omega arith)); fits_is = k.fits_is; places = k.places; ids_are = k.ids_are })
by_effect Figure q m h ids b k =
    subst (λ i. Holds (record { place = q; names = m.names ++ []; identifiers = i; value = 10 * m.value + (b - 48) }) (record { place = q; rows = h.rows; value = grown h.value b; fits = h.fits }) ids) (sym (append-nil m.identifiers))
    (record { place_is = refl; rows_are = k.rows_are; value_is = ap (λ o. grown o b) k.value_is ∙ grown_fitting m.value b; fits_is = k.fits_is; places = k.places; ids_are = k.ids_are })
by_effect EndRow q m h ids b k =
    let z = holds_row m h ids k in
    record { place_is = refl; rows_are = z.1; value_is = k.value_is; fits_is = z.0; places = z.2; ids_are = z.3 }

pub holds_byte : (m : Reader) (h : Hubs) (ids : List ℕ) (b : ℕ) → Holds m h ids → Holds (fed m b) (after_spec (effect (next h.place b)) h (next h.place b) b) (kept_by (effect (next h.place b)) ids h.rows h.value)
unfolding fed moved
holds_byte m h ids b k = subst (λ p. Holds (record { place = next p b; names = m.names ++ said (effect (next p b)) b; identifiers = m.identifiers ++ told (effect (next p b)) m.value; value = valued (effect (next p b)) b m.value }) (after_spec (effect (next h.place b)) h (next h.place b) b) (kept_by (effect (next h.place b)) ids h.rows h.value)) k.place_is
    (by_effect (effect (next h.place b)) (next h.place b) m h ids b k)

-- A whole piece: whatever reader what was held is of, what is held then is of that reader behind the piece.
abbrev pub Feeds : Hubs → List ℕ → List ℕ → Hubs → List ℕ → Type 0
Feeds h ids text h' ids' = (m : Reader) → Holds m h ids → Holds (run m text) h' ids'

-- A byte more.
abbrev pub Fed : Hubs → List ℕ → ℕ → Hubs → List ℕ → Type 0
Fed h ids b h' ids' = (h' ≡ after_spec (effect (next h.place b)) h (next h.place b) b) × (ids' ≡ kept_by (effect (next h.place b)) ids h.rows h.value)

-- Before the first byte, what is held is of a reader that has read nothing.
abbrev pub Begun : Hubs → Type 0
Begun h = (ids : List ℕ) → length ids ≡ 64 → Holds fresh h ids

pub feeds_none : (h : Hubs) (ids : List ℕ) → Feeds h ids [] h ids
unfolding run
feeds_none h ids m k = k

pub feeds_more : (h h' h″ : Hubs) (ids ids' ids″ t : List ℕ) (i : ℕ) → i < length t → Feeds h ids (take i t) h' ids' → Fed h' ids' (get_or t i 0) h″ ids″ → Feeds h ids (take (i + 1) t) h″ ids″
unfolding run
feeds_more h h' h″ ids ids' ids″ t i l f s m k =
    let b = get_or t i 0 in
    let e : run m (take (i + 1) t) ≡ fed (run m (take i t)) b = ap (run m) (ap (λ n. take n t) (add-one i) ∙ take-suc t i 0 l) ∙ run_append m (take i t) (b ∷ []) in
    subst (λ z. Holds z h″ ids″) (sym e) (rw (s.0, s.1) (holds_byte (run m (take i t)) h' ids' b (f m k)))

-- One read: what it brought is taken, and nothing else changes.
unfoldable pub Taken : Arrival → Hubs → List ℕ → List ℕ → Hubs → List ℕ → Type 0
Taken (Bytes n) h ids input h' ids' = Feeds h ids (take n input) h' ids'
Taken End h ids input h' ids' = (h' ≡ h) × (ids' ≡ ids)
Taken Failed h ids input h' ids' = (h' ≡ h) × (ids' ≡ ids)

pub taken_bytes : (r : Arrival) (n : ℕ) (h h' : Hubs) (ids input ids' : List ℕ) → r ≡ Bytes n → Feeds h ids (take n input) h' ids' → Taken r h ids input h' ids'
unfolding Taken
taken_bytes r n h h' ids input ids' e f = subst (λ z. Taken z h ids input h' ids') (sym e) f

pub taken_end : (r : Arrival) (h : Hubs) (ids input : List ℕ) → r ≡ End → Taken r h ids input h ids
unfolding Taken
taken_end r h ids input e = subst (λ z. Taken z h ids input h ids) (sym e) (refl, refl)

pub taken_failed : (r : Arrival) (h : Hubs) (ids input : List ℕ) → r ≡ Failed → Taken r h ids input h ids
unfolding Taken
taken_failed r h ids input e = subst (λ z. Taken z h ids input h ids) (sym e) (refl, refl)
