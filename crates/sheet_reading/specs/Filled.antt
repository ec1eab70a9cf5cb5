-- What the reading calls give, question by question, and the rows that fill the lent buffers. Assumes nothing.
use Rattle.std.proofs.Math.Path.{◌≡◌, refl, ap, ap₂, sym}
use Rattle.std.proofs.Common.{◌∙◌, le-leb, inl, inr}
use Rattle.std.specs.Option.{is_some}
use Rattle.lists.specs.Merge.{every_append}
use Rattle.protocol.specs.declared.refusal.Refusal.{Refusal}
use Rattle.std.specs.Prelude.{◌⊎◌, Some, None, IsSome, Ok, Err, Bool, true, false, ◌&&◌, ◌||◌, List, [], ◌∷◌, ◌++◌, ℕ, ◌+◌, ◌*◌, ◌≤◌, ◌<◌, length}
use native.Mathlib.Omega.{arith}
use Rattle.std.proofs.lemmas.Bool.{lt-leb, or_parts}
use Rattle.std.proofs.Common.{nat_le, nat_lt, leb→le}
use borrow.Author.Tests.{ltb-true, ltb-false}
use Rattle.std.proofs.Math.ListN.{length-append}
use Rattle.std.proofs.Math.Nat.{mul-le-mul_left}
use Rattle.lists.specs.Basics.{when◌then◌else◌, require, every}
use Rattle.lists.specs.Choice.{on_yes, on_no}
use Rattle.lists.specs.Tests.{and_false, true_T}
use Rattle.lists.specs.Splice.{splice}
use Rattle.protocol.specs.declared.refusal.Refusal.TheVariants.{NoSheet, IdentifierTooLarge, RoomShort}
use Rattle.sheets.specs.declared.Counts.{Counts}
use Rattle.sheet_reading.specs.declared.Row.{Row}
use Rattle.sheets.specs.declared.Place.TheVariants.{Start}
use Rattle.sheets.specs.Reader.{Said, nothing, lists, fresh, reading, ending, ended_as}
use Rattle.sheets.specs.Calls.{Outcome, done, laid, is_word, SheetRead, unread, read_into}
use Rattle.sheets.specs.Words.{every_one}
use Rattle.sheets.specs.Bytes.{and_first, and_second}
use Rattle.sheets.specs.Laying.{laid_none, laid_more}
use Rattle.sheets.proofs.Sound.{same_lists}
use Rattle.sheet_reading.specs.Carried.{Forms}
use Rattle.sheet_reading.specs.Onward.{onward, onward_end, Grown, onward_grown}
use Rattle.sheet_reading.specs.Judged.{word_some, word_is, RowIs}
use Rattle.sheet_reading.specs.Put.{Readable, RowPut}

-- What is told of a text where there is room for so many rows and bytes: what it takes, or why it is refused.
unfoldable pub judged : Counts → Said → Outcome
judged room nothing = Err NoSheet
judged room (lists n i) =
    require (every is_word i) (Err IdentifierTooLarge)
    (require (nat_le (length i) room.rows && nat_le (length n) room.bytes) (Err RoomShort)
    (done (length i) (length n)))

-- Judging: the rows up to i are counted.
pub record Counted (t : List ℕ) (i rows bytes : ℕ) (fits : Bool) : Type 0 where
  pub names : List ℕ
  pub numbers : List ℕ
  pub value : ℕ
  pub says : reading t ≡ onward t Start names numbers value i
  pub within : i ≤ length t
  pub counts : rows ≡ length numbers
  pub sizes : bytes ≡ length names
  pub fitting : fits ≡ every is_word numbers
  pub below : (rows ≤ i) × (bytes ≤ i)

pub counted_none : (t : List ℕ) → Counted t 0 0 0 true
unfolding reading onward fresh every
counted_none t = record { names = []; numbers = []; value = 0; says = refl; within = omega arith; counts = refl; sizes = refl; fitting = refl; below = (omega arith, omega arith) }

length_one : (l : List ℕ) (v : ℕ) → length (l ++ (v ∷ [])) ≡ length l + 1
length_one l v = length-append l (v ∷ [])

module _ (t : List ℕ) (i rows bytes : ℕ) (fits : Bool) (c : Counted t i rows bytes fits) where
  pub counted_row : (x : Row) → RowIs t i (Some x) → Counted t x.end (rows + 1) (bytes + x.bytes) (fits && is_some x.value)
  unfolding RowIs is_word
  counted_row x r =
      let a = r.ahead in
      let s = r.size in
      let u = c.counts in
      let y = c.sizes in
      let b = c.below in
      let l = length_one c.numbers r.number in
      let m = length-append c.names (r.name ++ (0 ∷ [])) in
      let o = length_one r.name 0 in
      record {
        names = c.names ++ (r.name ++ (0 ∷ []));
        numbers = c.numbers ++ (r.number ∷ []);
        value = r.number;
        says = c.says ∙ r.leads c.names c.numbers c.value;
        within = r.within;
        counts = omega arith;
        sizes = omega arith;
        fitting = ap₂ (λ p q. p && q) c.fitting (ap (λ z. is_some z) r.kept ∙ word_some r.number) ∙ sym (every_one is_word c.numbers r.number);
        below = (omega arith, omega arith);
      }

  module _ (room : Counts) where
    pub counted_wrong : RowIs t i None → Err NoSheet ≡ judged room (reading t)
    unfolding RowIs judged
    counted_wrong r = sym (ap (judged room) (c.says ∙ r c.names c.numbers c.value))

    module _ (h : length t ≤ i) where
      all_said : reading t ≡ lists c.names c.numbers
      unfolding ended_as ending
      all_said = c.says ∙ onward_end t Start c.names c.numbers c.value i h

      pub counted_large : fits ≡ false → Err IdentifierTooLarge ≡ judged room (reading t)
      unfolding judged
      counted_large q = sym (ap (judged room) all_said ∙ on_no (every is_word c.numbers) _ _ (sym c.fitting ∙ q))

      module _ (q : fits ≡ true) where
        asked : (r : Outcome) → require (nat_le (length c.numbers) room.rows && nat_le (length c.names) room.bytes) (Err RoomShort) (done (length c.numbers) (length c.names)) ≡ r → r ≡ judged room (reading t)
        unfolding judged
        asked r e = sym (ap (judged room) all_said ∙ on_yes (every is_word c.numbers) _ _ (sym c.fitting ∙ q) ∙ e)

        pub counted_short : (room.rows < rows) ⊎ (room.bytes < bytes) → Err RoomShort ≡ judged room (reading t)
        counted_short k = asked _ (on_no _ _ _ (go k))
          where
            go : (room.rows < rows) ⊎ (room.bytes < bytes) → (nat_le (length c.numbers) room.rows && nat_le (length c.names) room.bytes) ≡ false
            go (inl x) = let y = c.counts in rw (lt-leb (length c.numbers) room.rows (omega arith))
            go (inr x) = let y = c.sizes in rw (lt-leb (length c.names) room.bytes (omega arith)) (and_false (nat_le (length c.numbers) room.rows))

        pub counted_all_lem : rows ≤ room.rows → bytes ≤ room.bytes → Ok (record { rows = rows; bytes = bytes }) ≡ judged room (reading t)
        counted_all_lem x y =
            let u = c.counts in
            let v = c.sizes in
            ap₂ (λ p q. done p q) c.counts c.sizes
            ∙ asked _ (on_yes _ _ _ (rw (le-leb (length c.numbers) room.rows (omega arith), le-leb (length c.names) room.bytes (omega arith))))

-- two tests of which none passes
pub neither : (p q : Bool) → (p || q) ≡ false → (p ≡ false) × (q ≡ false)
neither p q e = or_parts p q e

-- The sheet's identifiers are words, and its lists fit into buffers of these lengths.
pub record Roomy (s : Said) (form : List ℕ → List ℕ) (k l : ℕ) : Type 0 where
  pub n : List ℕ
  pub i : List ℕ
  pub is : s ≡ lists n i
  pub words : every is_word i ≡ true
  pub ids_fit : length (form i) ≤ k
  pub names_fit : length n ≤ l

-- A text whose identifiers are words and fit their places, as the names do, and what it takes.
record Accepted (form : List ℕ → List ℕ) (ids names : List ℕ) (s : Said) (x : Counts) : Type 0 where
  n : List ℕ
  i : List ℕ
  is : s ≡ lists n i
  words : every is_word i ≡ true
  fits : (nat_le (length (form i)) (length ids) && nat_le (length n) (length names)) ≡ true
  takes : done (length i) (length n) ≡ Ok x

-- What was asked of the room that there is for identifiers was asked of their places.
module _ (form : List ℕ → List ℕ) (each : ℕ) (laws : Forms form each) (ids names : List ℕ) (room : Counts) (has : each * room.rows ≤ length ids)
    (most : length ids < each * (room.rows + 1)) (all : room.bytes ≡ length names) where
  same_room : (i : List ℕ) → nat_le (length (form i)) (length ids) ≡ nat_le (length i) room.rows
  same_room i = go (nat_lt room.rows (length i)) refl
    where
      go : (b : Bool) → nat_lt room.rows (length i) ≡ b → nat_le (length (form i)) (length ids) ≡ nat_le (length i) room.rows
      go true e =
          let h = ltb-true _ _ e in
          let m : each * (room.rows + 1) ≤ each * length i = mul-le-mul_left each (omega arith) in
          let z = laws.size i in
          lt-leb (length (form i)) (length ids) (omega arith) ∙ sym (lt-leb (length i) room.rows h)
      go false e =
          let h = ltb-false _ _ e in
          let m : each * length i ≤ each * room.rows = mul-le-mul_left each h in
          let z = laws.size i in
          le-leb (length (form i)) (length ids) (omega arith) ∙ sym (le-leb (length i) room.rows h)

  same : (n i : List ℕ) → (nat_le (length (form i)) (length ids) && nat_le (length n) (length names)) ≡ (nat_le (length i) room.rows && nat_le (length n) room.bytes)
  same n i = ap₂ (λ x y. x && nat_le (length n) y) (same_room i) (sym all)

  -- what a call leaves that gives this outcome and has written nothing
  abbrev as_it_was : Outcome → SheetRead
  as_it_was o = record { outcome = o; identifiers = ids; names = names }

  refused : (p q : Bool) (k : Refusal) (x : Counts) (r : SheetRead) → require p (Err IdentifierTooLarge) (require q (Err RoomShort) (Ok x)) ≡ Err k
      → require p (unread ids names IdentifierTooLarge) (require q (unread ids names RoomShort) r) ≡ unread ids names k
  unfolding require when◌then◌else◌
  refused false q k x r e = ap as_it_was e
  refused true false k x r e = ap as_it_was e
  refused true true k x r e = absurd (let z : ◌≡◌ {A = ℕ} 0 1 = cc in omega arith)

  pub read_refused : (s : Said) (k : Refusal) → judged room s ≡ Err k → read_into form ids names s ≡ unread ids names k
  unfolding judged read_into
  read_refused nothing k e = ap as_it_was e
  read_refused (lists n i) k e =
      ap (λ z. require (every is_word i) (unread ids names IdentifierTooLarge) (require z (unread ids names RoomShort) (record { outcome = done (length i) (length n); identifiers = laid ids (form i); names = laid names n }))) (same n i)
      ∙ refused (every is_word i) (nat_le (length i) room.rows && nat_le (length n) room.bytes) k _ _ e

  abbrev gives : Counts → Outcome
  gives c = Ok c

  granted : (p q : Bool) (c x : Counts) → require p (Err IdentifierTooLarge) (require q (Err RoomShort) (Ok c)) ≡ Ok x → (p ≡ true) × (q ≡ true) × (gives c ≡ Ok x)
  unfolding require when◌then◌else◌
  granted false q c x e = absurd (let z : ◌≡◌ {A = ℕ} 0 1 = cc in omega arith)
  granted true false c x e = absurd (let z : ◌≡◌ {A = ℕ} 0 1 = cc in omega arith)
  granted true true c x e = (refl, refl, e)

  -- a sheet that was judged, and what it takes
  accepted : (s : Said) (x : Counts) → judged room s ≡ Ok x → Accepted form ids names s x
  unfolding judged
  accepted nothing x e = absurd (let z : ◌≡◌ {A = ℕ} 0 1 = cc in omega arith)
  accepted (lists n i) x e =
      let g = granted (every is_word i) (nat_le (length i) room.rows && nat_le (length n) room.bytes) _ x e in
      record { n = n; i = i; is = refl; words = g.0; fits = same n i ∙ g.1; takes = g.2 }

  module _ (s : Said) (x : Counts) (e : judged room s ≡ Ok x) where
    abbrev a : Accepted form ids names s x
    a = accepted s x e

    pub roomy : Roomy s form (length ids) (length names)
    roomy = record {
      n = a.n;
      i = a.i;
      is = a.is;
      words = a.words;
      ids_fit = leb→le _ _ (true_T _ (and_first (nat_le (length (form a.i)) (length ids)) (nat_le (length a.n) (length names)) a.fits));
      names_fit = leb→le _ _ (true_T _ (and_second (nat_le (length (form a.i)) (length ids)) (nat_le (length a.n) (length names)) a.fits));
    }

    pub all_read : (u w : List ℕ) → ((n c : List ℕ) → s ≡ lists n c → (u ≡ laid ids (form c)) × (w ≡ laid names n)) → read_into form ids names s ≡ record { outcome = Ok x; identifiers = u; names = w }
    unfolding read_into
    all_read u w f =
        let g = f a.n a.i a.is in
        ap (read_into form ids names) a.is ∙ on_yes (every is_word a.i) _ _ a.words ∙ on_yes _ _ _ a.fits
        ∙ ap (λ z. record { outcome = z; identifiers = laid ids (form a.i); names = laid names a.n }) a.takes
        ∙ ap₂ (λ p q. record { outcome = Ok x; identifiers = p; names = q }) (sym g.0) (sym g.1)

-- All that a sheet says is in the buffers.
abbrev pub AllFilled : (List ℕ → List ℕ) → List ℕ → List ℕ → List ℕ → List ℕ → List ℕ → Type 0
AllFilled form t ids₀ names₀ ids names = (n c : List ℕ) → reading t ≡ lists n c → (ids ≡ laid ids₀ (form c)) × (names ≡ laid names₀ n)

-- Filling: the rows up to i are written.
pub record Filled (form : List ℕ → List ℕ) (t ids₀ names₀ ids names : List ℕ) (row at i : ℕ) : Type 0 where
  pub said : List ℕ
  pub numbers : List ℕ
  pub value : ℕ
  pub says : reading t ≡ onward t Start said numbers value i
  pub within : i ≤ length t
  pub here : at ≡ length said
  pub count : row ≡ length numbers
  pub ids_are : ids ≡ laid ids₀ (form numbers)
  pub names_are : names ≡ laid names₀ said

module _ (form : List ℕ → List ℕ) (none : form [] ≡ []) (join : (x y : List ℕ) → form (x ++ y) ≡ form x ++ form y) (t ids₀ names₀ : List ℕ) where
  pub filled_none : Filled form t ids₀ names₀ ids₀ names₀ 0 0 0
  unfolding reading onward fresh
  filled_none = record {
    said = [];
    numbers = [];
    value = 0;
    says = refl;
    within = omega arith;
    here = refl;
    count = refl;
    ids_are = laid_none ids₀ ∙ ap (laid ids₀) (sym none);
    names_are = laid_none names₀;
  }

  module _ (room : Roomy (reading t) form (length ids₀) (length names₀)) (ids names : List ℕ) (row at i : ℕ) (f : Filled form t ids₀ names₀ ids names row at i) where
    pub fill_readable : Readable t Start i at (length names₀)
    fill_readable = record {
      names = f.said;
      numbers = f.numbers;
      value = f.value;
      all_names = room.n;
      all_numbers = room.i;
      says = sym f.says ∙ room.is;
      here = f.here;
      fits = room.names_fit;
    }

    module _ (names' : List ℕ) (p : Row) (r : RowPut t i names at names' p) where
      abbrev numbers' : List ℕ
      numbers' = f.numbers ++ (r.number ∷ [])

      pub row_said : reading t ≡ onward t Start (f.said ++ (r.name ++ (0 ∷ []))) numbers' r.number p.end
      row_said = f.says ∙ r.leads f.said f.numbers f.value

      row_grown : Grown (f.said ++ (r.name ++ (0 ∷ []))) numbers' room.n room.i
      row_grown = onward_grown t Start (f.said ++ (r.name ++ (0 ∷ []))) numbers' r.number p.end room.n room.i (sym row_said ∙ room.is)

      -- there is a place for the number
      pub row_there : row + 1 ≤ length room.i
      row_there =
          let g = ap length row_grown.numbers ∙ length-append numbers' row_grown.more_numbers in
          let l = length_one f.numbers r.number in
          let c = f.count in
          omega arith

      -- and it is a word, as all numbers are
      number_word : is_word r.number ≡ true
      number_word =
          let g = sym (every_append is_word numbers' row_grown.more_numbers) ∙ sym (ap (every is_word) row_grown.numbers) ∙ room.words in
          and_second (every is_word f.numbers) (is_word r.number) (sym (every_one is_word f.numbers r.number) ∙ and_first (every is_word numbers') (every is_word row_grown.more_numbers) g)

      pub names_room : at + p.bytes ≤ length names₀
      names_room =
          let g = ap length row_grown.names ∙ length-append (f.said ++ (r.name ++ (0 ∷ []))) row_grown.more_names in
          let l = length-append f.said (r.name ++ (0 ∷ [])) in
          let o = length_one r.name 0 in
          let b = r.size in
          let h = f.here in
          let k = room.names_fit in
          omega arith

      pub value_there : IsSome p.value
      value_there = ap (λ z. is_some z) r.kept ∙ word_some r.number ∙ number_word

      -- and room, where each number takes as many places
      pub row_room : (each : ℕ) → ((x : List ℕ) → length (form x) ≡ each * length x) → each * (row + 1) ≤ length ids₀
      row_room each size =
          let r = mul-le-mul_left each row_there in
          let s = size room.i in
          let h = room.ids_fit in
          omega arith

      value_is : (v : ℕ) → p.value ≡ Some v → v ≡ r.number
      value_is v e = word_is r.number v (sym r.kept ∙ e)

      -- the number is written behind those before
      pub filled_row : (pos : ℕ) → pos ≡ length (form f.numbers) → (v : ℕ) → p.value ≡ Some v → (ids' : List ℕ) → ids' ≡ splice ids pos (form (v ∷ [])) → Filled form t ids₀ names₀ ids' names' (row + 1) (at + p.bytes) p.end
      filled_row pos here v q ids' e =
          let b = r.size in
          let h = f.here in
          let l = length-append f.said (r.name ++ (0 ∷ [])) in
          let o = length_one r.name 0 in
          let c = f.count in
          let m = length_one f.numbers r.number in
          record {
            said = f.said ++ (r.name ++ (0 ∷ []));
            numbers = numbers';
            value = r.number;
            says = row_said;
            within = r.within;
            here = omega arith;
            count = omega arith;
            ids_are =
                e ∙ ap₂ (λ x z. splice x pos (form (z ∷ []))) f.ids_are (value_is v q)
                ∙ laid_more ids₀ (form f.numbers) (form (r.number ∷ [])) pos here
                ∙ ap (laid ids₀) (sym (join f.numbers (r.number ∷ [])));
            names_are = r.written ∙ ap (λ x. splice x at (r.name ++ (0 ∷ []))) f.names_are ∙ laid_more names₀ f.said (r.name ++ (0 ∷ [])) at f.here;
          }

    pub filled_all : length t ≤ i → AllFilled form t ids₀ names₀ ids names
    unfolding ended_as ending
    filled_all h n c e =
        let q = same_lists n c f.said f.numbers (sym e ∙ f.says ∙ onward_end t Start f.said f.numbers f.value i h) in
        (f.ids_are ∙ ap (λ z. laid ids₀ (form z)) q.1, f.names_are ∙ ap (laid names₀) q.0)
