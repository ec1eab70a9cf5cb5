-- What the functions that write a name find, in a text that is known to be a sheet, and why there is room. Assumes nothing.
use Rattle.std.specs.Prelude.{◌≡◌, Option, Some, None, IsSome, Bool, ℕ, ◌+◌, ◌-◌, ◌≤◌, ◌<◌, get_or}
use Rattle.std.proofs.Math.Path.{refl, ap, sym}
use Rattle.std.proofs.Common.{◌∙◌}
use Rattle.std.proofs.Math.Bool.{true, false}
use mathlib.Core.List.{List, [], ◌∷◌, ◌++◌, append_assoc, append-nil}
use native.Mathlib.Omega.{arith}
use borrow.Author.Tests.{ltb-true, ltb-false, eqb-true, eqb-false}
use Rattle.std.proofs.Common.{nat_lt, nat_eq}
use Rattle.std.proofs.Math.ListN.{length, set, length-append, take, drop}
use Rattle.std.proofs.Common.{drop-drop}
use borrow.Rule.Slice.PartMut.{put_mid}
use Rattle.lists.specs.Basics.{when◌then◌else◌, every}
use Rattle.lists.specs.Splice.{splice}
use Rattle.sheet_reading.specs.declared.Name.{Name}
use Rattle.sheet_reading.specs.declared.Row.{Row}
use Rattle.sheets.specs.Grammar.{quote, comma}
use Rattle.sheet_reading.specs.Kinds.{plain_byte, quoted_byte}
use Rattle.sheets.specs.declared.Place.{Place}
use Rattle.sheets.specs.declared.Place.TheVariants.{Start, Plain, Quoted, Closed, Number, Wrong}
use Rattle.sheets.specs.declared.Effect.TheVariants.{Letter}
use Rattle.sheets.specs.declared.Ending.TheVariants.{Within}
use Rattle.sheets.specs.Reader.{next, effect, standing, lists, ending, ended_as}
use Rattle.sheets.proofs.Sound.{silent}
use Rattle.sheet_reading.specs.Runs.{between, between_none, between_more, length_between}
use Rattle.sheet_reading.specs.Nexts
use Rattle.sheet_reading.specs.Onward.{onward, onward_end, onward_wrong, onward_closed, onward_letter, onward_quoted, onward_number, onward_as, names_over, plain_stays, quoted_stays, plain_over, quoted_over, onward_grows}
use Rattle.sheets.specs.Laying.{splice_none, splice_one, splice_twice, length_splice}
use Rattle.sheet_reading.specs.Judged.{word_of, RestIs, opened_name}

-- A reader at this place of the text that has said names of `at` bytes, and reads on to the end: all names have this room.
pub record Readable (t : List ℕ) (p : Place) (i at room : ℕ) : Type 0 where
  pub names : List ℕ
  pub numbers : List ℕ
  pub value : ℕ
  pub all_names : List ℕ
  pub all_numbers : List ℕ
  pub says : onward t p names numbers value i ≡ lists all_names all_numbers
  pub here : at ≡ length names
  pub fits : length all_names ≤ room

-- Bytes that pass the test are bytes of the name; of the others only `stop` may follow.
pub record Copies (p : Place) (stop : ℕ) (f : ℕ → Bool) : Type 0 where
  pub stays : (b : ℕ) → f b ≡ true → next p b ≡ p
  pub letter : effect p ≡ Letter
  pub within : ending p ≡ Within
  pub wrong : (b : ℕ) → f b ≡ false → (b ≡ stop → ⊥) → next p b ≡ Wrong

pub plain_copies : Copies Plain comma plain_byte
unfolding effect ending
plain_copies = record { stays = plain_stays []; letter = refl; within = refl; wrong = Nexts.plain_wrong }

pub quoted_copies : Copies Quoted quote quoted_byte
unfolding effect ending
quoted_copies = record { stays = quoted_stays []; letter = refl; within = refl; wrong = Nexts.quoted_wrong }

-- The two that there are, by the byte that ends the copy.
unfoldable pub place_for : ℕ → Place
place_for stop = when nat_eq stop comma then Plain else Quoted

unfoldable pub test_for : ℕ → ℕ → Bool
test_for stop b = when nat_eq stop comma then plain_byte b else quoted_byte b

-- Bytes copied up to the one that ends them.
pub record Copied (t : List ℕ) (i j stop : ℕ) (names₀ : List ℕ) (at : ℕ) (names : List ℕ) : Type 0 where
  pub from : i ≤ j
  pub within : j < length t
  pub passed : every (test_for stop) (between i j t) ≡ true
  pub ended : get_or t j 0 ≡ stop
  pub written : names ≡ splice names₀ at (between i j t)

-- the copy, byte by byte
module _ (t : List ℕ) (i at room stop : ℕ) (k : Copies (place_for stop) stop (test_for stop)) (r : Readable t (place_for stop) i at room)
    (j : ℕ) (h : i ≤ j) (e : every (test_for stop) (between i j t) ≡ true) where
  abbrev p : Place
  p = place_for stop

  abbrev n : List ℕ
  n = r.names ++ between i j t

  going : onward t p n r.numbers r.value j ≡ lists r.all_names r.all_numbers
  going = sym (names_over t (test_for stop) p k.stays k.letter i j h e r.names r.numbers r.value) ∙ r.says

  pub copy_goes : j < length t
  unfolding ended_as
  copy_goes = go (nat_lt j (length t)) refl
    where
      go : (b : Bool) → nat_lt j (length t) ≡ b → j < length t
      go true q = ltb-true _ _ q
      go false q = absurd (silent r.all_names r.all_numbers (
          sym (onward_end t p n r.numbers r.value j (ltb-false _ _ q) ∙ ap (λ x. ended_as x (standing p n r.numbers r.value)) k.within) ∙ going))

  module _ (q : get_or t j 0 ≡ stop → ⊥) where
    pub copy_passes : test_for stop (get_or t j 0) ≡ true
    copy_passes = go (test_for stop (get_or t j 0)) refl
      where
        go : (b : Bool) → test_for stop (get_or t j 0) ≡ b → b ≡ true
        go true z = refl
        go false z = absurd (silent r.all_names r.all_numbers (sym (onward_wrong t p n r.numbers r.value j copy_goes (k.wrong (get_or t j 0) z q)) ∙ going))

    pub copy_room : at + (j - i) < room
    copy_room =
        let g = (onward_grows t p (n ++ (get_or t j 0 ∷ [])) r.numbers r.value (j + 1) r.all_names r.all_numbers
        (sym (onward_letter t p n r.numbers r.value j copy_goes p k.letter (k.stays (get_or t j 0) copy_passes)) ∙ going)).0 in
        let a = length-append n (get_or t j 0 ∷ []) in
        let b = length-append r.names (between i j t) in
        let l = copy_goes in
        let c = length_between i j t h (omega arith) in
        let d = r.here in
        let f = r.fits in
        omega arith

-- one byte more is copied
pub copy_none : (w t : List ℕ) (at i : ℕ) → w ≡ splice w at (between i i t)
copy_none w t at i = splice_none w at ∙ ap (splice w at) (sym (between_none i t))

pub copy_more : (w u t : List ℕ) (at i j : ℕ) → i ≤ j → j < length t → at + (j - i) < length w → u ≡ splice w at (between i j t)
    → set u (at + (j - i)) (get_or t j 0) ≡ splice w at (between i (j + 1) t)
copy_more w u t at i j h l r e =
    let a = length_between i j t h (omega arith) in
    let s : length (splice w at (between i j t)) ≡ length w = length_splice w (between i j t) at (omega arith) in
    ap (λ x. set x (at + (j - i)) (get_or t j 0)) e
    ∙ splice_one (splice w at (between i j t)) (at + (j - i)) (get_or t j 0) (omega arith)
    ∙ ap (λ n. splice (splice w at (between i j t)) (at + n) (get_or t j 0 ∷ [])) (sym a)
    ∙ splice_twice w (between i j t) (get_or t j 0 ∷ []) at (omega arith)
    ∙ ap (splice w at) (sym (between_more i j t h l))

-- a part of a buffer written over
pub mid_splice : (w ys : List ℕ) (at k : ℕ) → k ≡ length ys → put_mid at k w ys ≡ splice w at ys
unfolding splice
mid_splice w ys at k q =
    sym (append_assoc (take at w) ys (drop k (drop at w))) ∙ ap (λ z. take at w ++ ys ++ z) (drop-drop k at w ∙ ap (λ x. drop (at + x) w) q)

-- A name written with its zero byte, and what is said from the number on.
pub record NamePut (t : List ℕ) (p : Place) (i : ℕ) (names₀ : List ℕ) (at : ℕ) (names : List ℕ) (r : Name) : Type 0 where
  pub name : List ℕ
  pub ahead : i < r.end
  pub within : r.end ≤ length t
  pub size : r.bytes ≡ length name + 1
  pub written : names ≡ splice names₀ at (name ++ (0 ∷ []))
  pub leads : (n c : List ℕ) (v : ℕ) → onward t p n c v i ≡ onward t Number (n ++ (name ++ (0 ∷ []))) c 0 r.end

-- A row of which the name is written.
pub record RowPut (t : List ℕ) (i : ℕ) (names₀ : List ℕ) (at : ℕ) (names : List ℕ) (r : Row) : Type 0 where
  pub name : List ℕ
  pub number : ℕ
  pub ahead : i < r.end
  pub within : r.end ≤ length t
  pub size : r.bytes ≡ length name + 1
  pub kept : r.value ≡ word_of number
  pub written : names ≡ splice names₀ at (name ++ (0 ∷ []))
  pub leads : (n c : List ℕ) (v : ℕ) → onward t Start n c v i ≡ onward t Start (n ++ (name ++ (0 ∷ []))) (c ++ (number ∷ [])) number r.end

-- what is written has room
pub name_room : (t : List ℕ) (p : Place) (i at room : ℕ) → Readable t p i at room → (names₀ names : List ℕ) (x : Name) → NamePut t p i names₀ at names x → at + x.bytes ≤ room
name_room t p i at room r names₀ names x s =
    let w = s.name ++ (0 ∷ []) in
    let g = (onward_grows t Number (r.names ++ w) r.numbers 0 x.end r.all_names r.all_numbers (sym (s.leads r.names r.numbers r.value) ∙ r.says)).0 in
    let a = length-append r.names w in
    let b = length-append s.name (0 ∷ []) in
    let c = s.size in
    let d = r.here in
    let e = r.fits in
    omega arith

-- one byte more behind what was written
pub put_one : (w u s : List ℕ) (at b : ℕ) → at + length s < length w → u ≡ splice w at s → set u (at + length s) b ≡ splice w at (s ++ (b ∷ []))
put_one w u s at b h e =
    let l : length (splice w at s) ≡ length w = length_splice w s at (omega arith) in
    ap (λ x. set x (at + length s) b) e ∙ splice_one (splice w at s) (at + length s) b (omega arith) ∙ splice_twice w s (b ∷ []) at (omega arith)

-- Within a quoted name that begins at i: its bytes up to the quote at j are written.
pub record Copying (t : List ℕ) (i : ℕ) (names₀ : List ℕ) (at j k : ℕ) (names : List ℕ) : Type 0 where
  pub name : List ℕ
  pub from : i ≤ j
  pub within : j < length t
  pub quoted : get_or t j 0 ≡ quote
  pub here : k ≡ at + length name
  pub written : names ≡ splice names₀ at name
  pub leads : (n c : List ℕ) (v : ℕ) → onward t Quoted n c v i ≡ onward t Quoted (n ++ name) c v j

module _ (t : List ℕ) (i at room : ℕ) where
  -- a row that begins without a quote, and one that begins with one
  pub unquoted_name : i < length t → (get_or t i 0 ≡ quote → ⊥) → Readable t Start i at room → Readable t Plain i at room
  unquoted_name h k r = record {
    names = r.names;
    numbers = r.numbers;
    value = r.value;
    all_names = r.all_names;
    all_numbers = r.all_numbers;
    says = sym (onward_as t Start r.names r.numbers r.value i h Plain (Nexts.start_plain (get_or t i 0) k)) ∙ r.says;
    here = r.here;
    fits = r.fits;
  }

  pub quoted_name : i < length t → get_or t i 0 ≡ quote → Readable t Start i at room → Readable t Quoted (i + 1) at room
  quoted_name h e r = record {
    names = r.names;
    numbers = r.numbers;
    value = r.value;
    all_names = r.all_names;
    all_numbers = r.all_numbers;
    says = sym (opened_name t i h e r.names r.numbers r.value) ∙ r.says;
    here = r.here;
    fits = r.fits;
  }

  pub name_opened : i < length t → get_or t i 0 ≡ quote → (names₀ names : List ℕ) (q : Name) → NamePut t Quoted (i + 1) names₀ at names q → NamePut t Start i names₀ at names q
  name_opened h e names₀ names q s = let a = s.ahead in record {
    name = s.name;
    ahead = omega arith;
    within = s.within;
    size = s.size;
    written = s.written;
    leads = λ n c v. opened_name t i h e n c v ∙ s.leads n c v;
  }

  -- an unquoted name with its comma
  module _ (r : Readable t Start i at room) (h : i < length t) (k : get_or t i 0 ≡ quote → ⊥) (names₀ u : List ℕ) (j : ℕ) (c : Copied t i j comma names₀ at u) where
    plain_leads : (n m : List ℕ) (v : ℕ) → onward t Start n m v i ≡ onward t Number (n ++ (between i j t ++ (0 ∷ []))) m 0 (j + 1)
    unfolding test_for when◌then◌else◌
    plain_leads n m v =
        onward_as t Start n m v i h Plain (Nexts.start_plain (get_or t i 0) k) ∙ plain_over t i j c.from c.passed n m v
        ∙ onward_number t Plain (n ++ between i j t) m v j c.within (Nexts.plain_comma (get_or t j 0) c.ended) ∙ ap (λ x. onward t Number x m 0 (j + 1)) (append_assoc n (between i j t) (0 ∷ []))

    pub zero_room : at + (j - i) < room
    zero_room =
        let g = (onward_grows t Number (r.names ++ (between i j t ++ (0 ∷ []))) r.numbers 0 (j + 1) r.all_names r.all_numbers (sym (plain_leads r.names r.numbers r.value) ∙ r.says)).0 in
        let w = c.within in
        let a = length-append r.names (between i j t ++ (0 ∷ [])) in
        let b = length-append (between i j t) (0 ∷ []) in
        let d = length_between i j t c.from (omega arith) in
        let e = r.here in
        let f = r.fits in
        omega arith

    pub plain_put : room ≡ length names₀ → NamePut t Start i names₀ at (set u (at + (j - i)) 0) (record { end = j + 1; bytes = j - i + 1 })
    plain_put q =
        let f = c.from in
        let w = c.within in
        let z = zero_room in
        let l = length_between i j t c.from (omega arith) in
        record {
          name = between i j t;
          ahead = omega arith;
          within = omega arith;
          size = omega arith;
          written = ap (λ x. set u (at + x) 0) (sym l) ∙ put_one names₀ u (between i j t) at 0 (omega arith) c.written;
          leads = plain_leads;
        }

  -- a quoted one, quote by quote
  module _ (r : Readable t Quoted i at room) (names₀ : List ℕ) (q : room ≡ length names₀) where
    pub copying_none : i < length t → get_or t i 0 ≡ quote → Copying t i names₀ at i at names₀
    copying_none h e = record {
      name = [];
      from = omega arith;
      within = h;
      quoted = e;
      here = omega arith;
      written = splice_none names₀ at;
      leads = λ n m v. ap (λ x. onward t Quoted x m v i) (sym (append-nil n));
    }

    module _ (j k : ℕ) (u : List ℕ) (c : Copying t i names₀ at j k u) where
      at_quote : (n m : List ℕ) (v : ℕ) → onward t Quoted n m v i ≡ onward t Closed (n ++ c.name) m v (j + 1)
      at_quote n m v = c.leads n m v ∙ onward_closed t Quoted (n ++ c.name) m v j c.within (Nexts.quoted_quote (get_or t j 0) c.quoted)

      abbrev said : List ℕ
      said = r.names ++ c.name

      closed : onward t Closed said r.numbers r.value (j + 1) ≡ lists r.all_names r.all_numbers
      closed = sym (at_quote r.names r.numbers r.value) ∙ r.says

      pub copying_small : k ≤ length names₀
      copying_small =
          let g = (onward_grows t Quoted said r.numbers r.value j r.all_names r.all_numbers (sym (c.leads r.names r.numbers r.value) ∙ r.says)).0 in
          let y = length-append r.names c.name in
          let z = r.here in
          let w = c.here in
          let o = r.fits in
          omega arith

      pub quote_goes : j + 1 < length t
      unfolding ended_as ending
      quote_goes = go (nat_lt (j + 1) (length t)) refl
        where
          go : (b : Bool) → nat_lt (j + 1) (length t) ≡ b → j + 1 < length t
          go true e = ltb-true _ _ e
          go false e = absurd (silent r.all_names r.all_numbers (sym (onward_end t Closed said r.numbers r.value (j + 1) (ltb-false _ _ e)) ∙ closed))

      -- a place more was said
      one_more : (b : ℕ) (p : Place) (v l : ℕ) → onward t p (said ++ (b ∷ [])) r.numbers v l ≡ lists r.all_names r.all_numbers → k < length names₀
      one_more b p v l e =
          let g = (onward_grows t p (said ++ (b ∷ [])) r.numbers v l r.all_names r.all_numbers e).0 in
          let x = length-append said (b ∷ []) in
          let y = length-append r.names c.name in
          let z = r.here in
          let w = c.here in
          let o = r.fits in
          omega arith

      -- another quote: a byte of the name
      module _ (e : get_or t (j + 1) 0 ≡ quote) where
        two : j + 1 + 1 ≡ j + 2
        two = omega arith

        again : (n m : List ℕ) (v : ℕ) → onward t Quoted n m v i ≡ onward t Quoted ((n ++ c.name) ++ (quote ∷ [])) m v (j + 2)
        again n m v =
            at_quote n m v ∙ onward_quoted t Closed (n ++ c.name) m v (j + 1) quote_goes (Nexts.closed_quote (get_or t (j + 1) 0) e)
            ∙ ap (λ x. onward t Quoted ((n ++ c.name) ++ (x ∷ [])) m v (j + 1 + 1)) e ∙ ap (λ x. onward t Quoted ((n ++ c.name) ++ (quote ∷ [])) m v x) two

        pub quote_room : k < length names₀
        quote_room = one_more quote Quoted r.value (j + 2) (sym (again r.names r.numbers r.value) ∙ r.says)

        pub quote_readable : Readable t Quoted (j + 2) (k + 1) room
        quote_readable = record {
          names = said ++ (quote ∷ []);
          numbers = r.numbers;
          value = r.value;
          all_names = r.all_names;
          all_numbers = r.all_numbers;
          says = sym (again r.names r.numbers r.value) ∙ r.says;
          here =
              let x = length-append said (quote ∷ []) in
              let y = length-append r.names c.name in
              let z = r.here in
              let w = c.here in
              omega arith;
          fits = r.fits;
        }

        pub copying_more : (w : List ℕ) (l : ℕ) → Copied t (j + 2) l quote (set u k quote) (k + 1) w → Copying t i names₀ at l (k + 1 + (l - (j + 2))) w
        unfolding test_for when◌then◌else◌
        copying_more w l d =
            let f = c.from in
            let g = d.from in
            let o = d.within in
            let s = between (j + 2) l t in
            let ls : length s ≡ l - (j + 2) = length_between (j + 2) l t d.from (omega arith) in
            let h = c.here in
            let room-here = quote_room in
            let x = length-append c.name (quote ∷ []) in
            let y = length-append c.name (quote ∷ s) in
            let put : set u k quote ≡ splice names₀ at (c.name ++ (quote ∷ [])) = ap (λ z. set u z quote) c.here ∙ put_one names₀ u c.name at quote (omega arith) c.written in
            let ahead : k + 1 ≡ at + length (c.name ++ (quote ∷ [])) = omega arith in
            record {
              name = c.name ++ (quote ∷ s);
              from = omega arith;
              within = d.within;
              quoted = d.ended;
              here = omega arith;
              written = d.written ∙ ap (λ z. splice z (k + 1) s) put ∙ ap (λ z. splice (splice names₀ at (c.name ++ (quote ∷ []))) z s) ahead
                  ∙ splice_twice names₀ (c.name ++ (quote ∷ [])) s at (omega arith) ∙ ap (splice names₀ at) (append_assoc c.name (quote ∷ []) s);
              leads = λ n m v. again n m v ∙ quoted_over t (j + 2) l d.from d.passed ((n ++ c.name) ++ (quote ∷ [])) m v
                  ∙ ap (λ z. onward t Quoted z m v l) (append_assoc (n ++ c.name) (quote ∷ []) s ∙ append_assoc n c.name (quote ∷ s));
            }

      -- anything else is the comma
      module _ (e : get_or t (j + 1) 0 ≡ quote → ⊥) where
        the_comma : get_or t (j + 1) 0 ≡ comma
        the_comma = go (nat_eq (get_or t (j + 1) 0) comma) refl
          where
            go : (b : Bool) → nat_eq (get_or t (j + 1) 0) comma ≡ b → get_or t (j + 1) 0 ≡ comma
            go true z = eqb-true _ _ z
            go false z = absurd (silent r.all_names r.all_numbers (sym (onward_wrong t Closed said r.numbers r.value (j + 1) quote_goes (Nexts.closed_wrong (get_or t (j + 1) 0) e (eqb-false _ _ z))) ∙ closed))

        over_comma : (n m : List ℕ) (v : ℕ) → onward t Quoted n m v i ≡ onward t Number ((n ++ c.name) ++ (0 ∷ [])) m 0 (j + 2)
        over_comma n m v =
            let two : j + 1 + 1 ≡ j + 2 = omega arith in
            at_quote n m v ∙ onward_number t Closed (n ++ c.name) m v (j + 1) quote_goes (Nexts.closed_comma (get_or t (j + 1) 0) the_comma)
            ∙ ap (λ x. onward t Number ((n ++ c.name) ++ (0 ∷ [])) m 0 x) two

        pub last_room : k < length names₀
        last_room = one_more 0 Number 0 (j + 2) (sym (over_comma r.names r.numbers r.value) ∙ r.says)

        pub quoted_put : NamePut t Quoted i names₀ at (set u k 0) (record { end = j + 2; bytes = k + 1 - at })
        quoted_put =
            let f = c.from in
            let g = quote_goes in
            let h = c.here in
            let room-here = last_room in
            record {
              name = c.name;
              ahead = omega arith;
              within = omega arith;
              size = omega arith;
              written = ap (λ z. set u z 0) c.here ∙ put_one names₀ u c.name at 0 (omega arith) c.written;
              leads = λ n m v. over_comma n m v ∙ ap (λ z. onward t Number z m 0 (j + 2)) (append_assoc n c.name (0 ∷ []));
            }

  -- the bytes up to the first quote, and the rest
  module _ (r : Readable t Quoted i at room) (names₀ u : List ℕ) (j : ℕ) (c : Copied t i j quote names₀ at u) where
    quoted_leads : (n m : List ℕ) (v : ℕ) → onward t Quoted n m v i ≡ onward t Quoted (n ++ between i j t) m v j
    unfolding test_for when◌then◌else◌
    quoted_leads n m v = quoted_over t i j c.from c.passed n m v

    size : length (between i j t) ≡ j - i
    size = let w = c.within in length_between i j t c.from (omega arith)

    pub quotes_readable : Readable t Quoted j (at + (j - i)) room
    quotes_readable = record {
      names = r.names ++ between i j t;
      numbers = r.numbers;
      value = r.value;
      all_names = r.all_names;
      all_numbers = r.all_numbers;
      says = sym (quoted_leads r.names r.numbers r.value) ∙ r.says;
      here = let x = length-append r.names (between i j t) in let y = size in let z = r.here in omega arith;
      fits = r.fits;
    }

    pub quotes_there : at + (j - i) ≤ room
    quotes_there =
        let q = quotes_readable in
        let g = (onward_grows t Quoted q.names q.numbers q.value j q.all_names q.all_numbers q.says).0 in
        let h = q.here in
        let f = q.fits in
        omega arith

    pub quotes_put : room ≡ length names₀ → (names : List ℕ) (p : Name) → NamePut t Quoted j u (at + (j - i)) names p → NamePut t Quoted i names₀ at names (record { end = p.end; bytes = j - i + p.bytes })
    quotes_put q names p s =
        let f = c.from in
        let a = s.ahead in
        let b = s.size in
        let y = size in
        let o = quotes_there in
        let l = length-append (between i j t) s.name in
        record {
          name = between i j t ++ s.name;
          ahead = omega arith;
          within = s.within;
          size = omega arith;
          written = s.written ∙ ap (λ z. splice z (at + (j - i)) (s.name ++ (0 ∷ []))) c.written ∙ ap (λ z. splice (splice names₀ at (between i j t)) (at + z) (s.name ++ (0 ∷ []))) (sym y)
              ∙ splice_twice names₀ (between i j t) (s.name ++ (0 ∷ [])) at (omega arith) ∙ ap (splice names₀ at) (sym (append_assoc (between i j t) s.name (0 ∷ [])));
          leads = λ n m v. quoted_leads n m v ∙ s.leads (n ++ between i j t) m v
              ∙ ap (λ z. onward t Number z m 0 p.end) (append_assoc n (between i j t) (s.name ++ (0 ∷ [])) ∙ ap (λ z. n ++ z) (sym (append_assoc (between i j t) s.name (0 ∷ []))));
        }

  -- a row, of its parts
  module _ (r : Readable t Start i at room) (names₀ names : List ℕ) (p : Name) (s : NamePut t Start i names₀ at names p) where
    abbrev so : List ℕ
    so = r.names ++ (s.name ++ (0 ∷ []))

    numbered : onward t Number so r.numbers 0 p.end ≡ lists r.all_names r.all_numbers
    numbered = sym (s.leads r.names r.numbers r.value) ∙ r.says

    pub rest_there : (r : Option Row) → RestIs t p r → IsSome r
    unfolding RestIs
    rest_there None x = absurd (silent r.all_names r.all_numbers (sym (x so r.numbers) ∙ numbered))
    rest_there (Some y) x = refl

    pub row_put : (y : Row) → RestIs t p (Some y) → RowPut t i names₀ at names y
    unfolding RestIs
    row_put y x = let a = s.ahead in let b = x.ahead in let c = x.size in let d = s.size in record {
      name = s.name;
      number = x.number;
      ahead = omega arith;
      within = x.within;
      size = omega arith;
      kept = x.kept;
      written = s.written;
      leads = λ n m v. s.leads n m v ∙ x.leads (n ++ (s.name ++ (0 ∷ []))) m;
    }
