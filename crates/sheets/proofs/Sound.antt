-- What the reader reads is a sheet of the grammar, and it says that sheet's rows. Assumes nothing.
use Rattle.std.specs.Prelude.{◌≡◌, ◌⊎◌, true, not, ℕ, ◌≤◌, T, nat_eq, length}
use Rattle.std.proofs.Math.Path.{refl, ap, ap₂, sym, subst}
use Rattle.std.proofs.Common.{◌∙◌, arith, eqb→eq}
use Rattle.std.proofs.Math.Logic.{inl, inr}
use mathlib.Core.List.{List, [], ◌∷◌, ◌++◌, append_assoc, append-nil}
use Rattle.lists.specs.Basics.{when◌then◌else◌, every}
use Rattle.lists.specs.Choice.{choose}
use Rattle.lists.specs.Tests.{T_true}
use Rattle.sheets.specs.Grammar.{quote, comma, cr, lf, bare, non_zero, is_digit, doubled, worth, Field, plain, quoted, RowText, row, Sheet, empty, last, more}
use Rattle.sheets.specs.Reader
use Rattle.sheets.specs.declared.Place.{Place}
use Rattle.sheets.specs.declared.Place.TheVariants.{Start, Plain, Opened, Quoted, Closed, Number, Digits, NumberOpened, NumberQuoted, NumberClosed, Return, Wrong}
use Rattle.sheets.specs.Reader.{Reader, next, effect, said, told, valued, moved, fed, run, fresh, nothing, lists, ending, ended_as, ended, reading}
use Rattle.sheets.specs.Rows.{names_of, identifiers_of, Rest}
use Rattle.sheets.specs.Bytes.{T_false, every_more, every_none, digits_bare, digits_single}

-- What the text t from a place on says: x is added to the names, y to the identifiers.
-- From a row's start: a sheet (`Rest`, Rows.antt).

-- Behind a number: the end, or CR LF and a sheet.
abbrev Tail : List ℕ → List ℕ → List ℕ → Type 0
Tail t x y = ((t ≡ []) × (x ≡ []) × (y ≡ [])) ⊎ ((u : List ℕ) × (t ≡ cr ∷ lf ∷ u) × Rest u x y)

-- Behind a number that is v.
record Told (v : ℕ) (t x y : List ℕ) : Type 0 where
  after : List ℕ
  told_y : y ≡ v ∷ after
  tail : Tail t x after

-- Within a number that is v so far: unquoted, and quoted.
record InDigits (v : ℕ) (t x y : List ℕ) : Type 0 where
  digits : List ℕ
  behind : List ℕ
  text : t ≡ digits ++ behind
  proper : every is_digit digits ≡ true
  end : Told (worth v digits) behind x y

record InQuotes (v : ℕ) (t x y : List ℕ) : Type 0 where
  digits : List ℕ
  behind : List ℕ
  text : t ≡ digits ++ (quote ∷ behind)
  proper : every is_digit digits ≡ true
  end : Told (worth v digits) behind x y

record InOpened (v : ℕ) (t x y : List ℕ) : Type 0 where
  digits : List ℕ
  behind : List ℕ
  text : t ≡ digits ++ (quote ∷ behind)
  proper : every is_digit digits ≡ true
  some : 1 ≤ length digits
  end : Told (worth v digits) behind x y

-- Before a number.
record Numbered (v : ℕ) (t x y : List ℕ) : Type 0 where
  field : List ℕ
  digits : List ℕ
  behind : List ℕ
  text : t ≡ field ++ behind
  said_field : Field field digits
  proper : every is_digit digits ≡ true
  some : 1 ≤ length digits
  end : Told (worth v digits) behind x y

-- Within a name: unquoted, and quoted.
record InName (t x y : List ℕ) : Type 0 where
  name : List ℕ
  behind : List ℕ
  others : List ℕ
  text : t ≡ name ++ (comma ∷ behind)
  bares : every bare name ≡ true
  proper : every non_zero name ≡ true
  names : x ≡ name ++ (0 ∷ others)
  end : Numbered 0 behind others y

record InQuoted (t x y : List ℕ) : Type 0 where
  name : List ℕ
  behind : List ℕ
  others : List ℕ
  text : t ≡ doubled name ++ (quote ∷ comma ∷ behind)
  proper : every non_zero name ≡ true
  names : x ≡ name ++ (0 ∷ others)
  end : Numbered 0 behind others y

-- Behind a quote in a quoted name: it ended the name, or a second quote follows.
abbrev Ended : List ℕ → List ℕ → List ℕ → Type 0
Ended t x y = ((u z : List ℕ) × (t ≡ comma ∷ u) × (x ≡ 0 ∷ z) × Numbered 0 u z y) ⊎ ((u z : List ℕ) × (t ≡ quote ∷ u) × (x ≡ quote ∷ z) × InQuoted u z y)

abbrev Returned : List ℕ → List ℕ → List ℕ → Type 0
Returned t x y = (u : List ℕ) × (t ≡ lf ∷ u) × Rest u x y

abbrev After : Place → ℕ → List ℕ → List ℕ → List ℕ → Type 0
After Start v t x y = Rest t x y
After Plain v t x y = InName t x y
After Opened v t x y = InQuoted t x y
After Quoted v t x y = InQuoted t x y
After Closed v t x y = Ended t x y
After Number v t x y = Numbered v t x y
After Digits v t x y = InDigits v t x y
After NumberOpened v t x y = InOpened v t x y
After NumberQuoted v t x y = InQuotes v t x y
After NumberClosed v t x y = Told v t x y
After Return v t x y = Returned t x y
After Wrong v t x y = ⊥

-- A name's field, a comma and what a number begins are the rest of a sheet.
rest_of : (f s u x y : List ℕ) → Field f s → every non_zero s ≡ true → Numbered 0 u x y → Rest (f ++ (comma ∷ u)) (s ++ (0 ∷ x)) y
unfolding names_of identifiers_of
rest_of f s u x y k z m = go m.end.tail
  where
    line : RowText (f ++ (comma ∷ m.field)) (record { name = s; identifier = worth 0 m.digits })
    line = row k z m.said_field m.proper m.some

    whole : f ++ (comma ∷ u) ≡ (f ++ (comma ∷ m.field)) ++ m.behind
    whole = ap (λ l. f ++ (comma ∷ l)) m.text ∙ sym (append_assoc f (comma ∷ m.field) m.behind)

    go : Tail m.behind x m.end.after → Rest (f ++ (comma ∷ u)) (s ++ (0 ∷ x)) y
    go (inl e) = record {
      rows = record { name = s; identifier = worth 0 m.digits } ∷ [];
      sheet = subst (λ l. Sheet l (record { name = s; identifier = worth 0 m.digits } ∷ [])) (sym (whole ∙ ap (λ l. (f ++ (comma ∷ m.field)) ++ l) e.0 ∙ append-nil _)) (last line);
      names = ap (λ l. s ++ (0 ∷ l)) e.1;
      identifiers = m.end.told_y ∙ ap (λ l. worth 0 m.digits ∷ l) e.2;
    }
    go (inr e) = record {
      rows = record { name = s; identifier = worth 0 m.digits } ∷ e.2.rows;
      sheet = subst (λ l. Sheet l (record { name = s; identifier = worth 0 m.digits } ∷ e.2.rows)) (sym (whole ∙ ap (λ l. (f ++ (comma ∷ m.field)) ++ l) e.1)) (more line e.2.sheet);
      names = ap (λ l. s ++ (0 ∷ l)) e.2.names;
      identifiers = m.end.told_y ∙ ap (λ l. worth 0 m.digits ∷ l) e.2.identifiers;
    }

module _ (b v : ℕ) (t x y : List ℕ) where
  -- b leads from p to q
  abbrev Back : Place → Place → Type 0
  Back p q = After q (valued (effect q) b v) t x y → After p v (b ∷ t) (said (effect q) b ++ x) (told (effect q) v ++ y)

  start_name : bare b ≡ true → non_zero b ≡ true → InName t x y → Rest (b ∷ t) (b ∷ x) y
  start_name e z m =
      subst (λ l. Rest l (b ∷ x) y) (ap (λ l. b ∷ l) (sym m.text))
      (subst (λ l. Rest (b ∷ (m.name ++ (comma ∷ m.behind))) l y) (ap (λ l. b ∷ l) (sym m.names))
      (rest_of (b ∷ m.name) (b ∷ m.name) m.behind m.others y (plain (every_more bare b m.name e m.bares)) (every_more non_zero b m.name z m.proper) m.end))

  unquoted_start : Back Start (Reader.unquoted b)
  unfolding Reader.unquoted effect said told valued non_zero
  unquoted_start =
      choose (Back Start) (nat_eq b comma) Number _
      (λ e m. subst (λ k. Rest (k ∷ t) (0 ∷ x) y) (sym (eqb→eq b comma e)) (rest_of [] [] t x y (plain (every_none bare)) (every_none non_zero) m))
      (λ _. choose (Back Start) (nat_eq b 0) Wrong _ (λ _ w. absurd w)
      (λ z. choose (Back Start) (bare b) Plain Wrong (λ e m. start_name (T_true _ e) (T_true _ z) m) (λ _ w. absurd w)))

  back_start : Back Start (next Start b)
  unfolding next effect said told valued
  back_start =
      choose (Back Start) (nat_eq b quote) Opened (Reader.unquoted b)
      (λ e m. subst (λ k. Rest (k ∷ t) x y) (sym (eqb→eq b quote e))
      (subst (λ l. Rest (quote ∷ l) x y) (append_assoc (doubled m.name) (quote ∷ []) (comma ∷ m.behind) ∙ sym m.text)
      (subst (λ l. Rest ((quote ∷ (doubled m.name ++ (quote ∷ []))) ++ (comma ∷ m.behind)) l y) (sym m.names)
      (rest_of (quote ∷ (doubled m.name ++ (quote ∷ []))) m.name m.behind m.others y quoted m.proper m.end))))
      (λ _. unquoted_start)

  back_plain : Back Plain (next Plain b)
  unfolding next Reader.unquoted effect said told valued non_zero
  back_plain =
      choose (Back Plain) (nat_eq b comma) Number _
      (λ e m. record { name = []; behind = t; others = x; text = ap (λ k. k ∷ t) (eqb→eq b comma e); bares = every_none bare; proper = every_none non_zero; names = refl; end = m })
      (λ _. choose (Back Plain) (nat_eq b 0) Wrong _ (λ _ w. absurd w)
      (λ z. choose (Back Plain) (bare b) Plain Wrong
      (λ e m. record { name = b ∷ m.name; behind = m.behind; others = m.others; text = ap (λ l. b ∷ l) m.text; bares = every_more bare b m.name (T_true _ e) m.bares; proper = every_more non_zero b m.name (T_true _ z) m.proper; names = ap (λ l. b ∷ l) m.names; end = m.end })
      (λ _ w. absurd w)))

  twice : (s : List ℕ) → T (not (nat_eq b quote)) → doubled (b ∷ s) ≡ b ∷ doubled s
  unfolding doubled when◌then◌else◌
  twice s e = rw (T_false (nat_eq b quote) e)

  ended_name : b ≡ quote → Ended t x y → InQuoted (b ∷ t) x y
  unfolding doubled when◌then◌else◌ non_zero
  ended_name e (inl m) = record { name = []; behind = m.0; others = m.1; text = ap₂ (λ k l. k ∷ l) e m.2; proper = every_none non_zero; names = m.3; end = m.4 }
  ended_name e (inr m) = record { name = quote ∷ m.4.name; behind = m.4.behind; others = m.4.others; text = ap₂ (λ k l. k ∷ l) e (m.2 ∙ ap (λ l. quote ∷ l) m.4.text); proper = every_more non_zero quote m.4.name refl m.4.proper; names = m.3 ∙ ap (λ l. quote ∷ l) m.4.names; end = m.4.end }

  in_quoted : Back Quoted (Reader.quoted b)
  unfolding Reader.quoted effect said told valued non_zero
  in_quoted =
      choose (Back Quoted) (nat_eq b quote) Closed _
      (λ e m. ended_name (eqb→eq b quote e) m)
      (λ n. choose (Back Quoted) (nat_eq b 0) Wrong Quoted (λ _ w. absurd w)
      (λ z m. record { name = b ∷ m.name; behind = m.behind; others = m.others; text = ap (λ l. b ∷ l) m.text ∙ ap (λ l. l ++ (quote ∷ comma ∷ m.behind)) (sym (twice m.name n)); proper = every_more non_zero b m.name (T_true _ z) m.proper; names = ap (λ l. b ∷ l) m.names; end = m.end }))

  back_quoted : Back Quoted (next Quoted b)
  unfolding next
  back_quoted = in_quoted

  back_opened : Back Opened (next Opened b)
  unfolding next
  back_opened = in_quoted

  back_closed : Back Closed (next Closed b)
  unfolding next Reader.closed effect said told valued
  back_closed =
      choose (Back Closed) (nat_eq b quote) Quoted _
      (λ e m. inr (t, x, ap (λ k. k ∷ t) (eqb→eq b quote e), ap (λ k. k ∷ x) (eqb→eq b quote e), m))
      (λ _. choose (Back Closed) (nat_eq b comma) Number Wrong (λ e m. inl (t, x, ap (λ k. k ∷ t) (eqb→eq b comma e), refl, m)) (λ _ w. absurd w))

  back_number : Back Number (next Number b)
  unfolding next Reader.number effect said told valued worth
  back_number =
      choose (Back Number) (nat_eq b quote) NumberOpened _
      (λ e m. record {
        field = quote ∷ (doubled m.digits ++ (quote ∷ []));
        digits = m.digits;
        behind = m.behind;
        text = ap₂ (λ k l. k ∷ l) (eqb→eq b quote e) (m.text ∙ ap (λ l. l ++ (quote ∷ m.behind)) (sym (digits_single m.digits m.proper)) ∙ sym (append_assoc (doubled m.digits) (quote ∷ []) m.behind));
        said_field = quoted;
        proper = m.proper;
        some = m.some;
        end = m.end;
      })
      (λ _. choose (Back Number) (is_digit b) Digits Wrong
      (λ e m. record {
        field = b ∷ m.digits;
        digits = b ∷ m.digits;
        behind = m.behind;
        text = ap (λ l. b ∷ l) m.text;
        said_field = plain (digits_bare (b ∷ m.digits) (every_more is_digit b m.digits (T_true _ e) m.proper));
        proper = every_more is_digit b m.digits (T_true _ e) m.proper;
        some = omega arith;
        end = m.end;
      })
      (λ _ w. absurd w))

  row_end_lem : T (nat_eq b cr) → Returned t x y → (y' : List ℕ) → y' ≡ y → Tail (b ∷ t) x y'
  row_end_lem e m y' k = inr (m.0, ap₂ (λ k l. k ∷ l) (eqb→eq b cr e) m.1, subst (λ l. Rest m.0 x l) (sym k) m.2)

  back_digits : Back Digits (next Digits b)
  unfolding next Reader.digits Reader.row_end effect said told valued worth
  back_digits =
      choose (Back Digits) (is_digit b) Digits _
      (λ e m. record { digits = b ∷ m.digits; behind = m.behind; text = ap (λ l. b ∷ l) m.text; proper = every_more is_digit b m.digits (T_true _ e) m.proper; end = m.end })
      (λ _. choose (Back Digits) (nat_eq b cr) Return Wrong
      (λ e m. record { digits = []; behind = b ∷ t; text = refl; proper = every_none is_digit; end = record { after = y; told_y = refl; tail = row_end_lem e m y refl } })
      (λ _ w. absurd w))

  back_number_opened : Back NumberOpened (next NumberOpened b)
  unfolding next effect said told valued worth
  back_number_opened =
      choose (Back NumberOpened) (is_digit b) NumberQuoted Wrong
      (λ e m. record { digits = b ∷ m.digits; behind = m.behind; text = ap (λ l. b ∷ l) m.text; proper = every_more is_digit b m.digits (T_true _ e) m.proper; some = omega arith; end = m.end })
      (λ _ w. absurd w)

  back_number_quoted : Back NumberQuoted (next NumberQuoted b)
  unfolding next Reader.number_quoted effect said told valued worth
  back_number_quoted =
      choose (Back NumberQuoted) (nat_eq b quote) NumberClosed _
      (λ e m. record { digits = []; behind = t; text = ap (λ k. k ∷ t) (eqb→eq b quote e); proper = every_none is_digit; end = m })
      (λ _. choose (Back NumberQuoted) (is_digit b) NumberQuoted Wrong
      (λ e m. record { digits = b ∷ m.digits; behind = m.behind; text = ap (λ l. b ∷ l) m.text; proper = every_more is_digit b m.digits (T_true _ e) m.proper; end = m.end })
      (λ _ w. absurd w))

  back_number_closed : Back NumberClosed (next NumberClosed b)
  unfolding next Reader.row_end effect said told valued
  back_number_closed =
      choose (Back NumberClosed) (nat_eq b cr) Return Wrong
      (λ e m. record { after = y; told_y = refl; tail = row_end_lem e m y refl })
      (λ _ w. absurd w)

  back_return : Back Return (next Return b)
  unfolding next effect said told valued
  back_return =
      choose (Back Return) (nat_eq b lf) Start Wrong
      (λ e m. (t, ap (λ k. k ∷ t) (eqb→eq b lf e), m))
      (λ _ w. absurd w)

  back_wrong : Back Wrong (next Wrong b)
  unfolding next effect said told valued
  back_wrong w = w

  back : (p : Place) → Back p (next p b)
  back Start = back_start
  back Plain = back_plain
  back Opened = back_opened
  back Quoted = back_quoted
  back Closed = back_closed
  back Number = back_number
  back Digits = back_digits
  back NumberOpened = back_number_opened
  back NumberQuoted = back_number_quoted
  back NumberClosed = back_number_closed
  back Return = back_return
  back Wrong = back_wrong

-- What a text that is read says, behind what was said before.
record Read (m : Reader) (t n i : List ℕ) : Type 0 where
  x : List ℕ
  y : List ℕ
  names : n ≡ m.names ++ x
  identifiers : i ≡ m.identifiers ++ y
  after : After m.place m.value t x y

pub silent : (n i : List ℕ) → nothing ≡ lists n i → ⊥
silent n i e = let z : ◌≡◌ {A = ℕ} 0 1 = cc in omega arith

pub same_lists : (n i n' i' : List ℕ) → lists n i ≡ lists n' i' → (n' ≡ n) × (i' ≡ i)
same_lists n i n' i' e = (cc, cc)

end_here : Tail [] [] []
end_here = inl (refl, refl, refl)

read_none : (p : Place) (a c : List ℕ) (v : ℕ) (n i : List ℕ) → ended_as (ending p) (record { place = p; names = a; identifiers = c; value = v }) ≡ lists n i
    → Read (record { place = p; names = a; identifiers = c; value = v }) [] n i
unfolding ended_as ending names_of identifiers_of worth
read_none Start a c v n i e =
    let k = same_lists a c n i e in
    record { x = []; y = []; names = k.0 ∙ sym (append-nil a); identifiers = k.1 ∙ sym (append-nil c); after = record { rows = []; sheet = empty; names = refl; identifiers = refl } }
read_none Plain a c v n i e = absurd (silent n i e)
read_none Opened a c v n i e = absurd (silent n i e)
read_none Quoted a c v n i e = absurd (silent n i e)
read_none Closed a c v n i e = absurd (silent n i e)
read_none Number a c v n i e = absurd (silent n i e)
read_none Digits a c v n i e =
    let k = same_lists a (c ++ (v ∷ [])) n i e in
    record { x = []; y = v ∷ []; names = k.0 ∙ sym (append-nil a); identifiers = k.1; after = record { digits = []; behind = []; text = refl; proper = every_none is_digit; end = record { after = []; told_y = refl; tail = end_here } } }
read_none NumberOpened a c v n i e = absurd (silent n i e)
read_none NumberQuoted a c v n i e = absurd (silent n i e)
read_none NumberClosed a c v n i e =
    let k = same_lists a (c ++ (v ∷ [])) n i e in
    record { x = []; y = v ∷ []; names = k.0 ∙ sym (append-nil a); identifiers = k.1; after = record { after = []; told_y = refl; tail = end_here } }
read_none Return a c v n i e = absurd (silent n i e)
read_none Wrong a c v n i e = absurd (silent n i e)

sound_from : (t : List ℕ) (m : Reader) (n i : List ℕ) → ended (run m t) ≡ lists n i → Read m t n i
unfolding run ended fed moved
sound_from [] m n i e = read_none m.place m.names m.identifiers m.value n i e
sound_from (b ∷ t) m n i e =
    let r = sound_from t (fed m b) n i e in
    let q = next m.place b in
    record {
      x = said (effect q) b ++ r.x;
      y = told (effect q) m.value ++ r.y;
      names = r.names ∙ append_assoc m.names (said (effect q) b) r.x;
      identifiers = r.identifiers ∙ append_assoc m.identifiers (told (effect q) m.value) r.y;
      after = back b m.value t r.x r.y m.place r.after;
    }

-- A text that is read is a sheet, whose rows are what was said.
pub sound : (t n i : List ℕ) → reading t ≡ lists n i → Rest t n i
unfolding reading fresh
sound t n i e =
    let r = sound_from t fresh n i e in
    subst (λ l. Rest t l i) (sym r.names) (subst (λ l. Rest t r.x l) (sym r.identifiers) r.after)
