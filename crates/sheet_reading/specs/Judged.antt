-- What the functions that judge a sheet find at a place of the text, and why: a name, a number, the end of a row, a row. Assumes nothing.
use Rattle.std.specs.Prelude.{◌≡◌, ◌≢◌, Option, Some, None, Result, Ok, Err, Bool, ℕ, ◌+◌, ◌-◌, ◌≤◌, ◌<◌, get_or}
use Rattle.std.proofs.Math.Path.{refl, ap, sym}
use Rattle.std.proofs.Common.{◌∙◌, subst, length-append}
use Rattle.std.proofs.Math.Bool.{true, false}
use mathlib.Core.List.{List, [], ◌∷◌, ◌++◌, append_assoc}
use native.Mathlib.Omega.{arith}
use borrow.Author.Tests.{ltb-true, ltb-false, eqb-true, eqb-false}
use Rattle.std.proofs.Common.{nat_lt, nat_eq}
use Rattle.std.proofs.Math.ListN.{length}
use Rattle.std.specs.Option.{is_some}
use Rattle.std.specs.Result.{OkIff, result_ok}
use Rattle.std.proofs.lemmas.Bool.{le-leb, lt-leb}
use Rattle.lists.specs.Basics.{when◌then◌else◌, every}
use Rattle.lists.specs.Merge.{every_append}
use Rattle.sheet_reading.specs.declared.Name.{Name}
use Rattle.sheet_reading.specs.declared.Row.{Row}
use Rattle.sheet_reading.specs.declared.Run.{Run}
use Rattle.sheets.specs.Grammar.{quote, comma, cr, lf, is_digit, worth}
use Rattle.sheet_reading.specs.Kinds.{plain_byte, quoted_byte}
use Rattle.sheets.specs.declared.Place.{Place}
use Rattle.sheets.specs.declared.Place.TheVariants.{Start, Plain, Opened, Quoted, Closed, Number, Digits, NumberOpened, NumberQuoted, NumberClosed, Return}
use Rattle.sheets.specs.Calls.{is_word}
use Rattle.sheets.specs.Reader.{nothing, ending, ended_as}
use Rattle.sheet_reading.specs.Runs.{between, RunTo, length_between, between_none, between_both, run_first, worth_append, worth_ten}
use Rattle.sheet_reading.specs.Nexts
use Rattle.sheet_reading.specs.Onward.{onward, onward_end, onward_wrong, onward_opened, onward_closed, onward_quoted, onward_number, onward_number_opened, onward_number_closed, onward_return, onward_start, onward_as, plain_over, quoted_over, digits_on, number_quoted_on}

-- The identifier that a number is: none where it is too large.
unfoldable pub word_of : ℕ → Option ℕ
word_of v = when is_word v then Some v else None

pub word_small : (v : ℕ) → v ≤ 4294967295 → word_of v ≡ Some v
unfolding word_of is_word when◌then◌else◌
word_small v h = rw (le-leb v 4294967295 h)

pub word_large : (v : ℕ) → 4294967295 < v → word_of v ≡ None
unfolding word_of is_word when◌then◌else◌
word_large v h = rw (lt-leb v 4294967295 h)

-- there is one exactly if the number is a word, and then it is the number
pub word_some : (v : ℕ) → is_some (word_of v) ≡ is_word v
unfolding word_of when◌then◌else◌
word_some v = go (is_word v)
  where
    go : (b : Bool) → is_some (when b then Some v else None) ≡ b
    go true = refl
    go false = refl

pub word_is : (v w : ℕ) → word_of v ≡ Some w → w ≡ v
unfolding word_of when◌then◌else◌
word_is v w e = go (is_word v) e
  where
    go : (b : Bool) → (when b then Some v else None) ≡ Some w → w ≡ v
    go true q = cc
    go false q = absurd (let z : ◌≡◌ {A = ℕ} 0 1 = cc in omega arith)

-- what `u32::try_from` makes of a number
pub word_tried : {E : Type 0} (v : ℕ) (r : Result ℕ E) → OkIff r (v < 4294967296) v → result_ok r ≡ word_of v
word_tried v (Ok w) e = ap (λ z. Some z) e.1 ∙ sym (word_small v (let h = e.0 in omega arith))
word_tried v (Err k) e = sym (word_large v (omega (arith, e)))

-- From this place of the text on, a reader in this state says nothing: no sheet goes on so.
abbrev pub Silent : List ℕ → Place → ℕ → Type 0
Silent t p i = (n c : List ℕ) (v : ℕ) → onward t p n c v i ≡ nothing

-- A name and its comma: what is said from the name on is the name, and what is said from the number on.
pub record NameSaid (t : List ℕ) (p : Place) (i end bytes : ℕ) : Type 0 where
  pub name : List ℕ
  pub size : bytes ≡ length name + 1
  pub ahead : i + bytes ≤ end
  pub within : end ≤ length t
  pub leads : (n c : List ℕ) (v : ℕ) → onward t p n c v i ≡ onward t Number (n ++ (name ++ (0 ∷ []))) c 0 end

unfoldable pub NameIs : List ℕ → Place → ℕ → Option Name → Type 0
NameIs t p i None = Silent t p i
NameIs t p i (Some x) = NameSaid t p i x.end x.bytes

-- A number: the reader behind it stands as behind a quoted one.
pub record NumberSaid (t : List ℕ) (p : Place) (i end : ℕ) (value : Option ℕ) : Type 0 where
  pub number : ℕ
  pub kept : value ≡ word_of number
  pub ahead : i < end
  pub within : end ≤ length t
  pub leads : (n c : List ℕ) → onward t p n c 0 i ≡ onward t NumberClosed n c number end

unfoldable pub NumberIs : List ℕ → Place → ℕ → Option Run → Type 0
NumberIs t p i None = (n c : List ℕ) → onward t p n c 0 i ≡ nothing
NumberIs t p i (Some x) = NumberSaid t p i x.end x.value

-- The end of a row: the number is told, and the next row begins.
pub record EndSaid (t : List ℕ) (i end : ℕ) : Type 0 where
  pub ahead : i ≤ end
  pub within : end ≤ length t
  pub leads : (n c : List ℕ) (v : ℕ) → onward t NumberClosed n c v i ≡ onward t Start n (c ++ (v ∷ [])) v end

unfoldable pub EndIs : List ℕ → ℕ → Option ℕ → Type 0
EndIs t i None = Silent t NumberClosed i
EndIs t i (Some end) = EndSaid t i end

-- What is behind a name: the row's number and its end.
pub record RestSaid (t : List ℕ) (x : Name) (y : Row) : Type 0 where
  pub number : ℕ
  pub size : y.bytes ≡ x.bytes
  pub kept : y.value ≡ word_of number
  pub ahead : x.end < y.end
  pub within : y.end ≤ length t
  pub leads : (n c : List ℕ) → onward t Number n c 0 x.end ≡ onward t Start n (c ++ (number ∷ [])) number y.end

unfoldable pub RestIs : List ℕ → Name → Option Row → Type 0
RestIs t x None = (n c : List ℕ) → onward t Number n c 0 x.end ≡ nothing
RestIs t x (Some y) = RestSaid t x y

-- A row.
pub record RowSaid (t : List ℕ) (i end bytes : ℕ) (value : Option ℕ) : Type 0 where
  pub name : List ℕ
  pub number : ℕ
  pub size : bytes ≡ length name + 1
  pub kept : value ≡ word_of number
  pub ahead : i + bytes < end
  pub within : end ≤ length t
  pub leads : (n c : List ℕ) (v : ℕ) → onward t Start n c v i ≡ onward t Start (n ++ (name ++ (0 ∷ []))) (c ++ (number ∷ [])) number end

unfoldable pub RowIs : List ℕ → ℕ → Option Row → Type 0
RowIs t i None = Silent t Start i
RowIs t i (Some x) = RowSaid t i x.end x.bytes x.value

-- Digits.
pub record DigitsSaid (t : List ℕ) (i end : ℕ) (value : Option ℕ) : Type 0 where
  pub digits : RunTo is_digit t i end
  pub made : value ≡ word_of (worth 0 (between i end t))

abbrev pub RunIs : List ℕ → ℕ → Run → Type 0
RunIs t i r = DigitsSaid t i r.end r.value

module _ (t : List ℕ) where
  -- a number that is followed to its end, and one that has become large
  pub digits_small : (i e v : ℕ) (w : Option ℕ) → RunTo is_digit t i e → v ≡ worth 0 (between i e t) → w ≡ word_of v → DigitsSaid t i e w
  digits_small i e v w r q z = record { digits = r; made = z ∙ ap word_of q }

  pub digits_large : (i j e v : ℕ) (w : Option ℕ) → i ≤ j → every is_digit (between i j t) ≡ true → v ≡ worth 0 (between i j t) → RunTo is_digit t j e → w ≡ word_of (worth v (between j e t)) → DigitsSaid t i e w
  digits_large i j e v w h p q r z =
      let f = r.from in
      let b : between i e t ≡ between i j t ++ between j e t = between_both i j e t h r.from in
      record {
        digits = record {
          from = omega arith;
          within = r.within;
          passed = ap (every is_digit) b ∙ every_append is_digit (between i j t) (between j e t) ∙ rw (p, r.passed);
          stopped = r.stopped;
        };
        made = z ∙ ap (λ x. word_of (worth x (between j e t))) q ∙ ap word_of (sym (ap (worth 0) b ∙ worth_append (between i j t) (between j e t) 0));
      }

  -- of ten figures or more: any figure behind them makes it too large
  pub large_more : (j e v : ℕ) → RunTo is_digit t j e → 999999999 < v → e ≢ j → None ≡ word_of (worth v (between j e t))
  large_more j e v r h k =
      let f = r.from in
      let l = length_between j e t r.from r.within in
      let g = worth_ten (between j e t) v (omega arith) in
      sym (word_large (worth v (between j e t)) (omega arith))

  pub large_none : (j e v : ℕ) → e ≡ j → word_of v ≡ word_of (worth v (between j e t))
  unfolding worth
  large_none j e v q = let z : between j e t ≡ [] = ap (λ x. between j x t) q ∙ between_none j t in sym (ap (λ l. word_of (worth v l)) z)

  -- an unquoted name
  module _ (i e : ℕ) (h : i < length t) (k : get_or t i 0 ≡ quote → ⊥) (r : RunTo plain_byte t i e) where
    plain_name : (n c : List ℕ) (v : ℕ) → onward t Start n c v i ≡ onward t Plain (n ++ between i e t) c v e
    plain_name n c v = onward_as t Start n c v i h Plain (Nexts.start_plain (get_or t i 0) k) ∙ plain_over t i e r.from r.passed n c v

    pub name_read : e < length t → get_or t e 0 ≡ comma → NameIs t Start i (Some (record { end = e + 1; bytes = e + 1 - i }))
    unfolding NameIs
    name_read l q = let f = r.from in record {
      name = between i e t;
      size = let z = length_between i e t r.from r.within in omega arith;
      ahead = omega arith;
      within = omega arith;
      leads = λ n c v. plain_name n c v ∙ onward_number t Plain (n ++ between i e t) c v e l (Nexts.plain_comma (get_or t e 0) q) ∙ ap (λ x. onward t Number x c 0 (e + 1)) (append_assoc n (between i e t) (0 ∷ []));
    }

    pub name_ends : e ≡ length t → NameIs t Start i None
    unfolding NameIs ended_as ending
    name_ends q n c v = plain_name n c v ∙ onward_end t Plain (n ++ between i e t) c v e (omega arith)

    pub name_stops : e < length t → (get_or t e 0 ≡ comma → ⊥) → NameIs t Start i None
    unfolding NameIs
    name_stops l q n c v = plain_name n c v ∙ onward_wrong t Plain (n ++ between i e t) c v e l (Nexts.plain_wrong (get_or t e 0) (r.stopped l) q)

-- Within a quoted name that begins at i: the bytes up to j are this name, of which so many quotes were doubled.
pub record Quoting (t : List ℕ) (i j doubled : ℕ) : Type 0 where
  pub name : List ℕ
  pub size : length name + doubled ≡ j - i
  pub from : i ≤ j
  pub within : j ≤ length t
  pub stopped : j < length t → quoted_byte (get_or t j 0) ≡ false
  pub leads : (n c : List ℕ) (v : ℕ) → onward t Quoted n c v i ≡ onward t Quoted (n ++ name) c v j

module _ (t : List ℕ) where
  pub quoting_first : (i j : ℕ) → RunTo quoted_byte t i j → Quoting t i j 0
  quoting_first i j r = record {
    name = between i j t;
    size = let z = length_between i j t r.from r.within in omega arith;
    from = r.from;
    within = r.within;
    stopped = r.stopped;
    leads = λ n c v. quoted_over t i j r.from r.passed n c v;
  }

  module _ (i j d : ℕ) (q : Quoting t i j d) where
    pub quoting_stops : j < length t → (get_or t j 0 ≡ quote → ⊥) → NameIs t Quoted i None
    unfolding NameIs
    quoting_stops l k n c v = q.leads n c v ∙ onward_wrong t Quoted (n ++ q.name) c v j l (Nexts.quoted_wrong (get_or t j 0) (q.stopped l) k)

    at_quote : j < length t → get_or t j 0 ≡ quote → (n c : List ℕ) (v : ℕ) → onward t Quoted n c v i ≡ onward t Closed (n ++ q.name) c v (j + 1)
    at_quote l e n c v = q.leads n c v ∙ onward_closed t Quoted (n ++ q.name) c v j l (Nexts.quoted_quote (get_or t j 0) e)

    pub quoting_ends : length t ≤ j + 1 → NameIs t Quoted i None
    unfolding NameIs ended_as ending
    quoting_ends h n c v = go (nat_lt j (length t)) refl
      where
        last : j < length t → (b : Bool) → nat_eq (get_or t j 0) quote ≡ b → onward t Quoted n c v i ≡ nothing
        last l true e = at_quote l (eqb-true _ _ e) n c v ∙ onward_end t Closed (n ++ q.name) c v (j + 1) h
        last l false e = quoting_stops l (eqb-false _ _ e) n c v

        go : (b : Bool) → nat_lt j (length t) ≡ b → onward t Quoted n c v i ≡ nothing
        go true e = last (ltb-true _ _ e) (nat_eq (get_or t j 0) quote) refl
        go false e = q.leads n c v ∙ onward_end t Quoted (n ++ q.name) c v j (ltb-false _ _ e)

    module _ (l : j + 1 < length t) (e : get_or t j 0 ≡ quote) where
      pub quoting_read : get_or t (j + 1) 0 ≡ comma → NameIs t Quoted i (Some (record { end = j + 2; bytes = j + 1 - i - d }))
      unfolding NameIs
      quoting_read k = let f = q.from in let s = q.size in record {
        name = q.name;
        size = omega arith;
        ahead = omega arith;
        within = omega arith;
        leads = λ n c v. at_quote (omega arith) e n c v ∙ onward_number t Closed (n ++ q.name) c v (j + 1) l (Nexts.closed_comma (get_or t (j + 1) 0) k)
            ∙ ap (λ x. onward t Number x c 0 (j + 1 + 1)) (append_assoc n q.name (0 ∷ [])) ∙ ap (λ x. onward t Number (n ++ (q.name ++ (0 ∷ []))) c 0 x) (let z : j + 1 + 1 ≡ j + 2 = omega arith in z);
      }

      pub quoting_shut : (get_or t (j + 1) 0 ≡ comma → ⊥) → (get_or t (j + 1) 0 ≡ quote → ⊥) → NameIs t Quoted i None
      unfolding NameIs
      quoting_shut k m n c v = at_quote (omega arith) e n c v ∙ onward_wrong t Closed (n ++ q.name) c v (j + 1) l (Nexts.closed_wrong (get_or t (j + 1) 0) m k)

      pub quoting_more : (k : ℕ) → get_or t (j + 1) 0 ≡ quote → RunTo quoted_byte t (j + 2) k → Quoting t i k (d + 1)
      quoting_more k m r =
          let f = q.from in
          let g = r.from in
          let s = q.size in
          let z = length_between (j + 2) k t r.from r.within in
          let a = length-append q.name (quote ∷ between (j + 2) k t) in
          record {
            name = q.name ++ (quote ∷ between (j + 2) k t);
            size = omega arith;
            from = omega arith;
            within = r.within;
            stopped = r.stopped;
            leads = λ n c v. at_quote (omega arith) e n c v
                ∙ onward_quoted t Closed (n ++ q.name) c v (j + 1) l (Nexts.closed_quote (get_or t (j + 1) 0) m)
                ∙ ap (λ x. onward t Quoted ((n ++ q.name) ++ (x ∷ [])) c v (j + 1 + 1)) m
                ∙ ap (λ x. onward t Quoted ((n ++ q.name) ++ (quote ∷ [])) c v x) (let y : j + 1 + 1 ≡ j + 2 = omega arith in y)
                ∙ quoted_over t (j + 2) k r.from r.passed ((n ++ q.name) ++ (quote ∷ [])) c v
                ∙ ap (λ x. onward t Quoted x c v k) (append_assoc (n ++ q.name) (quote ∷ []) (between (j + 2) k t) ∙ append_assoc n q.name (quote ∷ between (j + 2) k t));
          }

  -- the first quote of a name
  module _ (i : ℕ) (h : i < length t) (e : get_or t i 0 ≡ quote) where
    pub opened_name : (n c : List ℕ) (v : ℕ) → onward t Start n c v i ≡ onward t Quoted n c v (i + 1)
    unfolding ended_as ending
    opened_name n c v = onward_opened t Start n c v i h (Nexts.start_quote (get_or t i 0) e) ∙ go (nat_lt (i + 1) (length t)) refl
      where
        go : (b : Bool) → nat_lt (i + 1) (length t) ≡ b → onward t Opened n c v (i + 1) ≡ onward t Quoted n c v (i + 1)
        go true k = onward_as t Opened n c v (i + 1) (ltb-true _ _ k) Quoted (Nexts.opened_quoted (get_or t (i + 1) 0))
        go false k = onward_end t Opened n c v (i + 1) (ltb-false _ _ k) ∙ sym (onward_end t Quoted n c v (i + 1) (ltb-false _ _ k))

    pub name_opened : (r : Option Name) → NameIs t Quoted (i + 1) r → NameIs t Start i r
    unfolding NameIs
    name_opened None s = λ n c v. opened_name n c v ∙ s n c v
    name_opened (Some x) s = let a = s.ahead in record {
      name = s.name;
      size = s.size;
      ahead = omega arith;
      within = s.within;
      leads = λ n c v. opened_name n c v ∙ s.leads n c v;
    }

  -- a number that is not quoted
  module _ (i e : ℕ) (v : Option ℕ) (r : DigitsSaid t i e v) where
    abbrev digits : RunTo is_digit t i e
    digits = r.digits

    abbrev worthy : ℕ
    worthy = worth 0 (between i e t)

    pub number_read : i < e → NumberIs t Number i (Some (record { end = e; value = v }))
    unfolding NumberIs ended_as ending
    number_read h = let w = digits.within in record {
      number = worthy;
      kept = r.made;
      ahead = h;
      within = w;
      leads = λ n c. onward_as t Number n c 0 i (omega arith) Digits (Nexts.number_digits (get_or t i 0) (run_first is_digit t i e digits h))
          ∙ digits_on t i e digits.from digits.passed n c 0 ∙ go n c (nat_lt e (length t)) refl;
    }
      where
        go : (n c : List ℕ) (b : Bool) → nat_lt e (length t) ≡ b → onward t Digits n c worthy e ≡ onward t NumberClosed n c worthy e
        go n c true k = onward_as t Digits n c worthy e (ltb-true _ _ k) NumberClosed (Nexts.digits_end (get_or t e 0) (digits.stopped (ltb-true _ _ k)))
        go n c false k = onward_end t Digits n c worthy e (ltb-false _ _ k) ∙ sym (onward_end t NumberClosed n c worthy e (ltb-false _ _ k))

    pub number_none : i < length t → (get_or t i 0 ≡ quote → ⊥) → e ≡ i → NumberIs t Number i None
    unfolding NumberIs
    number_none h k q n c = onward_wrong t Number n c 0 i h (Nexts.number_wrong (get_or t i 0) (subst (λ x. is_digit (get_or t x 0) ≡ false) q (digits.stopped (omega arith))) k)

    -- a quoted one, behind its first quote
    within_quotes : i < e → (n c : List ℕ) → onward t NumberOpened n c 0 i ≡ onward t NumberQuoted n c worthy e
    within_quotes h n c =
        let w = digits.within in
        onward_as t NumberOpened n c 0 i (omega arith) NumberQuoted (Nexts.opened_digits (get_or t i 0) (run_first is_digit t i e digits h)) ∙ number_quoted_on t i e digits.from digits.passed n c 0

    pub quoted_number_read : i < e → e < length t → get_or t e 0 ≡ quote → NumberIs t NumberOpened i (Some (record { end = e + 1; value = v }))
    unfolding NumberIs
    quoted_number_read h l k = record {
      number = worthy;
      kept = r.made;
      ahead = omega arith;
      within = omega arith;
      leads = λ n c. within_quotes h n c ∙ onward_number_closed t NumberQuoted n c worthy e l (Nexts.number_quoted_quote (get_or t e 0) k);
    }

    pub quoted_number_empty : e ≡ i → NumberIs t NumberOpened i None
    unfolding NumberIs ended_as ending
    quoted_number_empty q n c = go (nat_lt i (length t)) refl
      where
        go : (b : Bool) → nat_lt i (length t) ≡ b → onward t NumberOpened n c 0 i ≡ nothing
        go true k = let z = ltb-true _ _ k in onward_wrong t NumberOpened n c 0 i z (Nexts.opened_wrong (get_or t i 0) (subst (λ x. is_digit (get_or t x 0) ≡ false) q (digits.stopped (omega arith))))
        go false k = onward_end t NumberOpened n c 0 i (ltb-false _ _ k)

    pub quoted_number_ends : i < e → e ≡ length t → NumberIs t NumberOpened i None
    unfolding NumberIs ended_as ending
    quoted_number_ends h q n c = within_quotes h n c ∙ onward_end t NumberQuoted n c worthy e (omega arith)

    pub quoted_number_stops : i < e → e < length t → (get_or t e 0 ≡ quote → ⊥) → NumberIs t NumberOpened i None
    unfolding NumberIs
    quoted_number_stops h l k n c = within_quotes h n c ∙ onward_wrong t NumberQuoted n c worthy e l (Nexts.number_quoted_wrong (get_or t e 0) (digits.stopped l) k)

  pub number_ends : (i : ℕ) → i ≡ length t → NumberIs t Number i None
  unfolding NumberIs ended_as ending
  number_ends i q n c = onward_end t Number n c 0 i (omega arith)

  pub number_opened : (i : ℕ) → i < length t → get_or t i 0 ≡ quote → (r : Option Run) → NumberIs t NumberOpened (i + 1) r → NumberIs t Number i r
  unfolding NumberIs
  number_opened i h e None s = λ n c. onward_number_opened t Number n c 0 i h (Nexts.number_quote (get_or t i 0) e) ∙ s n c
  number_opened i h e (Some x) s = let a = s.ahead in record {
    number = s.number;
    kept = s.kept;
    ahead = omega arith;
    within = s.within;
    leads = λ n c. onward_number_opened t Number n c 0 i h (Nexts.number_quote (get_or t i 0) e) ∙ s.leads n c;
  }

  -- the end of a row
  pub end_text : (i : ℕ) → i ≡ length t → EndIs t i (Some i)
  unfolding EndIs ended_as ending
  end_text i q = record {
    ahead = omega arith;
    within = omega arith;
    leads = λ n c v. onward_end t NumberClosed n c v i (omega arith) ∙ sym (onward_end t Start n (c ++ (v ∷ [])) v i (omega arith));
  }

  pub end_stops : (i : ℕ) → i < length t → (get_or t i 0 ≡ cr → ⊥) → EndIs t i None
  unfolding EndIs
  end_stops i h k n c v = onward_wrong t NumberClosed n c v i h (Nexts.number_closed_wrong (get_or t i 0) k)

  module _ (i : ℕ) (h : i < length t) (e : get_or t i 0 ≡ cr) where
    at_cr : (n c : List ℕ) (v : ℕ) → onward t NumberClosed n c v i ≡ onward t Return n (c ++ (v ∷ [])) v (i + 1)
    at_cr n c v = onward_return t NumberClosed n c v i h (Nexts.number_closed_cr (get_or t i 0) e)

    pub end_cut : i + 1 ≡ length t → EndIs t i None
    unfolding EndIs ended_as ending
    end_cut q n c v = at_cr n c v ∙ onward_end t Return n (c ++ (v ∷ [])) v (i + 1) (omega arith)

    pub end_bare : i + 1 < length t → (get_or t (i + 1) 0 ≡ lf → ⊥) → EndIs t i None
    unfolding EndIs
    end_bare l k n c v = at_cr n c v ∙ onward_wrong t Return n (c ++ (v ∷ [])) v (i + 1) l (Nexts.return_wrong (get_or t (i + 1) 0) k)

    pub end_row : i + 1 < length t → get_or t (i + 1) 0 ≡ lf → EndIs t i (Some (i + 2))
    unfolding EndIs
    end_row l k = record {
      ahead = omega arith;
      within = omega arith;
      leads = λ n c v. at_cr n c v ∙ onward_start t Return n (c ++ (v ∷ [])) v (i + 1) l (Nexts.return_lf (get_or t (i + 1) 0) k)
          ∙ ap (λ x. onward t Start n (c ++ (v ∷ [])) v x) (let z : i + 1 + 1 ≡ i + 2 = omega arith in z);
    }

  -- one byte is left
  pub end_short : (i : ℕ) → i + 1 ≡ length t → EndIs t i None
  end_short i q = go (nat_eq (get_or t i 0) cr) refl
    where
      go : (b : Bool) → nat_eq (get_or t i 0) cr ≡ b → EndIs t i None
      go true e = end_cut i (omega arith) (eqb-true _ _ e) q
      go false e = end_stops i (omega arith) (eqb-false _ _ e)

  -- what is behind a name, of its parts
  module _ (x : Name) where
    pub rest_no_number : NumberIs t Number x.end None → RestIs t x None
    unfolding NumberIs RestIs
    rest_no_number s = s

    module _ (y : Run) (b : NumberIs t Number x.end (Some y)) where
      pub rest_no_end : EndIs t y.end None → RestIs t x None
      unfolding NumberIs EndIs RestIs
      rest_no_end s n c = b.leads n c ∙ s n c b.number

      pub rest_read : (end : ℕ) → EndIs t y.end (Some end) → RestIs t x (Some (record { end = end; bytes = x.bytes; value = y.value }))
      unfolding NumberIs EndIs RestIs
      rest_read end s = let v = b.ahead in let w = s.ahead in record {
        number = b.number;
        size = refl;
        kept = b.kept;
        ahead = omega arith;
        within = s.within;
        leads = λ n c. b.leads n c ∙ s.leads n c b.number;
      }

  -- a row
  module _ (i : ℕ) where
    pub row_no_name : NameIs t Start i None → RowIs t i None
    unfolding NameIs RowIs
    row_no_name s = s

    pub row_read : (x : Name) → NameIs t Start i (Some x) → (r : Option Row) → RestIs t x r → RowIs t i r
    unfolding NameIs RestIs RowIs
    row_read x a None s = λ n c v. a.leads n c v ∙ s (n ++ (a.name ++ (0 ∷ []))) c
    row_read x a (Some y) s = let u = a.ahead in let v = s.ahead in let w = a.size in let z = s.size in record {
      name = a.name;
      number = s.number;
      size = omega arith;
      kept = s.kept;
      ahead = omega arith;
      within = s.within;
      leads = λ n c v. a.leads n c v ∙ s.leads (n ++ (a.name ++ (0 ∷ []))) c;
    }
