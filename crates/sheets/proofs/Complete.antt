-- The reader reads every sheet of the grammar, and says its rows. Assumes nothing.
use Rattle.std.specs.Prelude.{◌≡◌, refl, ◌⊎◌, Bool, true, false, ℕ, ◌+◌, ◌-◌, ◌*◌, ◌≤◌, nat_eq, length}
use Rattle.std.proofs.Math.Path.{ap}
use Rattle.std.proofs.Common.{ap₂, sym, ◌∙◌, inl, inr, arith, eqb→eq}
use mathlib.Core.List.{List, [], ◌∷◌, ◌++◌, append_assoc, append-nil}
use Rattle.lists.specs.Basics.{when◌then◌else◌, every}
use Rattle.lists.specs.Tests.{true_T}
use Rattle.sheets.specs.Grammar.{Row, quote, comma, cr, lf, bare, non_zero, is_digit, doubled, worth, Field, plain, quoted, RowText, row, Sheet, empty, last, more}
use Rattle.sheets.specs.Reader
use Rattle.sheets.specs.declared.Place.{Place}
use Rattle.sheets.specs.declared.Place.TheVariants.{Start, Plain, Opened, Quoted, Closed, Number, Digits, NumberOpened, NumberQuoted, NumberClosed, Return}
use Rattle.sheets.specs.Reader.{Reader, next, effect, said, told, valued, moved, fed, run, fresh, standing, lists, ending, ended_as, ended, reading}
use Rattle.sheets.specs.Rows.{names_of, identifiers_of}
use Rattle.sheets.specs.Bytes.{every_head, every_tail, not_zero, bare_quote, bare_comma, digit_quote}

pub run_append : (m : Reader) (s t : List ℕ) → run m (s ++ t) ≡ run (run m s) t
unfolding run
run_append m [] t = refl
run_append m (b ∷ s) t = run_append (fed m b) s t

-- one byte: where it leads to, and what it says there
module _ (p : Place) (n i t : List ℕ) (v b : ℕ) where
  pub to_place : (q : Place) → next p b ≡ q → run (standing p n i v) (b ∷ t) ≡ run (moved (standing p n i v) q b) t
  unfolding run fed
  to_place q e = ap (λ z. run (moved (standing p n i v) z b) t) e

  pub to_opened : next p b ≡ Opened → run (standing p n i v) (b ∷ t) ≡ run (standing Opened n i v) t
  unfolding moved effect said told valued
  to_opened e = to_place Opened e ∙ simp append-nil

  pub to_closed : next p b ≡ Closed → run (standing p n i v) (b ∷ t) ≡ run (standing Closed n i v) t
  unfolding moved effect said told valued
  to_closed e = to_place Closed e ∙ simp append-nil

  pub to_numberopened : next p b ≡ NumberOpened → run (standing p n i v) (b ∷ t) ≡ run (standing NumberOpened n i v) t
  unfolding moved effect said told valued
  to_numberopened e = to_place NumberOpened e ∙ simp append-nil

  pub to_numberclosed : next p b ≡ NumberClosed → run (standing p n i v) (b ∷ t) ≡ run (standing NumberClosed n i v) t
  unfolding moved effect said told valued
  to_numberclosed e = to_place NumberClosed e ∙ simp append-nil

  pub to_start : next p b ≡ Start → run (standing p n i v) (b ∷ t) ≡ run (standing Start n i v) t
  unfolding moved effect said told valued
  to_start e = to_place Start e ∙ simp append-nil

  pub to_plain : next p b ≡ Plain → run (standing p n i v) (b ∷ t) ≡ run (standing Plain (n ++ (b ∷ [])) i v) t
  unfolding moved effect said told valued
  to_plain e = to_place Plain e ∙ simp append-nil

  pub to_quoted : next p b ≡ Quoted → run (standing p n i v) (b ∷ t) ≡ run (standing Quoted (n ++ (b ∷ [])) i v) t
  unfolding moved effect said told valued
  to_quoted e = to_place Quoted e ∙ simp append-nil

  pub to_number : next p b ≡ Number → run (standing p n i v) (b ∷ t) ≡ run (standing Number (n ++ (0 ∷ [])) i 0) t
  unfolding moved effect said told valued
  to_number e = to_place Number e ∙ simp append-nil

  pub to_digits : next p b ≡ Digits → run (standing p n i v) (b ∷ t) ≡ run (standing Digits n i (10 * v + (b - 48))) t
  unfolding moved effect said told valued
  to_digits e = to_place Digits e ∙ simp append-nil

  pub to_numberquoted : next p b ≡ NumberQuoted → run (standing p n i v) (b ∷ t) ≡ run (standing NumberQuoted n i (10 * v + (b - 48))) t
  unfolding moved effect said told valued
  to_numberquoted e = to_place NumberQuoted e ∙ simp append-nil

  pub to_return : next p b ≡ Return → run (standing p n i v) (b ∷ t) ≡ run (standing Return n (i ++ (v ∷ [])) v) t
  unfolding moved effect said told valued
  to_return e = to_place Return e ∙ simp append-nil

-- where the bytes of a field lead to
plain_next : (b : ℕ) → bare b ≡ true → non_zero b ≡ true → Reader.unquoted b ≡ Plain
unfolding Reader.unquoted when◌then◌else◌
plain_next b e z = rw (bare_comma b e, not_zero b z, e)

start_next : (b : ℕ) → bare b ≡ true → non_zero b ≡ true → next Start b ≡ Plain
unfolding next when◌then◌else◌
start_next b e z = rw (bare_quote b e) (plain_next b e z)

pub in_next : (b : ℕ) → bare b ≡ true → non_zero b ≡ true → next Plain b ≡ Plain
unfolding next
in_next b e z = plain_next b e z

pub quoted_next : (b : ℕ) → nat_eq b quote ≡ false → non_zero b ≡ true → next Quoted b ≡ Quoted
unfolding next Reader.quoted when◌then◌else◌
quoted_next b e z = rw (e, not_zero b z)

pub number_next : (b : ℕ) → is_digit b ≡ true → next Number b ≡ Digits
unfolding next Reader.number when◌then◌else◌
number_next b e = rw (digit_quote b e, e)

pub digits_next : (b : ℕ) → is_digit b ≡ true → next Digits b ≡ Digits
unfolding next Reader.digits when◌then◌else◌
digits_next b e = rw e

pub opened_next : (b : ℕ) → is_digit b ≡ true → next NumberOpened b ≡ NumberQuoted
unfolding next when◌then◌else◌
opened_next b e = rw e

pub number_quoted_next : (b : ℕ) → is_digit b ≡ true → next NumberQuoted b ≡ NumberQuoted
unfolding next Reader.number_quoted when◌then◌else◌
number_quoted_next b e = rw (digit_quote b e, e)

-- the bytes that a sheet tells apart
pub marks : (next Start quote ≡ Opened) × (next Start comma ≡ Number) × (next Plain comma ≡ Number) × (next Quoted quote ≡ Closed) × (next Closed quote ≡ Quoted) × (next Closed comma ≡ Number)
unfolding next Reader.unquoted Reader.quoted Reader.closed when◌then◌else◌
marks = (refl, refl, refl, refl, refl, refl)

pub number_marks : (next Number quote ≡ NumberOpened) × (next NumberQuoted quote ≡ NumberClosed) × (next Digits cr ≡ Return) × (next NumberClosed cr ≡ Return) × (next Return lf ≡ Start)
unfolding next Reader.number Reader.number_quoted Reader.digits Reader.row_end is_digit when◌then◌else◌
number_marks = (refl, refl, refl, refl, refl)

-- an unquoted name, and the comma behind it
plain_run : (s n i t : List ℕ) (v : ℕ) → every bare s ≡ true → every non_zero s ≡ true
    → run (standing Plain n i v) (s ++ (comma ∷ t)) ≡ run (standing Number (n ++ (s ++ (0 ∷ []))) i 0) t
plain_run [] n i t v e z = to_number Plain n i t v comma marks.2
plain_run (b ∷ s) n i t v e z =
    to_plain Plain n i (s ++ (comma ∷ t)) v b (in_next b (every_head bare b s e) (every_head non_zero b s z))
    ∙ plain_run s (n ++ (b ∷ [])) i t v (every_tail bare b s e) (every_tail non_zero b s z)
    ∙ ap (λ l. run (standing Number l i 0) t) (append_assoc n (b ∷ []) (s ++ (0 ∷ [])))

-- a quoted name, from behind its first quote on
quoted_run : (s n i t : List ℕ) (v : ℕ) → every non_zero s ≡ true
    → run (standing Quoted n i v) (doubled s ++ (quote ∷ comma ∷ t)) ≡ run (standing Number (n ++ (s ++ (0 ∷ []))) i 0) t
unfolding doubled when◌then◌else◌
quoted_run [] n i t v z = to_closed Quoted n i (comma ∷ t) v quote marks.3 ∙ to_number Closed n i t v comma marks.5
quoted_run (b ∷ s) n i t v z = go (nat_eq b quote) refl (quoted_run s (n ++ (b ∷ [])) i t v (every_tail non_zero b s z))
  where
    rest : List ℕ
    rest = doubled s ++ (quote ∷ comma ∷ t)

    go : (a : Bool) → nat_eq b quote ≡ a
        → run (standing Quoted (n ++ (b ∷ [])) i v) rest ≡ run (standing Number ((n ++ (b ∷ [])) ++ (s ++ (0 ∷ []))) i 0) t
        → run (standing Quoted n i v) ((when a then quote ∷ quote ∷ doubled s else b ∷ doubled s) ++ (quote ∷ comma ∷ t))
        ≡ run (standing Number (n ++ ((b ∷ s) ++ (0 ∷ []))) i 0) t
    go true q ih =
        to_closed Quoted n i (quote ∷ rest) v quote marks.3
        ∙ to_quoted Closed n i rest v quote marks.4
        ∙ ap (λ k. run (standing Quoted (n ++ (k ∷ [])) i v) rest) (sym (eqb→eq b quote (true_T _ q)))
        ∙ ih
        ∙ ap (λ l. run (standing Number l i 0) t) (append_assoc n (b ∷ []) (s ++ (0 ∷ [])))
    go false q ih =
        to_quoted Quoted n i rest v b (quoted_next b q (every_head non_zero b s z))
        ∙ ih
        ∙ ap (λ l. run (standing Number l i 0) t) (append_assoc n (b ∷ []) (s ++ (0 ∷ [])))

-- behind the first quote the reader goes on as behind any byte of the name
pub opened_run : (n i t : List ℕ) (v b : ℕ) → run (standing Opened n i v) (b ∷ t) ≡ run (standing Quoted n i v) (b ∷ t)
unfolding run fed moved next
opened_run n i t v b = refl

opened_name : (s n i t : List ℕ) (v : ℕ) → run (standing Opened n i v) (doubled s ++ (quote ∷ comma ∷ t)) ≡ run (standing Quoted n i v) (doubled s ++ (quote ∷ comma ∷ t))
unfolding doubled when◌then◌else◌
opened_name [] n i t v = opened_run n i (comma ∷ t) v quote
opened_name (b ∷ s) n i t v = go (nat_eq b quote)
  where
    go : (a : Bool) → run (standing Opened n i v) ((when a then quote ∷ quote ∷ doubled s else b ∷ doubled s) ++ (quote ∷ comma ∷ t))
        ≡ run (standing Quoted n i v) ((when a then quote ∷ quote ∷ doubled s else b ∷ doubled s) ++ (quote ∷ comma ∷ t))
    go true = opened_run n i (quote ∷ (doubled s ++ (quote ∷ comma ∷ t))) v quote
    go false = opened_run n i (doubled s ++ (quote ∷ comma ∷ t)) v b

name_run : {f s : List ℕ} → Field f s → (n i t : List ℕ) (v : ℕ) → every non_zero s ≡ true
    → run (standing Start n i v) (f ++ (comma ∷ t)) ≡ run (standing Number (n ++ (s ++ (0 ∷ []))) i 0) t
name_run (plain {s} e) n i t v z = go s e z
  where
    go : (s : List ℕ) → every bare s ≡ true → every non_zero s ≡ true → run (standing Start n i v) (s ++ (comma ∷ t)) ≡ run (standing Number (n ++ (s ++ (0 ∷ []))) i 0) t
    go [] e z = to_number Start n i t v comma marks.1
    go (b ∷ s) e z =
        to_plain Start n i (s ++ (comma ∷ t)) v b (start_next b (every_head bare b s e) (every_head non_zero b s z))
        ∙ plain_run s (n ++ (b ∷ [])) i t v (every_tail bare b s e) (every_tail non_zero b s z)
        ∙ ap (λ l. run (standing Number l i 0) t) (append_assoc n (b ∷ []) (s ++ (0 ∷ [])))
name_run (quoted {s}) n i t v z =
    to_opened Start n i ((doubled s ++ (quote ∷ [])) ++ (comma ∷ t)) v quote marks.0
    ∙ ap (run (standing Opened n i v)) (append_assoc (doubled s) (quote ∷ []) (comma ∷ t))
    ∙ opened_name s n i t v
    ∙ quoted_run s n i t v z

-- a number, and where it leaves the reader
digits_run : (s n i : List ℕ) (v : ℕ) → every is_digit s ≡ true → run (standing Digits n i v) s ≡ standing Digits n i (worth v s)
unfolding worth run
digits_run [] n i v e = refl
digits_run (b ∷ s) n i v e =
    to_digits Digits n i s v b (digits_next b (every_head is_digit b s e))
    ∙ digits_run s n i (10 * v + (b - 48)) (every_tail is_digit b s e)

number_quoted_run : (s n i : List ℕ) (v : ℕ) → every is_digit s ≡ true → run (standing NumberQuoted n i v) (doubled s ++ (quote ∷ [])) ≡ standing NumberClosed n i (worth v s)
unfolding worth doubled run when◌then◌else◌
number_quoted_run [] n i v e = to_numberclosed NumberQuoted n i [] v quote number_marks.1
number_quoted_run (b ∷ s) n i v e =
    rw (digit_quote b (every_head is_digit b s e))
    (to_numberquoted NumberQuoted n i (doubled s ++ (quote ∷ [])) v b (number_quoted_next b (every_head is_digit b s e))
    ∙ number_quoted_run s n i (10 * v + (b - 48)) (every_tail is_digit b s e))

number_run : {g s : List ℕ} → Field g s → (n i : List ℕ) (v : ℕ) → every is_digit s ≡ true → 1 ≤ length s
    → (run (standing Number n i v) g ≡ standing Digits n i (worth v s)) ⊎ (run (standing Number n i v) g ≡ standing NumberClosed n i (worth v s))
unfolding worth doubled when◌then◌else◌
number_run (plain {s} d) n i v e l = inl (go s e l)
  where
    go : (s : List ℕ) → every is_digit s ≡ true → 1 ≤ length s → run (standing Number n i v) s ≡ standing Digits n i (worth v s)
    go [] e l = absurd (omega arith)
    go (b ∷ s) e l =
        to_digits Number n i s v b (number_next b (every_head is_digit b s e))
        ∙ digits_run s n i (10 * v + (b - 48)) (every_tail is_digit b s e)
number_run (quoted {s}) n i v e l = inr (go s e l)
  where
    go : (s : List ℕ) → every is_digit s ≡ true → 1 ≤ length s → run (standing Number n i v) (quote ∷ (doubled s ++ (quote ∷ []))) ≡ standing NumberClosed n i (worth v s)
    go [] e l = absurd (omega arith)
    go (b ∷ s) e l =
        to_numberopened Number n i (doubled (b ∷ s) ++ (quote ∷ [])) v quote number_marks.0
        ∙ rw (digit_quote b (every_head is_digit b s e))
        (to_numberquoted NumberOpened n i (doubled s ++ (quote ∷ [])) v b (opened_next b (every_head is_digit b s e))
        ∙ number_quoted_run s n i (10 * v + (b - 48)) (every_tail is_digit b s e))

-- a row that ends the text, and one that more follow
row_last : {t : List ℕ} {r : Row} → RowText t r → (n i : List ℕ) (v : ℕ)
    → ended (run (standing Start n i v) t) ≡ lists (n ++ (r.name ++ (0 ∷ []))) (i ++ (r.identifier ∷ []))
unfolding ended ended_as ending
row_last (row {f} {g} {name = s} {digits = d} x z y e l) n i v =
    ap ended (name_run x n i g v z)
    ∙ elim (number_run y (n ++ (s ++ (0 ∷ []))) i 0 e l) [ inl q ↦ ap ended q | inr q ↦ ap ended q ]

row_more : {t : List ℕ} {r : Row} → RowText t r → (n i u : List ℕ) (v : ℕ)
    → run (standing Start n i v) (t ++ (cr ∷ lf ∷ u)) ≡ run (standing Start (n ++ (r.name ++ (0 ∷ []))) (i ++ (r.identifier ∷ [])) r.identifier) u
row_more (row {f} {g} {name = s} {digits = d} x z y e l) n i u v =
    ap (run (standing Start n i v)) (append_assoc f (comma ∷ g) (cr ∷ lf ∷ u))
    ∙ name_run x n i (g ++ (cr ∷ lf ∷ u)) v z
    ∙ run_append (standing Number m i 0) g (cr ∷ lf ∷ u)
    ∙ elim (number_run y m i 0 e l) [
      | inl q ↦ ap (λ k. run k (cr ∷ lf ∷ u)) q ∙ to_return Digits m i (lf ∷ u) k cr number_marks.2 ∙ to_start Return m (i ++ (k ∷ [])) u k lf number_marks.4
      | inr q ↦ ap (λ k. run k (cr ∷ lf ∷ u)) q ∙ to_return NumberClosed m i (lf ∷ u) k cr number_marks.3 ∙ to_start Return m (i ++ (k ∷ [])) u k lf number_marks.4
    ]
  where
    m : List ℕ
    m = n ++ (s ++ (0 ∷ []))

    k : ℕ
    k = worth 0 d

complete_from : {t : List ℕ} {rs : List Row} → Sheet t rs → (n i : List ℕ) (v : ℕ)
    → ended (run (standing Start n i v) t) ≡ lists (n ++ names_of rs) (i ++ identifiers_of rs)
unfolding ended ended_as ending run names_of identifiers_of
complete_from empty n i v = simp append-nil
complete_from (last x) n i v = row_last x n i v
complete_from (more {t} {u} {r} {rs} x y) n i v =
    ap ended (row_more x n i u v)
    ∙ complete_from y (n ++ (r.name ++ (0 ∷ []))) (i ++ (r.identifier ∷ [])) r.identifier
    ∙ ap₂ lists (append_assoc n (r.name ++ (0 ∷ [])) (names_of rs) ∙ ap (λ l. n ++ l) (append_assoc r.name (0 ∷ []) (names_of rs))) (append_assoc i (r.identifier ∷ []) (identifiers_of rs))

-- Every sheet is read, and its rows are said.
pub complete : {t : List ℕ} {rs : List Row} → Sheet t rs → reading t ≡ lists (names_of rs) (identifiers_of rs)
unfolding reading fresh
complete s = complete_from s [] [] 0
