-- Where a byte leads to, by what is known of it. Assumes nothing.
use Rattle.std.specs.Prelude.{◌≡◌, Bool, ◌&&◌, ℕ, nat_eq}
use Rattle.std.proofs.Math.Path.{refl}
use Rattle.std.proofs.Common.{ap, sym, ◌∙◌}
use Rattle.std.proofs.Math.Bool.{true, false, not}
use Rattle.std.proofs.Math.Dec.{T}
use borrow.Author.Tests.{ne_eqb}
use Rattle.lists.specs.Basics.{when◌then◌else◌}
use Rattle.lists.specs.Tests.{true_T}
use Rattle.sheets.specs.Grammar.{quote, comma, cr, lf, bare, non_zero, is_digit}
use Rattle.sheet_reading.specs.Kinds.{plain_byte, quoted_byte}
use Rattle.sheets.specs.Reader
use Rattle.sheets.specs.declared.Place.TheVariants.{Start, Plain, Opened, Quoted, Closed, Number, Digits, NumberOpened, NumberQuoted, NumberClosed, Return, Wrong}
use Rattle.sheets.specs.Reader.{next}
use Rattle.sheets.proofs.Complete.{marks, number_marks, number_next, digits_next, opened_next, number_quoted_next}

module _ (b : ℕ) where
  pub start_quote : b ≡ quote → next Start b ≡ Opened
  start_quote e = ap (next Start) e ∙ marks.0

  pub plain_comma : b ≡ comma → next Plain b ≡ Number
  plain_comma e = ap (next Plain) e ∙ marks.2

  pub quoted_quote : b ≡ quote → next Quoted b ≡ Closed
  quoted_quote e = ap (next Quoted) e ∙ marks.3

  pub closed_quote : b ≡ quote → next Closed b ≡ Quoted
  closed_quote e = ap (next Closed) e ∙ marks.4

  pub closed_comma : b ≡ comma → next Closed b ≡ Number
  closed_comma e = ap (next Closed) e ∙ marks.5

  pub number_quote : b ≡ quote → next Number b ≡ NumberOpened
  number_quote e = ap (next Number) e ∙ number_marks.0

  pub number_quoted_quote : b ≡ quote → next NumberQuoted b ≡ NumberClosed
  number_quoted_quote e = ap (next NumberQuoted) e ∙ number_marks.1

  pub number_closed_cr : b ≡ cr → next NumberClosed b ≡ Return
  number_closed_cr e = ap (next NumberClosed) e ∙ number_marks.3

  pub return_lf : b ≡ lf → next Return b ≡ Start
  return_lf e = ap (next Return) e ∙ number_marks.4

  -- before a name that is not quoted the reader stands as within it
  pub start_plain : (b ≡ quote → ⊥) → next Start b ≡ next Plain b
  unfolding next when◌then◌else◌
  start_plain k = rw (ne_eqb b quote k)

  -- before a quoted one as within it
  pub opened_quoted : next Opened b ≡ next Quoted b
  unfolding next
  opened_quoted = refl

  -- a byte that stops a run, and is not what may follow
  pub plain_wrong : plain_byte b ≡ false → (b ≡ comma → ⊥) → next Plain b ≡ Wrong
  unfolding next Reader.unquoted plain_byte non_zero when◌then◌else◌
  plain_wrong e k = rw (ne_eqb b comma k) (go (nat_eq b 0) (bare b) e)
    where
      go : (z y : Bool) → (y && not z) ≡ false → (when z then Wrong else when y then Plain else Wrong) ≡ Wrong
      go true y e = refl
      go false true e = absurd (let f : T false = true_T false (sym e) in f)
      go false false e = refl

  pub quoted_wrong : quoted_byte b ≡ false → (b ≡ quote → ⊥) → next Quoted b ≡ Wrong
  unfolding next Reader.quoted quoted_byte non_zero when◌then◌else◌
  quoted_wrong e k = rw (ne_eqb b quote k) (go (nat_eq b 0) (rw (ne_eqb b quote k) at e))
    where
      go : (z : Bool) → (true && not z) ≡ false → (when z then Wrong else Quoted) ≡ Wrong
      go true e = refl
      go false e = absurd (let f : T false = true_T false (sym e) in f)

  pub closed_wrong : (b ≡ quote → ⊥) → (b ≡ comma → ⊥) → next Closed b ≡ Wrong
  unfolding next Reader.closed when◌then◌else◌
  closed_wrong k l = rw (ne_eqb b quote k, ne_eqb b comma l)

  pub number_wrong : is_digit b ≡ false → (b ≡ quote → ⊥) → next Number b ≡ Wrong
  unfolding next Reader.number when◌then◌else◌
  number_wrong e k = rw (ne_eqb b quote k, e)

  pub opened_wrong : is_digit b ≡ false → next NumberOpened b ≡ Wrong
  unfolding next when◌then◌else◌
  opened_wrong e = rw e

  pub number_quoted_wrong : is_digit b ≡ false → (b ≡ quote → ⊥) → next NumberQuoted b ≡ Wrong
  unfolding next Reader.number_quoted when◌then◌else◌
  number_quoted_wrong e k = rw (ne_eqb b quote k, e)

  pub number_closed_wrong : (b ≡ cr → ⊥) → next NumberClosed b ≡ Wrong
  unfolding next Reader.row_end when◌then◌else◌
  number_closed_wrong k = rw (ne_eqb b cr k)

  pub return_wrong : (b ≡ lf → ⊥) → next Return b ≡ Wrong
  unfolding next when◌then◌else◌
  return_wrong k = rw (ne_eqb b lf k)

  -- a number goes on, or ends as a quoted one does
  pub number_digits : is_digit b ≡ true → next Number b ≡ next Digits b
  number_digits e = number_next b e ∙ sym (digits_next b e)

  pub opened_digits : is_digit b ≡ true → next NumberOpened b ≡ next NumberQuoted b
  opened_digits e = opened_next b e ∙ sym (number_quoted_next b e)

  pub digits_end : is_digit b ≡ false → next Digits b ≡ next NumberClosed b
  unfolding next Reader.digits when◌then◌else◌
  digits_end e = rw e
