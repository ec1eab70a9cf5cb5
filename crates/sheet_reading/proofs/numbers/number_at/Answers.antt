-- `number_at`: a quoted number, or digits. Assumes nothing.
use mathlib.Core.Path.{sym, ◌∙◌, subst}
use native.Mathlib.Omega.{arith}
use borrow.Author.Tests.{ltb-false}
use Rattle.sheets.specs.declared.Place.TheVariants.{Number}
use Rattle.sheet_reading.specs.Runs.{looked_up}
use Rattle.sheet_reading.specs.Judged.{NumberIs, number_ends, number_opened, number_none, number_read}
use Rattle.sheet_reading.proofs.numbers.number_at.Goals as goal

pub returns-in_err-get : goal.returns-in_err-get
returns-in_err-get c =
    let l = ltb-false _ _ (sym c.in_err-get.ensures.lookup.0) in
    subst (NumberIs c.args.text.now Number c.args.from) (sym c.from_residual.ensures) (number_ends c.args.text.now c.args.from (omega arith))

pub returns-then-branch-eq-QUOTE : goal.returns-then-branch-eq-QUOTE
returns-then-branch-eq-QUOTE c =
    let g = looked_up _ _ _ c.in_ok-get.ensures.lookup.0 c.in_ok-get.ensures.lookup.1 in
    number_opened c.args.text.now c.args.from g.0 (sym g.1 ∙ c.if-branch-eq-QUOTE.true) c.quoted_number.result c.quoted_number.ensures

pub returns-then-d-from : goal.returns-then-d-from
returns-then-d-from c =
    let d = c.digits-d in
    let g = looked_up _ _ _ c.in_ok-get.ensures.lookup.0 c.in_ok-get.ensures.lookup.1 in
    number_none c.args.text.now c.args.from d.result.end d.result.value d.ensures g.0 (λ e. c.if-branch-eq-QUOTE.false (g.1 ∙ e)) c.if-d-from.true

pub returns : goal.returns
returns c = let f = c.digits-d.ensures.digits.from in number_read c.args.text.now c.args.from c.digits-d.result.end c.digits-d.result.value c.digits-d.ensures (omega arith)
