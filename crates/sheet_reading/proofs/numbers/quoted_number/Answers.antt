-- `quoted_number`: digits, and a quote. Assumes nothing.
use mathlib.Core.Path.{sym, ◌∙◌, subst}
use native.Mathlib.Omega.{arith}
use borrow.Author.Tests.{ltb-false}
use Rattle.sheets.specs.declared.Place.TheVariants.{NumberOpened}
use Rattle.sheet_reading.specs.Runs.{looked_up}
use Rattle.sheet_reading.specs.Judged.{NumberIs, quoted_number_read, quoted_number_empty, quoted_number_ends, quoted_number_stops}
use Rattle.sheet_reading.proofs.numbers.quoted_number.Goals as goal

pub returns-then-d-from : goal.returns-then-d-from
returns-then-d-from c = quoted_number_empty c.args.text.now c.args.from c.digits-d.result.end c.digits-d.result.value c.digits-d.ensures c.if-d-from.true

pub returns-in_err-get : goal.returns-in_err-get
returns-in_err-get c =
    let d = c.digits-d in
    let f = d.ensures.digits.from in
    let w = d.ensures.digits.within in
    let l = ltb-false _ _ (sym c.in_err-get.ensures.lookup.0) in
    subst (NumberIs c.args.text.now NumberOpened c.args.from) (sym c.from_residual.ensures) (quoted_number_ends c.args.text.now c.args.from d.result.end d.result.value d.ensures (omega arith) (omega arith))

pub returns-then-branch-ne-QUOTE : goal.returns-then-branch-ne-QUOTE
returns-then-branch-ne-QUOTE c =
    let d = c.digits-d in
    let f = d.ensures.digits.from in
    let g = looked_up _ _ _ c.in_ok-get.ensures.lookup.0 c.in_ok-get.ensures.lookup.1 in
    quoted_number_stops c.args.text.now c.args.from d.result.end d.result.value d.ensures (omega arith) g.0 (λ e. c.if-branch-ne-QUOTE.true (g.1 ∙ e))

pub returns : goal.returns
returns c =
    let d = c.digits-d in
    let f = d.ensures.digits.from in
    let g = looked_up _ _ _ c.in_ok-get.ensures.lookup.0 c.in_ok-get.ensures.lookup.1 in
    quoted_number_read c.args.text.now c.args.from d.result.end d.result.value d.ensures (omega arith) g.0 (sym g.1 ∙ c.if-branch-ne-QUOTE.false)
