-- `digits`: all bytes passed are digits, and make the number. Assumes nothing.
use mathlib.Core.Path.{◌≡◌, ap, sym, ◌∙◌, subst}
use mathlib.Core.Bool.{true}
use lib.ListN.{length}
use Rattle.lists.specs.Basics.{every}
use Prim.Native.Nat.{◌+◌, ◌*◌}
use native.Mathlib.Omega.{arith}
use Rattle.sheets.specs.Grammar.{is_digit, worth}
use Rattle.sheet_reading.specs.Runs.{between, RunTo, every_empty, every_between, worth_none, worth_more}
use Rattle.sheet_reading.specs.Judged.{word_tried, digits_small, digits_large}
use Rattle.sheet_reading.proofs.numbers.digits.Goals as goal

pub loop-i-init : goal.loop-i-init
loop-i-init c = (every_empty is_digit c.args.from c.args.text.now, worth_none c.args.from c.args.text.now, omega arith)

pub returns-then-not-is_digit : goal.returns-then-not-is_digit
returns-then-not-is_digit c =
    let l = c.loop-i in
    let a = c.args in
    let g = c.loop-i-test.true in
    let r : RunTo is_digit a.text.now a.from l.i = record { from = l.auto.i; within = omega arith; passed = l.invariant.0; stopped = λ h. sym c.is_digit.ensures ∙ c.if-not-is_digit.true } in
    digits_small a.text.now a.from l.i l.value c.ok.result r l.invariant.1 (c.ok.ensures.value ∙ word_tried l.value c.try_from.result c.try_from.ensures)

pub returns-then-value-gt999999999 : goal.returns-then-value-gt999999999
returns-then-value-gt999999999 c =
    let l = c.loop-i in
    let a = c.args in
    let t = a.text.now in
    let f = l.auto.i in
    let w = worth_more a.from l.i t f (omega arith) in
    let e = l.invariant.1 in
    let d = c.digit_value.ensures.0 in
    let v : 10 * l.value + c.digit_value.result ≡ worth 0 (between a.from (l.i + 1) t) = omega arith in
    digits_large t a.from (l.i + 1) c.large.result.end (10 * l.value + c.digit_value.result) c.large.result.value (omega arith)
    (every_between is_digit a.from l.i t f (omega arith) l.invariant.0 (sym c.is_digit.ensures ∙ c.if-not-is_digit.false))
    v c.large.ensures.0 c.large.ensures.1

pub loop-i-preserved : goal.loop-i-preserved
loop-i-preserved c =
    let l = c.loop-i in
    let a = c.args in
    let t = a.text.now in
    let f = l.auto.i in
    let w = worth_more a.from l.i t f (omega arith) in
    let e = l.invariant.1 in
    let d = c.digit_value.ensures.0 in
    (every_between is_digit a.from l.i t f (omega arith) l.invariant.0 (sym c.is_digit.ensures ∙ c.if-not-is_digit.false), omega arith, omega arith)

pub returns : goal.returns
returns c =
    let l = c.loop-i in
    let a = c.args in
    let e : l.i ≡ length a.text.now = omega arith in
    let r : RunTo is_digit a.text.now a.from (length a.text.now) = record { from = omega arith; within = omega arith; passed = subst (λ j. every is_digit (between a.from j a.text.now) ≡ true) e l.invariant.0; stopped = λ h. absurd (omega arith) } in
    digits_small a.text.now a.from (length a.text.now) l.value c.ok-2.result r (l.invariant.1 ∙ ap (λ j. worth 0 (between a.from j a.text.now)) e) (c.ok-2.ensures.value ∙ word_tried l.value c.try_from-2.result c.try_from-2.ensures)
