-- `grown`: none once the word has no room; ten times the number, and the figure. Assumes nothing.
use Rattle.std.proofs.Common.{◌∙◌, ap, sym, ◌+◌, ◌-◌, ◌*◌, arith}
use Rattle.hubsheet.specs.Held.{grown, fitting_out, fitting_as}
use Rattle.hubsheet.proofs.hubs.grown.Goals as goal

pub returns-in_err-value : goal.returns-in_err-value
unfolding grown
returns-in_err-value c = c.from_residual.ensures ∙ ap (λ o. grown o c.args.b) (sym c.in_err-value.was)

pub returns-in_err-checked_mul : goal.returns-in_err-checked_mul
unfolding grown
returns-in_err-checked_mul c =
    let h = c.in_err-checked_mul.ensures in
    c.from_residual-in_err-checked_mul.ensures ∙ sym (fitting_out (10 * c.in_ok-value.field-0 + (c.args.b - 48)) (omega (arith, c.in_err-checked_mul.ensures))) ∙ ap (λ o. grown o c.args.b) (sym c.in_ok-value.was)

pub returns : goal.returns
unfolding grown
returns c = fitting_as c.checked_add.result _ (10 * c.in_ok-value.field-0 + (c.args.b - 48)) (omega (arith, c.in_ok-checked_mul.ensures)) c.checked_add.ensures ∙ ap (λ o. grown o c.args.b) (sym c.in_ok-value.was)
