-- `ask`: the questions of the call in order; the rest is `ask_each` on a valid record. Assumes nothing.
use Rattle.std.specs.Prelude.{Err}
use Rattle.std.proofs.Common.{ap, sym, ◌∙◌}
use Rattle.std.proofs.lemmas.Result.{err_from_is_err_and}
use native.Mathlib.Omega.{arith}
use Rattle.protocol.specs.Batch.{ask_each, unasked, on_batch, batch_written, batch_call}
use Rattle.wellformed.specs.Questions.{refused_so, passed_so}
use Rattle.batches.specs.Each.{batch_25, batch_26, batch_rest}
use Rattle.batches.proofs.perform.ask.Goals as goal

pub returns-in_err-questions : goal.returns-in_err-questions
unfolding batch_call on_batch
returns-in_err-questions c =
    let w = c.args.w.now in
    let out = c.args.outcomes.now in
    let refused = err_from_is_err_and c.from_residual.result c.from_residual.ensures.1 in
    refused_so w (unasked w out) _ _ c.in_err-questions.ensures ∙ ap (λ o. record { outcome = o; slice = w; output = out }) (sym (refused.1 ∙ ap Err refused.2))

pub returns-then-numbers-gt-MOST_QUESTIONS : goal.returns-then-numbers-gt-MOST_QUESTIONS
unfolding batch_call
returns-then-numbers-gt-MOST_QUESTIONS c =
    let a = c.args in
    let w = a.w.now in
    let numbers = a.numbers.now in
    let out = a.outcomes.now in
    batch_25 w numbers out (unasked w out) (batch_written numbers out (ask_each w a.node numbers)) (passed_so w c.in_ok-questions.ensures) (omega arith)

pub returns-then-outcomes-numbers : goal.returns-then-outcomes-numbers
unfolding batch_call
returns-then-outcomes-numbers c =
    let a = c.args in
    let w = a.w.now in
    let numbers = a.numbers.now in
    let out = a.outcomes.now in
    batch_26 w numbers out (unasked w out) (batch_written numbers out (ask_each w a.node numbers)) (passed_so w c.in_ok-questions.ensures) (omega arith) (omega arith)

pub ask_each-requires : goal.ask_each-requires
ask_each-requires c =
    let w = c.args.w.now in
    (passed_so w c.in_ok-questions.ensures, omega arith)

pub returns : goal.returns
unfolding batch_call
returns c =
    let a = c.args in
    let w = a.w.now in
    let numbers = a.numbers.now in
    let out = a.outcomes.now in
    batch_rest w numbers out (unasked w out) (batch_written numbers out (ask_each w a.node numbers)) (passed_so w c.in_ok-questions.ensures) (omega arith) (omega arith)
    ∙ c.ask_each.ensures
