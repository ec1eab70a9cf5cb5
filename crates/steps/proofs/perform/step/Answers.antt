-- `step`: a refusal by questions 1 and 2, or `run` on a valid record. Assumes nothing.
use Rattle.std.specs.Prelude.{Err}
use Rattle.std.proofs.Common.{ap, sym, ◌∙◌}
use Rattle.std.proofs.lemmas.Result.{err_from_is_err_and}
use Rattle.layout.specs.Questions.{record_rest}
use Rattle.wellformed.specs.Questions.{refused_so, passed_so}
use Rattle.protocol.specs.Record.{read}
use Rattle.protocol.specs.Step.{step}
use Rattle.protocol.specs.Calls.{step_call, turned_down, written}
use Rattle.steps.proofs.perform.step.Goals as goal

pub returns-in_err-questions : goal.returns-in_err-questions
unfolding step_call
returns-in_err-questions c =
    let w = c.args.w.now in
    let refused = err_from_is_err_and c.from_residual.result c.from_residual.ensures.1 in
    refused_so w (turned_down w) _ _ c.in_err-questions.ensures ∙ ap (λ o. record { outcome = o; slice = w }) (sym (refused.1 ∙ ap Err refused.2))

pub run-requires : goal.run-requires
run-requires c = passed_so c.args.w.now c.in_ok-questions.ensures

pub returns : goal.returns
unfolding step_call
returns c =
    let a = c.args in
    let w = a.w.now in
    let v = passed_so w c.in_ok-questions.ensures in
    record_rest w (turned_down w) (written w (step (read w) a.operation a.x a.y)) v.long v.formed ∙ c.run.ensures
