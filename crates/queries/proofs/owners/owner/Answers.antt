-- `owner`: a refusal by questions 1 and 2, or what the search for a holder says. Assumes nothing.
use Rattle.std.specs.Prelude.{Err}
use Rattle.std.proofs.Common.{ap, sym, ◌∙◌}
use Rattle.std.proofs.lemmas.Result.{err_from_is_err_and}
use Rattle.wellformed.specs.Questions.{refused_so, passed_so}
use Rattle.protocol.specs.Calls.{owner_call}
use Rattle.queries.specs.Questions.{owner_found}
use Rattle.queries.proofs.owners.owner.Goals as goal

pub returns-in_err-questions : goal.returns-in_err-questions
unfolding owner_call
returns-in_err-questions c =
    let refused = err_from_is_err_and c.from_residual.result c.from_residual.ensures.1 in
    refused.1 ∙ ap Err refused.2 ∙ sym (refused_so c.args.w.now Err _ _ c.in_err-questions.ensures)

pub first_holder-requires : goal.first_holder-requires
first_holder-requires c = passed_so c.args.w.now c.in_ok-questions.ensures

pub returns : goal.returns
returns c =
    let a = c.args in
    let w = a.w.now in
    c.ok_or.ensures.value ∙ sym (owner_found w a.number (passed_so w c.in_ok-questions.ensures) c.first_holder.result c.first_holder.ensures)
