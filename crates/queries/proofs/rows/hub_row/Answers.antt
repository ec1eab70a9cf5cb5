-- `hub_row`: a refusal by questions 1 and 2 hands out nothing. Assumes nothing.
use mathlib.Core.Path.{sym, ◌∙◌}
use Rattle.std.specs.Prelude.{[]}
use Rattle.wellformed.specs.Questions.{refused_so, passed_so}
use Rattle.protocol.specs.Calls.{row_call}
use Rattle.queries.proofs.rows.hub_row.Goals as goal

pub returns-in-Err : goal.returns-in-Err
unfolding row_call
returns-in-Err c = sym (refused_so c.args.w.now (λ k. []) _ _ (sym c.in-Err.is ∙ c.questions.ensures))

pub row_part-requires : goal.row_part-requires
row_part-requires c = passed_so c.args.w.now (sym c.in-Ok.is ∙ c.questions.ensures)
