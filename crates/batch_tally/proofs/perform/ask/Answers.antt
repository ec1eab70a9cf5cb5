-- `ask`: a refused call counts nothing, and of another the places are counted, which say what it asked. Assumes nothing.
use Rattle.std.specs.Prelude.{Err}
use native.Mathlib.Omega.{arith}
use Rattle.std.proofs.Common.{ap, sym, ◌∙◌}
use Rattle.std.proofs.lemmas.Result.{err_from_is_err_and}
use Rattle.batch_tally.specs.Places.{written_places, counted_none, call_counts}
use Rattle.batch_tally.proofs.perform.ask.Goals as goal

pub returns-in_err-answer : goal.returns-in_err-answer
unfolding written_places
returns-in_err-answer c =
    let a = c.args in
    let refused = err_from_is_err_and c.from_residual.result c.from_residual.ensures.1 in
    let asked = c.in_err-answer.ensures in
    let k = call_counts a.w.now a.node a.numbers.now a.outcomes.now _ asked in (
      asked ∙ ap (λ o. record { outcome = o; slice = c.ask.new.w; output = c.ask.new.outcomes }) (sym (refused.1 ∙ ap Err refused.2)),
      counted_none a.t.now c.ask.new.outcomes ∙ k.tally a.t.now,
    )

pub count_each-requires : goal.count_each-requires
unfolding written_places
count_each-requires c =
    let a = c.args in
    omega (arith, (call_counts a.w.now a.node a.numbers.now a.outcomes.now _ c.in_ok-answer.ensures).room)

pub returns : goal.returns
unfolding written_places
returns c =
    let a = c.args in
    let asked = c.in_ok-answer.ensures in
    let k = call_counts a.w.now a.node a.numbers.now a.outcomes.now _ asked in
    (asked, c.count_each.ensures ∙ k.tally a.t.now)
