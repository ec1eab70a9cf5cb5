-- `step`: the questions of both slices, then `perform`. Assumes nothing.
use Rattle.std.proofs.Common.{sym, ◌∙◌, ap}
use Rattle.std.specs.Prelude.{Err}
use Rattle.std.proofs.lemmas.Result.{err_from_is_err_and}
use Rattle.protocol.specs.Calls.{step_call}
use Rattle.protocol.specs.Cards.{after_call, step_cards}
use Rattle.cards.proofs.perform.step.Goals as goal

pub returns-in_err-names : goal.returns-in_err-names
unfolding step_cards
returns-in_err-names c = let a = c.args in
    let s = step_call a.w.now a.operation a.x a.y in
    let refusal = err_from_is_err_and c.from_residual.result c.from_residual.ensures.1 in
    c.in_err-names.ensures (after_call a.w.now a.k.now s.slice s.outcome)
    ∙ ap (λ o. record { outcome = o; slice = a.w.now; cards = a.k.now }) (sym (refusal.1 ∙ ap Err refusal.2))

pub perform-requires : goal.perform-requires
perform-requires c = (c.in_ok-names.ensures.0, c.in_ok-names.ensures.1)

pub returns : goal.returns
unfolding step_cards
returns c = let a = c.args in
    let s = step_call a.w.now a.operation a.x a.y in
    c.in_ok-names.ensures.2 (after_call a.w.now a.k.now s.slice s.outcome) ∙ c.perform.ensures
