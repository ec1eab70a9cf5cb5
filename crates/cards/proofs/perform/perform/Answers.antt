-- `perform`: the step on the record, then its answer. Assumes nothing.
use Rattle.std.proofs.Common.{sym, ◌∙◌, ap, arith}
use Rattle.std.specs.Prelude.{Err, length}
use Rattle.std.proofs.lemmas.Result.{err_from_is_err_and}
use Rattle.protocol.specs.Record.{most_nodes, read}
use Rattle.protocol.specs.Step.{step}
use Rattle.protocol.specs.WellFormed.{identifiers}
use Rattle.protocol.specs.Cards.{after_call}
use Rattle.cards.specs.Movers.{bound_more}
use Rattle.cards.specs.Asked.{came_back, answer_bound, after_law, refused_kept}
use Rattle.cards.proofs.perform.perform.Goals as goal

pub follow-requires : goal.follow-requires
follow-requires c = let a = c.args in
    let w = a.w.now in
    let u = c.run in
    (c.requires.1.neat, omega (arith, u.auto.w, c.requires.0.long), bound_more (length (identifiers (read w))) most_nodes c.in_ok-a.a c.requires.1.few (answer_bound w _ a.operation a.x a.y u.result c.in_ok-a.a c.requires.0 u.ensures c.in_ok-a.was))

pub returns-in_err-a : goal.returns-in_err-a
unfolding after_call
returns-in_err-a c = let a = c.args in
    let w = a.w.now in
    let u = c.run in
    let g = c.in_err-a.was in
    let number = c.in_err-a.field-0.0 in
    let refusal = err_from_is_err_and c.from_residual.result c.from_residual.ensures.1 in
    after_law w a.k.now _ a.operation a.x a.y u.result _ c.requires.0 u.ensures
    (ap (after_call w a.k.now _) g
    ∙ ap (λ z. record { outcome = Err number; slice = z; cards = a.k.now }) (sym (refused_kept w _ u.result number (step (read w) a.operation a.x a.y) u.ensures g))
    ∙ ap (λ o. record { outcome = o; slice = u.new.w; cards = a.k.now }) (sym (refusal.1 ∙ ap Err refusal.2)))

pub returns : goal.returns
unfolding after_call
returns c = let a = c.args in
    let w = a.w.now in
    let u = c.run in
    let g = c.in_ok-a.was in
    after_law w a.k.now _ a.operation a.x a.y u.result _ c.requires.0 u.ensures
    (ap (after_call w a.k.now _) g ∙ c.follow.ensures w
    (came_back w _ _ u.result (step (read w) a.operation a.x a.y) c.requires.0.long u.auto.w u.ensures c.copy_from_slice.ensures.after)
    c.requires.1 (answer_bound w _ a.operation a.x a.y u.result c.in_ok-a.a c.requires.0 u.ensures g))
