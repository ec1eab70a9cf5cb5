-- `roll_call`: what the nodes around the ring leave in the output. Assumes nothing.
use mathlib.Core.Path.{◌≡◌, ◌∙◌, ap}
use Rattle.std.specs.Prelude.{refl}
use Rattle.std.proofs.lemmas.Result.{err_from_is_err_and}
use Rattle.protocol.specs.Calls.{Rolled, numbered}
use Rattle.queries.specs.Rolls.{handed, fits, short}
use Rattle.queries.proofs.rolls.roll_call.Goals as goal

-- an equation, and the same by numbers
both_ways : {r s : Rolled} → r ≡ s → (r ≡ s) × (numbered r.output r.outcome ≡ numbered s.output s.outcome)
both_ways e = (e, ap (λ z. numbered z.output z.outcome) e)

pub returns-in_err-roll : goal.returns-in_err-roll
unfolding handed
returns-in_err-roll c =
    let refused = err_from_is_err_and c.from_residual.result c.from_residual.ensures.1 in
    both_ways (c.in_err-roll.ensures c.args.output.now ∙ rw (refused.1, refused.2) refl)

pub returns-then-output-nodes : goal.returns-then-output-nodes
unfolding handed
returns-then-output-nodes c =
    let out = c.args.output.now in
    both_ways (c.in_ok-roll.ensures out ∙ rw (← c.as_slice-nodes.ensures.value) (short out c.as_slice-nodes.result.now c.if-output-nodes.true))

pub returns : goal.returns
unfolding handed
returns c =
    let out = c.args.output.now in
    both_ways (c.in_ok-roll.ensures out
    ∙ rw (← c.as_slice-nodes.ensures.value, c.copy_from_slice.ensures.after) (fits out c.as_slice-nodes.result.now c.if-output-nodes.false))
