-- `deliver`: the oldest message of the link is handled and settled. Assumes nothing.
use Rattle.steps.specs.Settle.{settled, settled_without_is}
use Rattle.steps.specs.Questions.{second_node, deliver_4, deliver_9, deliver_handled}
use Rattle.layout.specs.Words.{message_of_read}
use Rattle.protocol.specs.Step.{delivered, conclude}
use Rattle.protocol.specs.Kinds.{handle}
use Rattle.protocol.specs.Record.{read, row, identifier, message, messages_in, without_message}
use Rattle.std.proofs.Common.{arith, ◌-◌}
use Rattle.protocol.specs.Calls.{written}
use mathlib.Core.Path.{◌≡◌, ◌∙◌, ap, sym}
use Rattle.std.specs.Prelude.{Err}
use Rattle.std.proofs.lemmas.Result.{err_from_is_err_and}
use Rattle.steps.proofs.commands.deliver.Goals as goal

pub returns-then-not-nodes : goal.returns-then-not-nodes
unfolding written
returns-then-not-nodes c =
    let a = c.args in
    ap (written a.w.now) (deliver_4 a.w.now a.x a.y (c.if-not-nodes.true))

pub remove-requires : goal.remove-requires
remove-requires c = (c.in-Some.ensures.1, c.requires.waiting, c.requires.long)

pub settle-requires : goal.settle-requires
settle-requires c =
    let a = c.args in
    let v = c.requires in
    let l = second_node a.w.now a.x a.y (c.if-not-nodes.false) in
    (omega (arith, c.in-Some.ensures.1, v.waiting), omega (arith, v.nodes), omega (arith, v.long, c.remove.auto.w))

pub returns-in-Some : goal.returns-in-Some
unfolding delivered
returns-in-Some c =
    let a = c.args in
    let w = a.w.now in
    let j = c.in-Some.j in
    let s = read w in
    let nodes = c.if-not-nodes.false in
    let lj = c.in-Some.ensures.1 in
    let u = c.message_at-u in
    let h = c.row_of-h in
    let p = c.identifier_of-p in
    let g = c.row_of-g in
    let message_is : u.result ≡ message s j = u.ensures ∙ sym (message_of_read w j lj) in
    let handled = c.handle.ensures
    ∙ ap (λ z. handle z h.result g.result u.result) p.ensures
    ∙ ap (λ z. handle (identifier s z.pred) z g.result u.result) h.ensures
    ∙ ap (λ z. handle (identifier s (row s a.y).pred) (row s a.y) z u.result) g.ensures
    ∙ ap (λ z. handle (identifier s (row s a.y).pred) (row s a.y) (row s z.a) z) message_is in
    ap (written w) (deliver_handled w a.x a.y nodes j c.in-Some.ensures.0 lj)
    ∙ ap (λ z. written w (conclude (without_message s j) a.y z)) (sym handled ∙ c.in_ok-d.was)
    ∙ sym (settled_without_is w c.requires j a.y c.in_ok-d.d lj (second_node w a.x a.y nodes))
    ∙ ap (λ z. settled z (messages_in w - 1) a.y c.in_ok-d.d) (sym c.remove.ensures)
    ∙ c.settle.ensures

pub returns-in_err-d : goal.returns-in_err-d
unfolding delivered conclude written
returns-in_err-d c =
    let refusal = err_from_is_err_and c.from_residual.result c.from_residual.ensures.1 in
    let a = c.args in
    let w = a.w.now in
    let j = c.in-Some.j in
    let s = read w in
    let nodes = c.if-not-nodes.false in
    let lj = c.in-Some.ensures.1 in
    let u = c.message_at-u in
    let h = c.row_of-h in
    let p = c.identifier_of-p in
    let g = c.row_of-g in
    let message_is : u.result ≡ message s j = u.ensures ∙ sym (message_of_read w j lj) in
    let handled = c.handle.ensures
    ∙ ap (λ z. handle z h.result g.result u.result) p.ensures
    ∙ ap (λ z. handle (identifier s z.pred) z g.result u.result) h.ensures
    ∙ ap (λ z. handle (identifier s (row s a.y).pred) (row s a.y) z u.result) g.ensures
    ∙ ap (λ z. handle (identifier s (row s a.y).pred) (row s a.y) (row s z.a) z) message_is in
    ap (written w) (deliver_handled w a.x a.y nodes j c.in-Some.ensures.0 lj)
    ∙ ap (λ z. written w (conclude (without_message s j) a.y z)) (sym handled ∙ c.in_err-d.was)
    ∙ ap (λ o. record { outcome = o; slice = w }) (sym (refusal.1 ∙ ap Err refusal.2))

pub returns : goal.returns
unfolding written
returns c =
    let a = c.args in
    let nodes = c.if-not-nodes.false in
    ap (written a.w.now) (deliver_9 a.w.now a.x a.y nodes (omega (arith, c.in_default.ensures)))
