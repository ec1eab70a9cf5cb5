-- `join`: its questions in order, then the row and the JOIN message. Assumes nothing.
use Rattle.steps.specs.Questions.{first_node, sending, join_4, join_6, join_5, join_sending}
use Rattle.protocol.specs.Record.{read}
use Rattle.protocol.specs.Routing.{in_ring}
use Rattle.protocol.specs.Kinds.{note, with_state, with_lock}
use Rattle.protocol.specs.Names.{JOIN}
use Rattle.protocol.specs.Calls.{written}
use mathlib.Core.Path.{◌∙◌, ap, sym}
use Rattle.steps.proofs.commands.join.Goals as goal

pub returns-then-not-nodes : goal.returns-then-not-nodes
unfolding written
returns-then-not-nodes c =
    let a = c.args in
    ap (written a.w.now) (join_4 a.w.now a.x a.y (c.if-not-nodes.true))

pub returns-then-h-ne-OUTSIDE : goal.returns-then-h-ne-OUTSIDE
unfolding written
returns-then-h-ne-OUTSIDE c =
    let a = c.args in
    ap (written a.w.now)
    (join_6 a.w.now a.x a.y (c.if-not-nodes.false) (λ e. c.if-h-ne-OUTSIDE.true (ap (λ h. h.state) c.row_of-h.ensures ∙ e)))

pub returns-then-not-in_ring : goal.returns-then-not-in_ring
unfolding written
returns-then-not-in_ring c =
    let a = c.args in
    ap (written a.w.now)
    (join_5 a.w.now a.x a.y (c.if-not-nodes.false) (sym (ap (λ h. h.state) c.row_of-h.ensures) ∙ c.if-h-ne-OUTSIDE.false)
    (ap in_ring (sym c.row_of.ensures) ∙ sym c.in_ring.ensures ∙ c.if-not-in_ring.true))

pub sent-requires : goal.sent-requires
sent-requires c = let a = c.args in (c.requires, first_node a.w.now a.x a.y (c.if-not-nodes.false))

pub returns : goal.returns
returns c =
    let a = c.args in
    let w = a.w.now in
    let h = c.row_of-h in
    let state_is = sym (ap (λ z. z.state) h.ensures) ∙ c.if-h-ne-OUTSIDE.false in
    let ring = ap in_ring (sym c.row_of.ensures) ∙ sym c.in_ring.ensures ∙ c.if-not-in_ring.false in
    ap (written w)
    (join_sending w a.x a.y c.if-not-nodes.false state_is ring
    ∙ ap (λ z. sending (read w) a.x (with_lock (with_state z 1) 1) (note JOIN a.x a.y a.x)) (sym h.ensures)
    ∙ ap (sending (read w) a.x (with_lock (with_state h.result 1) 1)) (sym c.note.ensures))
    ∙ c.sent.ensures
