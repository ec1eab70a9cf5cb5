-- `leave`: its questions in order, then the row and the LEAVEREQ message. Assumes nothing.
use Rattle.steps.specs.Questions.{sending, leave_4, leave_5, leave_7, leave_8, leave_sending}
use Rattle.protocol.specs.Record.{read}
use Rattle.protocol.specs.Routing.{in_ring}
use Rattle.protocol.specs.Kinds.{note, with_state, with_lock}
use Rattle.protocol.specs.Names.{LEAVEREQ}
use Rattle.protocol.specs.Calls.{written}
use mathlib.Core.Path.{◌∙◌, ap, sym}
use Rattle.steps.proofs.commands.leave.Goals as goal

pub returns-then-w-x : goal.returns-then-w-x
unfolding written
returns-then-w-x c =
    let a = c.args in
    ap (written a.w.now) (leave_4 a.w.now a.x c.if-w-x.true)

pub returns-then-not-in_ring : goal.returns-then-not-in_ring
unfolding written
returns-then-not-in_ring c =
    let a = c.args in
    let h = c.row_of-h in
    ap (written a.w.now) (leave_5 a.w.now a.x c.if-w-x.false (ap in_ring (sym h.ensures) ∙ sym c.in_ring.ensures ∙ c.if-not-in_ring.true))

pub returns-then-h-ne0 : goal.returns-then-h-ne0
unfolding written
returns-then-h-ne0 c =
    let a = c.args in
    let h = c.row_of-h in
    let ring = ap in_ring (sym h.ensures) ∙ sym c.in_ring.ensures ∙ c.if-not-in_ring.false in
    ap (written a.w.now) (leave_7 a.w.now a.x c.if-w-x.false ring (λ e. c.if-h-ne0.true (ap (λ z. z.lock) h.ensures ∙ e)))

pub returns-then-h-x : goal.returns-then-h-x
unfolding written
returns-then-h-x c =
    let a = c.args in
    let h = c.row_of-h in
    let ring = ap in_ring (sym h.ensures) ∙ sym c.in_ring.ensures ∙ c.if-not-in_ring.false in
    let free = sym (ap (λ z. z.lock) h.ensures) ∙ c.if-h-ne0.false in
    ap (written a.w.now) (leave_8 a.w.now a.x c.if-w-x.false ring free (sym (ap (λ z. z.succ) h.ensures) ∙ c.if-h-x.true))

pub sent-requires : goal.sent-requires
sent-requires c = (c.requires, c.if-w-x.false)

pub returns : goal.returns
returns c =
    let a = c.args in
    let w = a.w.now in
    let h = c.row_of-h in
    let ring = ap in_ring (sym h.ensures) ∙ sym c.in_ring.ensures ∙ c.if-not-in_ring.false in
    let free = sym (ap (λ z. z.lock) h.ensures) ∙ c.if-h-ne0.false in
    ap (written w)
    (leave_sending w a.x c.if-w-x.false ring free (λ e. c.if-h-x.false (ap (λ z. z.succ) h.ensures ∙ e))
    ∙ ap (λ z. sending (read w) a.x (with_lock (with_state z 3) 1) (note LEAVEREQ a.x z.succ 0)) (sym h.ensures)
    ∙ ap (sending (read w) a.x (with_lock (with_state h.result 3) 1)) (sym c.note.ensures))
    ∙ c.sent.ensures
