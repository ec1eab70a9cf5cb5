-- `room_left`: what all rows leave is what those that are left leave of what is left. Assumes nothing.
use Rattle.std.proofs.Common.{refl, ◌∙◌, ap, sym, ◌+◌, ◌-◌, Some, length, arith}
use Rattle.sheets.specs.Writer.{zeros}
use Rattle.sheets.specs.Calls.{sheet_text}
use Rattle.sheet_writing.specs.Scanning.{less_by, less_none}
use Rattle.sheet_writing.specs.Writing.{zeros_behind, room_step, room_over, rows_out}
use Rattle.sheet_writing.proofs.writing.room_left.Goals as goal

pub loop-identifier-init : goal.loop-identifier-init
unfolding sheet_text
loop-identifier-init g c = record { left = omega arith; room_is = refl }

pub returns-in_err-room : goal.returns-in_err-room
returns-in_err-room g c =
    let l = c.loop-identifier in
    let n = c.next.ensures in
    c.from_residual.ensures
    ∙ room_over g.T.Identifier.value c.args.identifiers.now l.identifier-index c.identifier-item.result l.rest.now _ _ _ l.room (omega arith) c.identifier-item.is n.name n.behind c.word.ensures (sym c.in_err-room.was ∙ c.row_room.ensures)
    ∙ sym l.invariant.room_is

pub loop-identifier-preserved : goal.loop-identifier-preserved
loop-identifier-preserved g c =
    let l = c.loop-identifier in
    let n = c.next.ensures in
    record {
      left = ap zeros n.behind ∙ zeros_behind l.rest.now (length c.args.identifiers.now - (l.identifier-index + 1)) (omega arith);
      room_is = l.invariant.room_is ∙ room_step g.T.Identifier.value c.args.identifiers.now l.identifier-index c.identifier-item.result l.rest.now _ _ _ l.room _ (omega arith) c.identifier-item.is n.name n.behind c.word.ensures (sym c.in_ok-room.was ∙ c.row_room.ensures);
    }

pub returns : goal.returns
returns g c =
    let f = g.T.Identifier.value in
    let l = c.loop-identifier in
    less_none (Some l.room) ∙ ap (λ x. less_by (Some l.room) (length x)) (sym (rows_out f l.rest.now c.args.identifiers.now l.identifier-index (omega arith))) ∙ sym l.invariant.room_is
