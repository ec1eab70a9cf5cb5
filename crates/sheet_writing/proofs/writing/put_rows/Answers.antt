-- `put_rows`: what is written, and the rows that are left, are the sheet. Assumes nothing.
use Rattle.std.proofs.Common.{◌∙◌, ap, ◌+◌, ◌-◌, length, map, drop, arith}
use Rattle.sheets.specs.Writer.{first_name, behind_name, row_text, rows_in, write_sheet, zeros}
use Rattle.sheets.specs.Calls.{sheet_text}
use Rattle.sheet_writing.specs.Writing.{written_none, written_room, written_more, written_all, zeros_behind, next_value, next_row, rows_out}
use Rattle.sheet_writing.proofs.writing.put_rows.Goals as goal

pub loop-identifier-init : goal.loop-identifier-init
unfolding sheet_text
loop-identifier-init g c = record { left = omega arith; written = written_none (sheet_text c.args.names.now (map g.T.Identifier.value c.args.identifiers.now)) c.args.text.now }

pub put_row-out-requires : goal.put_row-out-requires
put_row-out-requires g c =
    let f = g.T.Identifier.value in
    let a = c.args in
    let l = c.loop-identifier in
    let ids = a.identifiers.now in
    let d = map f (drop l.identifier-index ids) in
    let others = map f (drop (l.identifier-index + 1) ids) in
    let v = f c.identifier-item.result in
    let e = next_row l.rest.now d others v (next_value f ids l.identifier-index c.identifier-item.result (omega arith) c.identifier-item.is) in
    let r = written_room (sheet_text a.names.now (map f ids)) a.text.now l.text (write_sheet (rows_in l.rest.now d)) (row_text (record { name = first_name l.rest.now; identifier = v })) (write_sheet (rows_in (behind_name l.rest.now) others)) l.out c.requires.1 e l.invariant.written in
    rw (c.next.ensures.name, c.word.ensures) (omega arith)

pub loop-identifier-preserved : goal.loop-identifier-preserved
loop-identifier-preserved g c =
    let f = g.T.Identifier.value in
    let a = c.args in
    let l = c.loop-identifier in
    let ids = a.identifiers.now in
    let d = map f (drop l.identifier-index ids) in
    let others = map f (drop (l.identifier-index + 1) ids) in
    let v = f c.identifier-item.result in
    let e = next_row l.rest.now d others v (next_value f ids l.identifier-index c.identifier-item.result (omega arith) c.identifier-item.is) in
    let n = c.next.ensures in
    let p = rw (n.name, c.word.ensures) at c.put_row-out.ensures in
    record {
      left = ap zeros n.behind ∙ zeros_behind l.rest.now (length ids - (l.identifier-index + 1)) (omega arith);
      written = rw (p.0, p.1, n.behind) (written_more (sheet_text a.names.now (map f ids)) a.text.now l.text (write_sheet (rows_in l.rest.now d)) (row_text (record { name = first_name l.rest.now; identifier = v })) (write_sheet (rows_in (behind_name l.rest.now) others)) l.out e l.invariant.written);
    }

pub returns : goal.returns
returns g c =
    let a = c.args in
    let l = c.loop-identifier in
    let d = map g.T.Identifier.value a.identifiers.now in
    written_all (sheet_text a.names.now d) a.text.now l.text _ l.out (rows_out g.T.Identifier.value l.rest.now a.identifiers.now l.identifier-index (omega arith)) l.invariant.written
