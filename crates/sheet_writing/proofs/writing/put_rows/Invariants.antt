-- `put_rows`: what is written, and the rows that are left, are the sheet. Assumes nothing.
use Rattle.std.proofs.Common.{◌≡◌, ◌-◌, length, map, drop}
use Rattle.sheets.specs.Writer.{rows_in, write_sheet, zeros}
use Rattle.sheets.specs.Calls.{sheet_text}
use Rattle.sheet_writing.specs.Writing.{Written}
use Rattle.sheet_writing.proofs.writing.put_rows.Given as goal

abbrev pub invariant-loop-identifier : goal.invariant-loop-identifier
invariant-loop-identifier g l =
    let value = g.T.Identifier.value in
    record {
      left : zeros l.rest ≡ length l.identifiers - l.identifier-index;
      written : Written (sheet_text l.names (map value l.identifiers)) l.initial.text l.text (write_sheet (rows_in l.rest (map value (drop l.identifier-index l.identifiers)))) l.out;
    }
