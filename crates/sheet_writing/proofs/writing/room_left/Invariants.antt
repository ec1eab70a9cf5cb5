-- `room_left`: what all rows leave is what those that are left leave of what is left. Assumes nothing.
use Rattle.std.proofs.Common.{◌≡◌, ◌-◌, Some, length, map, drop}
use Rattle.sheets.specs.Writer.{rows_in, write_sheet, zeros}
use Rattle.sheets.specs.Calls.{sheet_text}
use Rattle.sheet_writing.specs.Scanning.{less_by}
use Rattle.sheet_writing.proofs.writing.room_left.Given as goal

abbrev pub invariant-loop-identifier : goal.invariant-loop-identifier
invariant-loop-identifier g l =
    let value = g.T.Identifier.value in
    record {
      left : zeros l.rest ≡ length l.identifiers - l.identifier-index;
      room_is : less_by (Some l.limit) (length (sheet_text l.names (map value l.identifiers))) ≡ less_by (Some l.room) (length (write_sheet (rows_in l.rest (map value (drop l.identifier-index l.identifiers)))));
    }
