-- `founding::writing::put_rows` meets its contract: the rows of the first i identifiers are put so far. Assumes nothing.
use mathlib.Core.Path.{◌≡◌}
use lib.ListN.{take}
use Rattle.lists.specs.Splice.{splice}
use Rattle.protocol.specs.Record.{row_start}
use Rattle.founding.specs.Laws.{outsiders}
use Rattle.founding.proofs.writing.put_rows.Given as goal

abbrev pub invariant-loop-i : goal.invariant-loop-i
invariant-loop-i l = l.w ≡ splice l.initial.w (row_start 0) (outsiders (take l.i l.identifiers))
