-- `put_row`: the part from 4 + 7 i on is lent to the editor, and put back as it left it. Assumes nothing.
use native.Mathlib.Omega.{arith}
use Rattle.lists.specs.Splice.{put_tail}
use Rattle.protocol.specs.Record.{row_start, row_words}
use Rattle.record.proofs.rows.put_row.Goals as goal

pub returns : goal.returns
returns c = let a = c.args in
    rw c.edit_row.ensures (put_tail a.w.now (row_words a.h) (row_start a.node) (omega arith))
