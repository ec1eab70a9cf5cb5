-- `edit_row`: the words of the row are copied over the start of the lent part. Assumes nothing.
use mathlib.Core.Path.{sym}
use Rattle.std.proofs.lemmas.List.Edits.{sets-eq}
use Rattle.protocol.specs.Record.{row_words}
use Rattle.record.proofs.rows.edit_row.Goals as goal

pub returns : goal.returns
returns c = rw (c.copy_from_slice.ensures.after, c.from.ensures) (sym (sets-eq (row_words c.args.h) c.args.part.now 0 c.requires))
