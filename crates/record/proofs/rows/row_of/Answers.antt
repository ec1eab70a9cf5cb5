-- `row_of`: the seven words of a row, read field by field. Assumes nothing.
use mathlib.Core.Path.{◌∙◌, sym}
use Rattle.layout.specs.Words.{row_of_read, row_beyond}
use Rattle.record.proofs.rows.row_of.Goals as goal

pub returns-then-node-w : goal.returns-then-node-w
returns-then-node-w c = let a = c.args in c.row_at.ensures ∙ sym (row_of_read a.w.now a.node c.if-node-w.true)

pub returns : goal.returns
returns c = let a = c.args in c.outside_row.ensures ∙ sym (row_beyond a.w.now a.node c.if-node-w.false)
