-- `identifier_of`: the first word of the row; the zero identifier where there is no node. Assumes nothing.
use mathlib.Core.Path.{ap, sym}
use Rattle.layout.specs.Words.{row_of_read, row_beyond}
use Rattle.record.proofs.rows.identifier_of.Goals as goal

pub returns-then-node-w : goal.returns-then-node-w
returns-then-node-w c = sym (ap (λ h. h.identifier) (row_of_read c.args.w.now c.args.node c.if-node-w.true))

pub returns : goal.returns
returns c = sym (ap (λ h. h.identifier) (row_beyond c.args.w.now c.args.node c.if-node-w.false))
