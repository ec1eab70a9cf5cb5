-- `quote_cost`: two quotes, or none. Assumes nothing.
use Rattle.sheet_writing.specs.Scanning.{quote_if}
use Rattle.sheet_writing.proofs.rows.quote_cost.Goals as goal

pub returns-then-plain : goal.returns-then-plain
unfolding quote_if
returns-then-plain c = simp c.if-plain.true

pub returns-else-plain : goal.returns-else-plain
unfolding quote_if
returns-else-plain c = simp c.if-plain.false
