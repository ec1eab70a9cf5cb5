-- `put_quote`: a quote, or nothing. Assumes nothing.
use native.Mathlib.Omega.{arith}
use Rattle.sheet_writing.specs.Scanning.{quote_if}
use Rattle.sheets.specs.Laying.{splice_none}
use Rattle.sheet_writing.proofs.rows.put_quote.Goals as goal

pub returns-then-plain : goal.returns-then-plain
unfolding quote_if
returns-then-plain c = simp c.if-plain.true (omega arith, splice_none _ _)

pub put_byte-requires : goal.put_byte-requires
unfolding quote_if
put_byte-requires c = let h = simp c.if-plain.false at c.requires in omega arith

pub returns : goal.returns
unfolding quote_if
returns c = simp c.if-plain.false c.put_byte.ensures
