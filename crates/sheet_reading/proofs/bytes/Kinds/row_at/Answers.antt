-- `row_at`: a name, and what is behind it. Assumes nothing.
use mathlib.Core.Path.{sym, subst}
use Rattle.sheet_reading.specs.Judged.{NameIs, RowIs, row_no_name, row_read}
use Rattle.sheet_reading.proofs.bytes.Kinds.row_at.Goals as goal

pub returns-in_err-name : goal.returns-in_err-name
returns-in_err-name c = subst (RowIs c.args.text.now c.args.from) (sym c.from_residual.ensures) (row_no_name c.args.text.now c.args.from c.in_err-name.ensures)

pub row_of-requires : goal.row_of-requires
unfolding NameIs
row_of-requires c = let a = c.in_ok-name.ensures in a.within

pub returns : goal.returns
returns c = row_read c.args.text.now c.args.from c.in_ok-name.name c.in_ok-name.ensures c.row_of.result c.row_of.ensures
