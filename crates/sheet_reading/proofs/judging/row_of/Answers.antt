-- `row_of`: number and end, one behind the other. Assumes nothing.
use mathlib.Core.Path.{sym, subst}
use Rattle.sheet_reading.specs.Judged.{NumberIs, RestIs, rest_no_number, rest_no_end, rest_read}
use Rattle.sheet_reading.proofs.judging.row_of.Goals as goal

pub returns-in_err-number : goal.returns-in_err-number
returns-in_err-number c = subst (RestIs c.args.text.now c.args.name) (sym c.from_residual.ensures) (rest_no_number c.args.text.now c.args.name c.in_err-number.ensures)

pub row_end-requires : goal.row_end-requires
unfolding NumberIs
row_end-requires c = let a = c.in_ok-number.ensures in a.within

pub returns-in_err-end : goal.returns-in_err-end
returns-in_err-end c = subst (RestIs c.args.text.now c.args.name) (sym c.from_residual-in_err-end.ensures) (rest_no_end c.args.text.now c.args.name c.in_ok-number.number c.in_ok-number.ensures c.in_err-end.ensures)

pub returns : goal.returns
returns c = rest_read c.args.text.now c.args.name c.in_ok-number.number c.in_ok-number.ensures c.in_ok-end.end c.in_ok-end.ensures
