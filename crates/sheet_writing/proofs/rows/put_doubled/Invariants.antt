-- `put_doubled`: the bytes of the name so far are written, quotes twice. Assumes nothing.
use Rattle.sheet_writing.specs.Writing.{Doubling}
use Rattle.sheet_writing.proofs.rows.put_doubled.Given as goal

abbrev pub invariant-loop-b : goal.invariant-loop-b
invariant-loop-b l = Doubling l.initial.text l.text l.name l.at l.b-index l.to
