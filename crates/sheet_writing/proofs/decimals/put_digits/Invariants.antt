-- `put_digits`: the digits that are left to write, before those written, are all. Assumes nothing.
use Rattle.sheet_writing.specs.Writing.{Digits}
use Rattle.sheet_writing.proofs.decimals.put_digits.Given as goal

abbrev pub invariant-loop-i : goal.invariant-loop-i
invariant-loop-i l = Digits l.initial.text l.text l.at l.count l.v l.i l.rest
