-- `frames::reading::decode` is `frame`: each return is what the questions before it say. Assumes nothing.
use Rattle.protocol.specs.Frames.{frame, command}
use Rattle.lists.specs.Basics.{when◌then◌else◌, require}
use borrow.Author.Tests.{eq-eqb, ne_eqb, lt-leb, le-leb}
use native.Mathlib.Omega.{arith}
use Rattle.frames.specs.Digits.{every_is, number_of_part}
use Rattle.frames.proofs.reading.decode.Goals as goal

pub returns-then-line-gt514 : goal.returns-then-line-gt514
unfolding frame require when◌then◌else◌
returns-then-line-gt514 c = simp (lt-leb _ _ c.if-line-gt514.true)

pub returns-then-not-all_digits : goal.returns-then-not-all_digits
unfolding frame require when◌then◌else◌
returns-then-not-all_digits c = simp (le-leb _ _ c.if-line-gt514.false, every_is, ← c.all_digits.ensures, c.if-not-all_digits.true)

pub returns-then-line-lt2 : goal.returns-then-line-lt2
unfolding frame require when◌then◌else◌
returns-then-line-lt2 c = simp (le-leb _ _ c.if-line-gt514.false, every_is, ← c.all_digits.ensures, c.if-not-all_digits.false, lt-leb _ _ c.if-line-lt2.true)

pub returns-then-operation-eq240 : goal.returns-then-operation-eq240
unfolding frame require when◌then◌else◌
returns-then-operation-eq240 c =
    let line = c.args.line.now in
    let operation = number_of_part line 0 2 c.number-operation.result c.number-operation.ensures (omega arith) in
    simp (le-leb _ _ c.if-line-gt514.false, every_is, ← c.all_digits.ensures, c.if-not-all_digits.false, le-leb _ _ c.if-line-lt2.false, operation, eq-eqb _ _ c.if-operation-eq240.true) c.founding.ensures

pub returns-then-line-ne18 : goal.returns-then-line-ne18
unfolding command frame require when◌then◌else◌
returns-then-line-ne18 c =
    let line = c.args.line.now in
    let operation = number_of_part line 0 2 c.number-operation.result c.number-operation.ensures (omega arith) in
    simp (le-leb _ _ c.if-line-gt514.false, every_is, ← c.all_digits.ensures, c.if-not-all_digits.false, le-leb _ _ c.if-line-lt2.false, operation, ne_eqb _ _ c.if-operation-eq240.false, ne_eqb _ _ c.if-line-ne18.true)

pub returns : goal.returns
unfolding command frame require when◌then◌else◌
returns c =
    let line = c.args.line.now in
    let operation = number_of_part line 0 2 c.number-operation.result c.number-operation.ensures (omega arith) in
    let x = number_of_part line 2 8 c.number.result c.number.ensures (omega arith) in
    let y = number_of_part line 10 8 c.number-2.result c.number-2.ensures (omega arith) in
    simp (le-leb _ _ c.if-line-gt514.false, every_is, ← c.all_digits.ensures, c.if-not-all_digits.false, le-leb _ _ c.if-line-lt2.false, operation, ne_eqb _ _ c.if-operation-eq240.false, eq-eqb _ _ c.if-line-ne18.false, x, y)
