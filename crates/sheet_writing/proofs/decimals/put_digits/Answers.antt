-- `put_digits`: the digits that are left to write, before those written, are all. Assumes nothing.
use Rattle.std.proofs.Common.{arith}
use Rattle.sheet_writing.specs.Writing.{digits_more, digits_all}
use Rattle.sheet_writing.proofs.decimals.put_digits.Goals as goal

pub loop-i-preserved : goal.loop-i-preserved
loop-i-preserved c =
    let l = c.loop-i in
    let a = c.args in
    digits_more a.text.now l.text a.at a.count a.v l.i l.rest c.requires (omega arith) l.invariant

pub returns : goal.returns
returns c =
    let l = c.loop-i in
    let a = c.args in
    digits_all a.text.now l.text a.at a.count a.v l.i l.rest (omega arith) l.invariant
