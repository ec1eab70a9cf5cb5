-- `marks_ok`: three tests of the marks. Assumes nothing.
use Rattle.card_checks.specs.Marks.{marks_code}
use Rattle.card_checks.proofs.marks.marks_ok.Goals as goal

pub returns : goal.returns
returns c =
    marks_code c.args.k.now c.args.n c.requires.0 c.requires.1 c.all_bits.result c.all_zero.result c.all_zero-2.result c.all_bits.ensures c.all_zero.ensures c.all_zero-2.ensures
