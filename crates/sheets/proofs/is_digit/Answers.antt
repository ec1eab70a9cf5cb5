-- `is_digit`. Assumes nothing.
use Rattle.sheets.specs.Grammar.{is_digit}
use Rattle.sheets.proofs.is_digit.Goals as goal

pub returns : goal.returns
unfolding is_digit
returns c = c.is_ascii_digit.ensures.value
