-- `digits`: a digit more, or the end of the row. Assumes nothing.
use Rattle.lists.specs.Basics.{when◌then◌else◌}
use Rattle.sheets.specs.Reader.{digits}
use Rattle.hubsheet.proofs.places.digits.Goals as goal

pub returns-then-is_digit : goal.returns-then-is_digit
unfolding digits when◌then◌else◌
returns-then-is_digit c = simp (c.if-is_digit.true, ← c.is_digit.ensures)

pub returns-else-is_digit : goal.returns-else-is_digit
unfolding digits when◌then◌else◌
returns-else-is_digit c = simp (c.if-is_digit.false, ← c.is_digit.ensures, c.row_end.ensures)
