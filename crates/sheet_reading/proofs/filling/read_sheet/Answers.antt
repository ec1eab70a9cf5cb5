-- `read_sheet`: what `read` gives. Assumes nothing.
use Rattle.sheets.specs.Calls.{read_call}
use Rattle.sheet_reading.proofs.filling.read_sheet.Goals as goal

pub returns : goal.returns
unfolding read_call
returns c = c.read.ensures
