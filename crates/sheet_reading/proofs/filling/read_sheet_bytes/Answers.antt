-- `read_sheet_bytes`: what `read` gives. Assumes nothing.
use Rattle.sheets.specs.Calls.{read_bytes_call}
use Rattle.sheet_reading.proofs.filling.read_sheet_bytes.Goals as goal

pub returns : goal.returns
unfolding read_bytes_call
returns c = c.read.ensures
