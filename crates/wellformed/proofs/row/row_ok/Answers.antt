-- `row_ok`: the tests of the fields, merged. Assumes nothing.
use Rattle.protocol.specs.WellFormed.{row_ok}
use Rattle.wellformed.proofs.row.row_ok.Goals as goal

pub returns : goal.returns
unfolding row_ok
returns c = cc
