-- `header_ok`: form, n and m, each by its test. Assumes nothing.
use Rattle.protocol.specs.WellFormed.{header_ok}
use Rattle.wellformed.proofs.whole.header_ok.Goals as goal

pub returns : goal.returns
unfolding header_ok
returns c = cc
