-- `pointers_ok`: the state decides which pointers there may be. Assumes nothing.
use Rattle.protocol.specs.WellFormed.{pointers_ok}
use Rattle.wellformed.proofs.row.pointers_ok.Goals as goal

pub returns : goal.returns
unfolding pointers_ok
returns c = cc
