-- `lock_ok`: the state decides which locks there may be. Assumes nothing.
use Rattle.protocol.specs.WellFormed.{lock_ok}
use Rattle.wellformed.proofs.row.lock_ok.Goals as goal

pub returns : goal.returns
unfolding lock_ok
returns c = cc
