-- `flag_ok`: flag, oldpred and state by their tests. Assumes nothing.
use Rattle.protocol.specs.WellFormed.{flag_ok}
use Rattle.wellformed.proofs.row.flag_ok.Goals as goal

pub returns : goal.returns
unfolding flag_ok
returns c = cc
