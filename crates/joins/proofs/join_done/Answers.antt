-- `join_done`: the definition is what `unlocked` promises. Assumes nothing.
use Rattle.protocol.specs.Kinds.{join_done}
use Rattle.joins.proofs.join_done.Goals as goal

pub returns : goal.returns
unfolding join_done
returns c = c.unlocked.ensures
