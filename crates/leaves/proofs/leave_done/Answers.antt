-- `leave_done`: the definition is what `unlocked` promises. Assumes nothing.
use Rattle.protocol.specs.Kinds.{leave_done}
use Rattle.leaves.proofs.leave_done.Goals as goal

pub returns : goal.returns
unfolding leave_done
returns c = c.unlocked.ensures
