-- `counted`: the two definitions composed, as the two calls are. Assumes nothing.
use Rattle.protocol.specs.Answers.{counted}
use Rattle.tally.proofs.counts.counted.Goals as goal

pub returns : goal.returns
unfolding counted
returns c = simp (← c.count_of.ensures) c.raised_at.ensures
