-- `kind_of`: the first of the words. Assumes nothing.
use Rattle.protocol.specs.Answers.{kind_of}
use Rattle.tally.proofs.counts.kind_of.Goals as goal

pub returns : goal.returns
unfolding kind_of
returns c = simp c.from.ensures
