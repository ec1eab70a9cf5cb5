-- `count_of`: a refusal's place computes, and an answer's is what `kind_of` gives. Assumes nothing.
use Rattle.protocol.specs.Answers.{count_of}
use borrow.Author.Rules.{rules}
use Rattle.tally.proofs.counts.count_of.Goals as goal

pub returns-in-Err : goal.returns-in-Err
unfolding count_of
returns-in-Err c = search rules

pub returns-in-Ok : goal.returns-in-Ok
unfolding count_of
returns-in-Ok c = simp c.in-Ok.is c.kind_of.ensures
