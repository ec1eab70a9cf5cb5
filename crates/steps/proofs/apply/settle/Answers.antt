-- `settle`: each decision writes what its case of the definition says. Assumes nothing.
use Rattle.steps.specs.Settle.{settled}
use Rattle.steps.proofs.apply.settle.Goals as goal

pub returns-in-Reply : goal.returns-in-Reply
unfolding settled
returns-in-Reply c = simp (c.put_row.ensures, c.in-Reply.is)

pub returns-in-Send : goal.returns-in-Send
unfolding settled
returns-in-Send c = simp (c.push.ensures, c.put_row-in-Send.ensures, c.in-Send.is)
