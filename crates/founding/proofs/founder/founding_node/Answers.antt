-- `founding::founder::founding_node` is `founder_of`, by the two founders. Assumes nothing.
use Rattle.founding.proofs.founder.founding_node.Goals as goal

pub returns-in-None : goal.returns-in-None
returns-in-None c = rw c.in-None.is c.smallest.ensures
