-- `names_node`: the kinds whose a names a node. Assumes nothing.
use Rattle.protocol.specs.WellFormed.{names_node}
use Rattle.wellformed.proofs.message.names_node.Goals as goal

pub returns : goal.returns
unfolding names_node
returns c = cc
