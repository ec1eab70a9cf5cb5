-- `new_succ`: the definition is what `relinked` promises. Assumes nothing.
use Rattle.protocol.specs.Kinds.{new_succ}
use Rattle.joins.proofs.new_succ.Goals as goal

pub returns : goal.returns
unfolding new_succ
returns c = simp (c.relinked.ensures, c.note.ensures)
