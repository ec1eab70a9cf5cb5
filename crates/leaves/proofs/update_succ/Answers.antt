-- `update_succ`: the definition is what `relinked` promises. Assumes nothing.
use Rattle.protocol.specs.Kinds.{update_succ}
use Rattle.leaves.proofs.update_succ.Goals as goal

pub returns : goal.returns
unfolding update_succ
returns c = simp (c.relinked.ensures, c.note.ensures)
