-- `is_none_of`: whether an identifier is one of four. Assumes nothing.
use Rattle.lists.specs.Merge.{unlike_all, unlike}
use Rattle.wellformed.proofs.differ.is_none_of.Goals as goal

pub returns : goal.returns
unfolding unlike_all unlike
returns c = cc
