-- `four_differ`: whether two of four identifiers are equal. Assumes nothing.
use Rattle.lists.specs.Merge.{all_unlike, unlike}
use Rattle.wellformed.proofs.differ.four_differ.Goals as goal

pub returns : goal.returns
unfolding all_unlike unlike
returns c = cc
