-- `four_more`: four more identifiers, against those before them and among each other. Assumes nothing.
use Rattle.wellformed.specs.Laws.{four_more}
use Rattle.wellformed.proofs.differ.four_more.Goals as goal

pub returns : goal.returns
returns c = let a = c.args in four_more a.ids.now a.i c.requires _ _ c.are_new.ensures c.four_differ.ensures
