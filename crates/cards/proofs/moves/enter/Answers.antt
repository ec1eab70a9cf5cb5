-- `enter`: a mark, and what it brings. Assumes nothing.
use mathlib.Core.Path.{refl, ◌∙◌}
use lib.ListN.{length-set}
use Rattle.cards.specs.Follow.{marked_neat, enter_law}
use Rattle.cards.proofs.moves.enter.Goals as goal

pub hand_over-requires : goal.hand_over-requires
hand_over-requires c = marked_neat c.args.k.now c.requires.0 c.args.h 1 c.requires.1

pub shape_of-k : goal.shape_of-k
shape_of-k c = c.hand_over.auto.k ∙ simp length-set refl

pub returns : goal.returns
returns c = let a = c.args in
    λ ids r l. enter_law ids a.names.now a.k.now r a.h l _ _ _ refl c.reach-far.ensures c.hand_over.ensures
