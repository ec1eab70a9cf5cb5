-- `leave`: a mark taken away, and what goes with it. Assumes nothing.
use mathlib.Core.Path.{refl, ◌∙◌}
use native.Mathlib.Omega.{arith}
use lib.ListN.{get_or, length-set}
use Rattle.cards.specs.Follow.{marked_neat, stay_law, others_found, leave_law}
use Rattle.cards.proofs.moves.leave.Goals as goal

pub returns-then-k-node-eq0 : goal.returns-then-k-node-eq0
returns-then-k-node-eq0 c = let a = c.args in
    λ ids r l m i. stay_law ids a.names.now a.k.now r a.h l c.if-k-node-eq0.true

pub returns-in_default : goal.returns-in_default
returns-in_default c = let a = c.args in
    λ ids r l m i. absurd (others_found ids a.names.now a.k.now r a.h l (get_or a.names.now a.h 0) (omega (arith, c.fits-names a.h)) m i c.in_default.ensures)

pub hand_over-requires : goal.hand_over-requires
hand_over-requires c = marked_neat c.args.k.now c.requires.0 c.args.h 0 c.requires.1

pub shape_of-k : goal.shape_of-k
shape_of-k c = c.hand_over.auto.k ∙ simp length-set refl

pub returns : goal.returns
returns c = let a = c.args in
    λ ids r l m i. leave_law ids a.names.now a.k.now r a.h l _ _ _ _ c.if-k-node-eq0.false m i refl (omega (arith, c.fits-names a.h)) c.reach-far.ensures c.in-Some.ensures.0 c.hand_over.ensures
