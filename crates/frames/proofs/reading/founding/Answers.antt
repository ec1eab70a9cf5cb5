-- `frames::reading::founding` is `founding`, with a rest and without one. Assumes nothing.
use Rattle.protocol.specs.Frames.{founding}
use Rattle.lists.specs.Basics.{when◌then◌else◌, require}
use borrow.Author.Tests.{eq-eqb, ne_eqb}
use Rattle.frames.proofs.reading.founding.Goals as goal

pub returns-then-digits-ne0 : goal.returns-then-digits-ne0
unfolding founding require when◌then◌else◌
returns-then-digits-ne0 c = simp (ne_eqb _ _ c.if-digits-ne0.true)

pub returns : goal.returns
unfolding founding require when◌then◌else◌
returns c = simp (eq-eqb _ _ c.if-digits-ne0.false)
