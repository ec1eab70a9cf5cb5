-- `frames::digits::digit_value` is `digit_value`: each return is what the tests before it say. Assumes nothing.
use Rattle.protocol.specs.Frames.{digit_value}
use Rattle.lists.specs.Basics.{when◌then◌else◌}
use borrow.Author.Tests.{lt-ltb, le-ltb}
use Rattle.frames.proofs.digits.digit_value.Goals as goal

pub returns-then-b-lt48 : goal.returns-then-b-lt48
unfolding digit_value when◌then◌else◌
returns-then-b-lt48 c = simp (lt-ltb _ _ c.if-b-lt48.true)

pub returns-then-b-lt58 : goal.returns-then-b-lt58
unfolding digit_value when◌then◌else◌
returns-then-b-lt58 c = simp (lt-ltb _ _ c.if-b-lt58.true, le-ltb _ _ c.if-b-lt48.false) c.from.ensures

pub returns-then-b-lt65 : goal.returns-then-b-lt65
unfolding digit_value when◌then◌else◌
returns-then-b-lt65 c = simp (lt-ltb _ _ c.if-b-lt65.true, le-ltb _ _ c.if-b-lt58.false, le-ltb _ _ c.if-b-lt48.false)

pub returns-then-b-lt71 : goal.returns-then-b-lt71
unfolding digit_value when◌then◌else◌
returns-then-b-lt71 c = simp (lt-ltb _ _ c.if-b-lt71.true, le-ltb _ _ c.if-b-lt65.false, le-ltb _ _ c.if-b-lt58.false, le-ltb _ _ c.if-b-lt48.false) c.from-then-b-lt71.ensures

pub returns : goal.returns
unfolding digit_value when◌then◌else◌
returns c = simp (le-ltb _ _ c.if-b-lt71.false, le-ltb _ _ c.if-b-lt65.false, le-ltb _ _ c.if-b-lt58.false, le-ltb _ _ c.if-b-lt48.false)
