-- `rows_line`: 20, 21, or the frame. Assumes nothing.
use borrow.Author.Tests.{le-leb, lt-leb}
use Rattle.lists.specs.Basics.{when◌then◌else◌, require}
use Rattle.protocol.specs.Frames.{line, refusal_text}
use Rattle.hubsheet.specs.Line.{refusal_line, rows_line}
use borrow.Author.Rules.{rules}
use Rattle.hubsheet.proofs.frame.rows_line.Goals as goal

pub returns-then-not-fits : goal.returns-then-not-fits
unfolding rows_line refusal_line line refusal_text require when◌then◌else◌
returns-then-not-fits c = search rules

pub returns-then-rows-gt-PLACES : goal.returns-then-rows-gt-PLACES
unfolding rows_line refusal_line line refusal_text require when◌then◌else◌
returns-then-rows-gt-PLACES c = search (rules, lt-leb)

pub returns : goal.returns
unfolding rows_line require when◌then◌else◌
returns c = simp (c.if-not-fits.false, le-leb _ _ c.if-rows-gt-PLACES.false) c.founding_line.ensures
