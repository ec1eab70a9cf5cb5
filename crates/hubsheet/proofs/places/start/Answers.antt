-- `start`: a quote, or as in an unquoted name. Assumes nothing.
use Rattle.std.proofs.Common.{eq-eqb, ne_eqb}
use Rattle.lists.specs.Basics.{when◌then◌else◌}
use Rattle.sheets.specs.Reader.{next}
use Rattle.hubsheet.proofs.places.start.Goals as goal

pub returns-then-b-eq-QUOTE : goal.returns-then-b-eq-QUOTE
unfolding next when◌then◌else◌
returns-then-b-eq-QUOTE c = simp (eq-eqb _ _ c.if-b-eq-QUOTE.true)

pub returns-else-b-eq-QUOTE : goal.returns-else-b-eq-QUOTE
unfolding next when◌then◌else◌
returns-else-b-eq-QUOTE c = simp (c.unquoted.ensures, ne_eqb _ _ c.if-b-eq-QUOTE.false)
