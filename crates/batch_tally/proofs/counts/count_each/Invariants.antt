-- `count_each`: after i places, the tally is what the first i give. Assumes nothing.
use mathlib.Core.Path.{◌≡◌}
use Rattle.batch_tally.specs.Places.{counted_places}
use Rattle.batch_tally.proofs.counts.count_each.Given as goal

abbrev pub invariant-loop-i : goal.invariant-loop-i
invariant-loop-i l = l.kept ≡ counted_places l.initial.kept l.outcomes l.i
