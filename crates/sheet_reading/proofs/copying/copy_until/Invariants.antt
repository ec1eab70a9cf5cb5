-- `copy_until`: the bytes up to i are copied. Assumes nothing.
use mathlib.Core.Path.{◌≡◌}
use mathlib.Core.Bool.{true}
use Rattle.lists.specs.Basics.{every}
use Rattle.lists.specs.Splice.{splice}
use Rattle.sheet_reading.specs.Runs.{between}
use Rattle.sheet_reading.specs.Put.{test_for}
use Rattle.sheet_reading.proofs.copying.copy_until.Given as goal

abbrev pub invariant-loop-i : goal.invariant-loop-i
invariant-loop-i l = (every (test_for l.stop) (between l.from l.i l.text) ≡ true) × (l.names ≡ splice l.initial.names l.at (between l.from l.i l.text))
