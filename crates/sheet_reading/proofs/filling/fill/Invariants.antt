-- `fill`: the rows up to i are written. Assumes nothing.
use mathlib.Core.Path.{◌≡◌}
use Prim.Native.Nat.{◌-◌, ◌≤◌}
use lib.ListN.{length}
use Rattle.sheet_reading.specs.Filled.{Filled}
use Rattle.sheet_reading.proofs.filling.fill.Given as goal

abbrev pub invariant-loop-i : goal.invariant-loop-i
invariant-loop-i g l =
    let held = g.T.Identifier.held in
    Filled g.T.Identifier.form l.text (held l.initial.identifiers) l.initial.names (held l.identifiers) l.names l.row l.at l.i
    × (length (held l.identifiers) ≡ length (held l.initial.identifiers)) × (length l.names ≡ length l.initial.names) × (l.row ≤ l.i)

abbrev pub decreases-loop-i : goal.decreases-loop-i
decreases-loop-i g l = length l.text - l.i
