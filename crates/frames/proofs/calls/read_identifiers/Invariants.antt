-- `read_identifiers`: the first i identifiers are read so far. Assumes nothing.
use mathlib.Core.Path.{◌≡◌}
use lib.ListN.{take}
use Rattle.protocol.specs.Frames.{identifiers}
use Rattle.frames.proofs.calls.read_identifiers.Given as goal

abbrev pub invariant-loop-i : goal.invariant-loop-i
invariant-loop-i l = take l.i l.ids ≡ identifiers l.line l.i
