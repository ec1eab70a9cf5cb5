-- `founding_line`: the digits of the identifiers so far stand behind F0. Assumes nothing.
use Rattle.std.proofs.Common.{◌≡◌, ◌++◌, take}
use Rattle.protocol.specs.Frames.{print2}
use Rattle.hubsheet.specs.Line.{eights}
use Rattle.hubsheet.proofs.frame.founding_line.Given as goal

abbrev pub invariant-loop-identifier : goal.invariant-loop-identifier
invariant-loop-identifier l = l.line ≡ print2 240 ++ eights (take l.identifier-index l.identifiers)
