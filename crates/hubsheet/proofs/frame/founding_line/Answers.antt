-- `founding_line`: the digits of the identifiers so far stand behind F0. Assumes nothing.
use Rattle.std.proofs.Common.{refl, arith}
use Rattle.protocol.specs.Frames.{digit_of}
use Rattle.lists.specs.Basics.{when◌then◌else◌}
use Rattle.hubsheet.specs.Line.{eights, eights_put, founding_put}
use Rattle.hubsheet.proofs.frame.founding_line.Goals as goal

pub loop-identifier-init : goal.loop-identifier-init
unfolding eights digit_of when◌then◌else◌
loop-identifier-init c = rw (c.push.ensures.kept, c.new-line.ensures) refl

pub loop-identifier-preserved : goal.loop-identifier-preserved
loop-identifier-preserved c =
    let l = c.loop-identifier in
    rw (c.push-in-loop-identifier.ensures.kept, c.put.ensures) (eights_put 516 l.line c.args.identifiers.now l.identifier-index (omega arith) (omega arith) l.invariant)

pub returns : goal.returns
returns c =
    let l = c.loop-identifier in
    rw c.push-2.ensures.kept (founding_put 516 l.line c.args.identifiers.now l.identifier-index (omega arith) (omega arith) l.invariant)
