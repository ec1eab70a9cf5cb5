-- `number`: what is read so far, with the digits that follow, is what all are; and it is small enough for one more. Assumes nothing.
use mathlib.Core.Path.{◌≡◌}
use Prim.Native.Nat.{◌<◌, ◌^◌}
use lib.ListN.{drop}
use Rattle.protocol.specs.Frames.{number_after, number}
use Rattle.frames.proofs.digits.number.Given as goal

abbrev pub invariant-loop-d : goal.invariant-loop-d
invariant-loop-d l = record { small : l.v < 16 ^ l.d-index; goes_on : number_after l.v (drop l.d-index l.digits) ≡ number l.digits }
