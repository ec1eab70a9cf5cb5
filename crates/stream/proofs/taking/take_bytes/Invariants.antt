-- `take_bytes`: line by line, what is left to be taken leads to what the whole piece does. Assumes nothing.
use mathlib.Core.Path.{◌≡◌}
use Prim.Native.Nat.{◌≤◌, ◌+◌, ◌*◌}
use lib.ListN.{length, take, drop}
use Rattle.protocol.specs.Ringrun.{fed}
use Rattle.stream.specs.Pieces.{cut, taken}
use Rattle.stream.proofs.taking.take_bytes.Given as goal

abbrev pub invariant-loop-rest : goal.invariant-loop-rest
invariant-loop-rest l = record {
  same : taken l.initial.w l.initial.line l.input ≡ cut (fed (record { slice = l.w; begun = l.line; printed = take l.waiting l.out }) l.left);
  room : l.waiting + 25 * length l.left ≤ length l.out;
  size : length l.out ≡ length l.initial.out;
  behind : drop l.waiting l.out ≡ drop l.waiting l.initial.out;
}

abbrev pub decreases-loop-rest : goal.decreases-loop-rest
decreases-loop-rest l = length l.left
