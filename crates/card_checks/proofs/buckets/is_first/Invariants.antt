-- `is_first`: a walk back along a bucket, until it ends, meets the machine, or is given up. Assumes nothing.
use Prim.Native.Nat.{◌≤◌}
use Rattle.card_checks.specs.Buckets.{machine_of, Walk}
use Rattle.card_checks.proofs.buckets.is_first.Given as goal

abbrev pub invariant-loop : goal.invariant-loop
invariant-loop l = (l.p ≤ l.i) × Walk (machine_of l.cards.words.now) l.i l.p
