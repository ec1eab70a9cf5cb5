-- `raise`: the least of the sum and the greatest count, which no sum passes by more than one. Assumes nothing.
use Prim.Native.Nat.{ℕ, ◌+◌, ◌≤◌}
use mathlib.Core.Path.{◌∙◌}
use native.Mathlib.Omega.{arith}
use Rattle.std.proofs.Math.Decide.{dec_lt}
use Rattle.std.proofs.Math.Nat.{min-eq_left, min-eq_right}
use Rattle.lists.specs.Basics.{when◌then◌else◌}
use borrow.Author.Tests.{lt-ltb, le-ltb}
use Rattle.protocol.specs.Answers.{raised}
use Rattle.tally.proofs.counts.raise.Goals as goal

pub returns : goal.returns
unfolding raised when◌then◌else◌
returns c =
    let n = c.args.n in
    let most : ℕ = 18446744073709551615 in
    c.saturating_add.ensures ∙ elim (dec_lt n most) [
      | yes l ↦ simp (lt-ltb n most l) (min-eq_left {n = n + 1} {m = most} (omega arith))
      | no h ↦ let reached : most ≤ n = omega arith in simp (le-ltb n most reached) (min-eq_right {n = most} {m = n + 1} (omega arith) ∙ omega (arith, c.ranges.n.fits))
    ]
