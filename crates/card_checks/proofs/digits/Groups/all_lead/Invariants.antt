-- `Groups::all_lead`: the tests of the cards before i. Assumes nothing.
use mathlib.Core.Path.{◌≡◌}
use Rattle.std.specs.Prelude.{nat_eq}
use Rattle.card_checks.specs.Digits.{following}
use Rattle.card_checks.proofs.digits.Groups.all_lead.Given as goal

abbrev pub invariant-loop-i : goal.invariant-loop-i
invariant-loop-i l = l.ok ≡ nat_eq (following l.i l.self.names) 0
