-- `Groups::all_lead`: the tests of the cards before i. Assumes nothing.
use mathlib.Core.Path.{sym, ◌∙◌, ap, ap₂}
use mathlib.Core.Bool.{◌&&◌}
use Prim.Native.Nat.{◌+◌}
use Rattle.std.specs.Prelude.{nat_eq}
use lib.ListN.{get_or}
use Rattle.lists.specs.Basics.{when◌then◌else◌}
use Rattle.lists.specs.Merge.{merged_none, merged_more, or_test, failure_test}
use Rattle.card_checks.specs.Digits.{following}
use Rattle.card_checks.proofs.digits.Groups.all_lead.Goals as goal

pub loop-i-init : goal.loop-i-init
loop-i-init c = sym (ap (λ z. nat_eq z 0) (merged_none _))

pub loop-i-preserved : goal.loop-i-preserved
loop-i-preserved c = let l = c.loop-i in
    let t = nat_eq (get_or c.args.self.now.names l.i 0) (l.i + 1) in
    ap₂ (λ x y. x && y) l.invariant (sym (failure_test t))
    ∙ sym (ap (λ z. nat_eq z 0) (merged_more l.i (λ i. when nat_eq (get_or c.args.self.now.names i 0) (i + 1) then 0 else 1)) ∙ or_test (following l.i c.args.self.now.names) (when t then 0 else 1))
