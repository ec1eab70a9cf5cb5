-- `names_of`: the first i are copied, the others are 0. Assumes nothing.
use mathlib.Core.Path.{refl}
use native.Mathlib.Omega.{arith}
use borrow.Author.Rules.{rules}
use Rattle.card_checks.specs.Homes.{copied, get_or_zeros}
use Rattle.card_checks.proofs.owners.names_of.Goals as goal

pub loop-i-init : goal.loop-i-init
loop-i-init c = (refl, (λ k l. absurd (omega arith)), λ k l. get_or_zeros 64 k)

pub returns : goal.returns
returns c = let w = c.args.w.now in
    let l = c.loop-i in
    (search rules, copied w l.names (λ i u. l.invariant.1 i (omega arith)) (λ i u. l.invariant.2 i (omega arith)))
