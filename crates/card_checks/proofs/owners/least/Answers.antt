-- `least`: the least of the nodes so far. Assumes nothing.
use Rattle.std.proofs.Common.{arith, ◌≡◌, ◌∙◌, ap, sym, nat_eq, length, get_or}
use Rattle.lists.specs.Basics.{when◌then◌else◌}
use Rattle.cardlayout.specs.Reach.{top, least, least_none}
use Rattle.card_checks.specs.Homes.{least_next}
use Rattle.card_checks.proofs.owners.least.Goals as goal

pub loop-m-init : goal.loop-m-init
loop-m-init g c = λ h p. sym (least_none _)

pub loop-m-preserved : goal.loop-m-preserved
loop-m-preserved g c = let l = c.loop-m in
    λ h p.
    c.min-best.ensures
    ∙ least_next (λ m. when nat_eq (get_or c.args.marks.now m 0) 1 then h (get_or c.args.names.now m 0) else top) l.m _ _ (l.invariant h p)
    (c.pick.ensures ∙ ap (λ z. when nat_eq (get_or c.args.marks.now l.m 0) 1 then z else top) (p _ _ c.far.ensures))

pub returns : goal.returns
returns g c = let l = c.loop-m in
    λ h p.
    let e : l.m ≡ length c.args.marks.now = omega arith in
    l.invariant h p ∙ ap (least (λ m. when nat_eq (get_or c.args.marks.now m 0) 1 then h (get_or c.args.names.now m 0) else top)) e
