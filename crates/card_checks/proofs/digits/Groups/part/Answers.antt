-- `Groups::part`: after i cards, each has its group, and each slot its first card. Assumes nothing.
use borrow.Author.Rules.{rules}
use mathlib.Core.Path.{refl, sym, subst}
use Prim.Native.Nat.{◌+◌, ◌*◌, ◌/◌, ◌%◌}
use native.Mathlib.Omega.{arith}
use lib.ListN.{get_or, set, get_or-replicate}
use Rattle.card_checks.specs.Digits.{Parting, parting_none, parting_more, slot_below}
use Rattle.card_checks.proofs.digits.Groups.part.Goals as goal

pub loop-i-init : goal.loop-i-init
loop-i-init c = (search rules, refl, parting_none c.args.self.now.count c.args.self.now.rest c.args.self.now.names _ (λ b l. get_or-replicate 8208 b 0 0 l))

pub loop-i-preserved : goal.loop-i-preserved
loop-i-preserved c = let l = c.loop-i in
    let f = c.first_come-first in
    let b = slot_below c.args.self.now.count c.args.self.now.rest c.args.self.now.names l.i l.self.rest l.self.names l.slots l.invariant.2 (omega arith) c.requires in
    let made : Parting c.args.self.now.count (l.i + 1) c.args.self.now.rest c.args.self.now.names (set l.self.rest l.i (get_or l.self.rest l.i 0 / 16)) (set l.self.names l.i f.result) f.new.slots =
    subst (λ z. Parting c.args.self.now.count (l.i + 1) c.args.self.now.rest c.args.self.now.names (set l.self.rest l.i (get_or l.self.rest l.i 0 / 16)) (set l.self.names l.i f.result) z) (sym f.ensures.1)
    (parting_more c.args.self.now.count c.args.self.now.rest c.args.self.now.names l.i (get_or l.self.names l.i 0 * 16 + get_or l.self.rest l.i 0 % 16) f.result l.self.rest l.self.names l.slots l.invariant.2
    (omega arith) (omega arith) (omega arith) (omega arith) b refl f.ensures.0) in
    (search rules, search rules, subst (λ z. Parting c.args.self.now.count (l.i + 1) c.args.self.now.rest c.args.self.now.names (set l.self.rest l.i (get_or l.self.rest l.i 0 / 16)) (set l.self.names l.i z) f.new.slots) (sym c.from.ensures) made)
