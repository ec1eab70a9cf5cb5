-- `is_first`: a walk back along a bucket, until it ends, meets the machine, or is given up. Assumes nothing.
use mathlib.Core.Path.{sym, ◌∙◌}
use Prim.Native.Nat.{ℕ, ◌-◌}
use native.Mathlib.Omega.{arith}
use Rattle.card_checks.specs.Buckets.{machine_of, walk_start, walk_low, walk_on, walk_ends, walk_meets}
use Rattle.card_checks.proofs.buckets.is_first.Goals as goal

pub loop-init : goal.loop-init
loop-init c = let a = c.args in
    let f : ℕ → ℕ = machine_of a.cards.now.words.now in
    let w = walk_start f a.i a.start c.requires.1 in (walk_low f a.i a.start w, w)

pub returns-then-p-eq0 : goal.returns-then-p-eq0
returns-then-p-eq0 c = sym (walk_ends (machine_of c.args.cards.now.words.now) c.args.i c.loop.p c.loop.invariant.1 c.if-p-eq0.true)

pub returns-then-machine : goal.returns-then-machine
returns-then-machine c = sym (walk_meets (machine_of c.args.cards.now.words.now) c.args.i c.loop.p c.loop.invariant.1 (omega arith) (sym c.machine.ensures ∙ c.if-machine.true ∙ c.machine-machine.ensures))

pub loop-preserved : goal.loop-preserved
loop-preserved c = let a = c.args in
    let l = c.loop in
    let f : ℕ → ℕ = machine_of a.cards.now.words.now in
    let w = walk_on f a.i l.p _ l.invariant.1 (omega arith) (λ e. c.if-machine.false (c.machine.ensures ∙ e ∙ sym c.machine-machine.ensures)) (c.requires.2 (l.p - 1) (omega arith)) in (walk_low f a.i _ w, w)

pub returns-then-p-eq0-2 : goal.returns-then-p-eq0-2
returns-then-p-eq0-2 c = sym (walk_ends (machine_of c.args.cards.now.words.now) c.args.i c.loop.p c.loop.invariant.1 c.if-p-eq0-2.true)
