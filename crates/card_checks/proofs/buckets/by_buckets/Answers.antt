-- `by_buckets`: the first i cards are in their buckets, and their machines differ. Assumes nothing.
use mathlib.Core.Path.{◌≡◌, refl, sym, ◌∙◌, ap}
use mathlib.Core.Bool.{true, false, ◌&&◌}
use Prim.Native.Nat.{ℕ, ◌+◌}
use native.Mathlib.Omega.{arith}
use lib.ListN.{get_or-replicate}
use borrow.Author.Rules.{rules}
use Rattle.lists.specs.Basics.{distinct, table}
use Rattle.lists.specs.Tests.{and_false}
use Rattle.lists.specs.Merge.{distinct_none}
use Rattle.card_checks.specs.Buckets.{machine_of, unmet, bucket_of, distinct_more, distinct_fails, filed_none, filed_more}
use Rattle.card_checks.proofs.buckets.by_buckets.Goals as goal

pub loop-i-init : goal.loop-i-init
loop-i-init c = (refl, refl, filed_none (machine_of c.args.cards.now.words.now) _ _ (λ b l. get_or-replicate 1024 b 0 0 l), distinct_none _)

pub returns-then-not-branch : goal.returns-then-not-branch
returns-then-not-branch c = let l = c.loop-i in
    let f : ℕ → ℕ = machine_of c.args.cards.now.words.now in
    let e : unmet f l.i ≡ false = sym c.in_ok-is_first.ensures ∙ c.if-not-branch.true in
    sym (distinct_fails f (l.i + 1) c.args.cards.now.count (distinct_more f l.i ∙ ap (λ z. distinct (table l.i f) && z) e ∙ and_false (distinct (table l.i f))) (omega arith))

pub loop-i-preserved : goal.loop-i-preserved
loop-i-preserved c = let l = c.loop-i in
    let b = c.bucket-b in
    let f : ℕ → ℕ = machine_of c.args.cards.now.words.now in
    let e : unmet f l.i ≡ true = sym c.in_ok-is_first.ensures ∙ c.if-not-branch.false in
    (search rules, search rules, filed_more f l.heads l.earlier l.i b.result l.invariant.2 (b.ensures.0 ∙ ap bucket_of c.machine.ensures) (omega arith) (omega arith), distinct_more f l.i ∙ ap (λ z. z && unmet f l.i) l.invariant.3 ∙ e)
