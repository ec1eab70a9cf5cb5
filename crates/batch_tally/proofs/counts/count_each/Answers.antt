-- `count_each`: after i places, the tally is what the first i give. Assumes nothing.
use native.Mathlib.Omega.{arith}
use mathlib.Core.Path.{◌≡◌, ap, ◌∙◌}
use Prim.Native.Nat.{◌*◌}
use Rattle.protocol.specs.Answers.{raised_at}
use Rattle.protocol.specs.Batch.{place_size}
use Rattle.batch_tally.specs.Places.{count_at, counted_places, counted_none, counted_next}
use Rattle.batch_tally.proofs.counts.count_each.Goals as goal

pub loop-i-init : goal.loop-i-init
loop-i-init c = counted_none c.args.t c.args.outcomes.now

pub loop-i-preserved : goal.loop-i-preserved
loop-i-preserved c =
    let l = c.loop-i in
    let a = c.args in
    let o = a.outcomes.now in
    c.raised_at-kept.ensures ∙ ap (λ k. raised_at k l.kept) c.count_at-k.ensures ∙ ap (raised_at (count_at o (place_size * l.i))) l.invariant ∙ counted_next a.t o l.i

pub returns : goal.returns
returns c =
    let l = c.loop-i in
    let a = c.args in
    let e : l.i ≡ a.n = omega arith in
    l.invariant ∙ ap (counted_places a.t a.outcomes.now) e
