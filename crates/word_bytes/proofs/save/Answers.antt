-- `save` writes all words over the bytes: so far the first i of them. Assumes nothing.
use native.Mathlib.Omega.{arith}
use mathlib.Core.Path.{◌≡◌, ap, ◌∙◌}
use Prim.Native.Nat.{◌+◌, ◌-◌, ◌*◌}
use lib.ListN.{length, take, get_or}
use lib.Seq.{take-length}
use Rattle.lists.specs.Splice.{put_part, splice}
use Rattle.protocol.specs.Bytes.{word_bytes, over}
use Rattle.word_bytes.specs.Carry.{over_none, over_step}
use Rattle.word_bytes.proofs.save.Goals as goal

pub loop-i-init : goal.loop-i-init
loop-i-init c = over_none c.args.b.now c.args.w.now

pub loop-i-preserved : goal.loop-i-preserved
loop-i-preserved c =
    let l = c.loop-i in
    let a = c.args in
    let at = 4 * l.i in
    let x = get_or a.w.now l.i 0 in
    let e : splice l.b at (word_bytes x) ≡ over a.b.now (take (l.i + 1) a.w.now) = rw l.invariant (over_step a.b.now a.w.now l.i (omega arith)) in
    rw (c.copy_from_slice.ensures.after, c.to_le_bytes.ensures) (put_part at (at + 4 - at) l.b (word_bytes x) (omega arith) ∙ e)

pub returns : goal.returns
returns c =
    let l = c.loop-i in
    let e : l.i ≡ length c.args.w.now = omega arith in
    l.invariant ∙ ap (over c.args.b.now) (rw e (take-length c.args.w.now))
