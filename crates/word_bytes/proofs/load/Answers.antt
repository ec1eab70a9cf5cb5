-- `load` reads words out of the bytes: what is read so far are the first i of them. Assumes nothing.
use native.Mathlib.Omega.{arith}
use mathlib.Core.Path.{◌≡◌, sym, ◌∙◌, ap}
use Prim.Native.Nat.{◌/◌}
use mathlib.Core.List.{[]}
use Rattle.std.proofs.Common.{slice_index_or}
use Rattle.std.specs.Int.{w32, from_le_bytes}
use lib.ListN.{length}
use lib.Seq.{take_all}
use Rattle.word_bytes.specs.Carry.{load_step, load_none, chunk_word}
use Rattle.word_bytes.proofs.load.Goals as goal

pub loop-i-init : goal.loop-i-init
loop-i-init c = load_none c.args.b.now c.args.w.now

pub loop-i-preserved : goal.loop-i-preserved
loop-i-preserved c =
    let l = c.loop-i in
    let b = c.args.b.now in
    let e = c.from_le_bytes.ensures ∙ ap (λ words. from_le_bytes w32 (slice_index_or words l.i [])) c.as_chunks.ensures.front ∙ chunk_word b (length b / 4) l.i (omega arith) (omega arith) in
    rw e (load_step b l.w l.i (omega arith) l.invariant)

pub returns : goal.returns
returns c =
    let l = c.loop-i in
    let n = length c.args.w.now in
    let e : l.i ≡ n = omega arith in
    sym (take_all n l.w (omega arith)) ∙ rw e at l.invariant
