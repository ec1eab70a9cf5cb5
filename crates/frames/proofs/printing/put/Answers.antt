-- `put`: the digits from i on are there, and the rest of the number is what stands before them. Assumes nothing.
use native.Mathlib.Omega.{arith}
use mathlib.Core.Path.{◌≡◌, sym}
use Prim.Native.Nat.{◌-◌, ◌/◌, ◌^◌}
use lib.ListN.{length}
use lib.Seq.{drop-length}
use Rattle.frames.specs.Printing.{put_more}
use Rattle.frames.proofs.printing.put.Goals as goal

pub loop-i-init : goal.loop-i-init
loop-i-init c =
    let out = c.args.out.now in
    let v = c.args.v in
    let e : length out - length out ≡ 0 = omega arith in
    let f : v / 16 ^ 0 ≡ v = omega arith in
    rw e (drop-length out, sym f)

pub loop-i-preserved : goal.loop-i-preserved
loop-i-preserved c =
    let l = c.loop-i in
    put_more l.out l.i (length c.args.out.now) c.args.v c.digit_of.result l.rest c.loop-i-test.true (omega arith) (omega arith) l.invariant.0 l.invariant.1 c.digit_of.ensures

pub returns : goal.returns
returns c =
    let l = c.loop-i in
    let n = length c.args.out.now in
    let e : l.i ≡ 0 = omega arith in
    let f : n - 0 ≡ n = omega arith in
    rw (e, f) at l.invariant.0
