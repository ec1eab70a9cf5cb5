-- `number`: what is read so far, with the digits that follow, is what all are; and it is small enough for one more. Assumes nothing.
use native.Mathlib.Omega.{arith}
use mathlib.Core.Path.{◌≡◌, refl, sym, ap, ◌∙◌}
use lib.ListN.{length, drop, get_or}
use lib.Seq.{drop-cons, drop-length}
use Rattle.std.proofs.Common.{add-one}
use Rattle.protocol.specs.Frames.{number_after}
use Rattle.frames.specs.Digits.{one_more}
use Rattle.frames.proofs.digits.number.Goals as goal

pub loop-d-init : goal.loop-d-init
loop-d-init c = record { small = omega arith; goes_on = refl }

pub overflow_mul-v : goal.overflow_mul-v
overflow_mul-v c = let l = c.loop-d in omega (arith, (one_more l.v (get_or c.args.digits.now l.d-index 0) l.d-index l.invariant.small (omega arith)).1)

pub overflow_add-v : goal.overflow_add-v
overflow_add-v c = let l = c.loop-d in omega (arith, (one_more l.v (get_or c.args.digits.now l.d-index 0) l.d-index l.invariant.small (omega arith)).1)

pub loop-d-preserved : goal.loop-d-preserved
loop-d-preserved c =
    let l = c.loop-d in
    let digits = c.args.digits.now in
    let i = l.d-index in
    record {
      small = rw c.digit_value.ensures (one_more l.v (get_or digits i 0) i l.invariant.small (omega arith)).0;
      goes_on = rw (c.digit_value.ensures, add-one) (sym (ap (number_after l.v) (drop-cons digits i 0 (omega arith))) ∙ l.invariant.goes_on);
    }

pub returns : goal.returns
returns c =
    let l = c.loop-d in
    let digits = c.args.digits.now in
    let e : l.d-index ≡ length digits = omega arith in
    sym (ap (number_after l.v) (ap (λ k. drop k digits) e ∙ drop-length digits)) ∙ l.invariant.goes_on
