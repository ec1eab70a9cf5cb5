-- `take_bytes`: line by line, what is left to be taken leads to what the whole piece does. Assumes nothing.
use Rattle.std.proofs.Common.{arith, refl, ◌∙◌, true, false, [], take}
use Rattle.stream.specs.Pieces.{taken}
use Rattle.stream.specs.Laws.{line_ends, line_goes_on, all_taken, drop_further}
use Rattle.stream.proofs.taking.take_bytes.Goals as goal

pub loop-rest-init : goal.loop-rest-init
unfolding taken
loop-rest-init c = record { same = refl; room = omega arith; size = refl; behind = refl }

pub answer-waiting-requires : goal.answer-waiting-requires
answer-waiting-requires c = omega (arith, c.loop-rest.invariant.room, c.in-Some.ensures.bytes.1)

pub loop-rest-preserved : goal.loop-rest-preserved
loop-rest-preserved c =
    let l = c.loop-rest in
    let line = c.in-Some.ensures.bytes in
    let a = c.answer-waiting.ensures in
    record {
      same = l.invariant.same
          ∙ line_ends l.w l.line (take l.waiting l.out) l.left.now c.gather.new.self c.in-Some.rest.now true line.0 refl _ (rw (c.as_slice.ensures.bytes, ← c.clear.ensures) at a.ended);
      room = omega (arith, l.invariant.room, a.few.1, line.1);
      size = omega (arith, l.invariant.size);
      behind = a.behind ∙ drop_further l.waiting c.answer-waiting.result l.out c.args.out.now a.few.0 l.invariant.behind;
    }

pub returns-clause-taken : goal.returns-clause-taken
returns-clause-taken c =
    let l = c.loop-rest in
    let line = c.in_default.ensures in
    l.invariant.same ∙ line_goes_on l.w l.line (take l.waiting l.out) l.left.now c.gather.new.self [] false line.bytes refl ∙ all_taken l.w c.gather.new.self (take l.waiting l.out) line.few
