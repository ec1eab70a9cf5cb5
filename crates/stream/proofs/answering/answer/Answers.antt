-- `answer`: what is printed for the line goes behind what waits. Assumes nothing.
use Rattle.std.proofs.Common.{arith, ◌∙◌, ap, sym, [], ◌++◌, length, take}
use Rattle.std.proofs.lemmas.Slice.{take-put_mid, drop-put_mid}
use Rattle.stream.specs.Laws.{answer_behind}
use Rattle.stream.proofs.answering.answer.Goals as goal

pub returns-clause-ended : goal.returns-clause-ended
returns-clause-ended c =
    let a = c.args in
    let p = c.answer_line-printed in
    let new = c.copy_from_slice.new.self in
    let size = ap length c.copy_from_slice.ensures.after in
    answer_behind a.w.now a.line.now p.new.w (take a.waiting a.out.now) p.result p.ensures
    ∙ ap (λ z. record { slice = p.new.w; begun = []; printed = z })
    (sym (take-put_mid a.waiting _ a.out.now new _ (omega (arith, size)) (omega arith)
    ∙ ap (λ z. take a.waiting a.out.now ++ z) (c.copy_from_slice.ensures.after ∙ c.as_slice-text.ensures.bytes)))

pub returns-clause-few : goal.returns-clause-few
returns-clause-few c = (omega arith, omega (arith, c.as_slice-text.ensures.few))

pub returns-clause-behind : goal.returns-clause-behind
returns-clause-behind c =
    let size = ap length c.copy_from_slice.ensures.after in
    drop-put_mid c.args.waiting _ c.args.out.now c.copy_from_slice.new.self _ (omega arith) (omega arith) (omega (arith, size))
