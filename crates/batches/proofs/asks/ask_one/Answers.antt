-- `ask_one`: the question's own meaning, with its outcome in its place. Assumes nothing.
use Rattle.std.proofs.Common.{ap, sym, ◌∙◌, ◌+◌, ◌-◌, ◌*◌, ◌≡◌, arith}
use borrow.Rule.Slice.PartMut.{put_mid}
use Rattle.protocol.specs.Batch.{place_words}
use Rattle.batches.specs.Each.{place_size_lem, put_part, turn_is}
use Rattle.batches.proofs.asks.ask_one.Goals as goal

pub returns : goal.returns
returns c =
    let a = c.args in
    let p = c.place_words-place in
    let put = c.copy_from_slice in
    let n : 6 * a.i + 6 - 6 * a.i ≡ 6 = omega arith in
    turn_is a.w.now c.requires.0 a.node a.numbers.now a.outcomes.now a.i _ c.ask.ensures
    ∙ ap (λ z. record { slice = c.ask.new.w; output = z })
    (sym (ap (put_mid (6 * a.i) (6 * a.i + 6 - 6 * a.i) a.outcomes.now) (put.ensures.after ∙ p.ensures)
    ∙ put_part a.outcomes.now (place_words c.ask.result) (6 * a.i) (6 * a.i + 6 - 6 * a.i) (n ∙ sym (place_size_lem c.ask.result))))
