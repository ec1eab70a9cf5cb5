-- `place_words`: each case is that of the definition. Assumes nothing.
use Rattle.std.proofs.Common.{ap, sym, ◌∙◌, ◌∷◌, length}
use Rattle.protocol.specs.Batch.{place_words}
use Rattle.batches.specs.Each.{answer_size, word_by_word}
use Rattle.batches.proofs.asks.place_words.Goals as goal

pub returns-in-Err : goal.returns-in-Err
unfolding place_words
returns-in-Err c = simp (c.in-Err.is, c.from.ensures)

pub returns-in-Ok : goal.returns-in-Ok
unfolding place_words
returns-in-Ok c =
    let words = c.from-in-Ok in
    ap (λ l. 0 ∷ l) (word_by_word words.result (ap length words.ensures ∙ answer_size c.in-Ok.a) ∙ words.ensures) ∙ ap place_words (sym c.in-Ok.is)
