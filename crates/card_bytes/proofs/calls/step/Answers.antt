-- `step` meets its contract: the first words of both slices are loaded, and written back. Assumes nothing.
use Rattle.protocol.specs.Answers.{refusal, outcome_words}
use mathlib.Core.Path.{◌∙◌, refl}
use Rattle.std.proofs.lemmas.Result.{err_from_is_err_and}
use Rattle.protocol.specs.Bytes.{over, bytes_after}
use Rattle.protocol.specs.CardBytes.{carried_cards}
use native.Mathlib.Omega.{arith}
use Rattle.card_bytes.specs.Results.{step_cards_17, step_cards_1, step_cards_short, step_cards_rest}
use Rattle.card_bytes.proofs.calls.step.Goals as goal

pub returns-then-out-lt-ANSWER_BYTES : goal.returns-then-out-lt-ANSWER_BYTES
unfolding refusal
returns-then-out-lt-ANSWER_BYTES c = let a = c.args in step_cards_17 a.words.now a.book.now a.out.now a.operation a.x a.y (omega arith)

pub returns-then-words-lt-RECORD_BYTES : goal.returns-then-words-lt-RECORD_BYTES
unfolding refusal
returns-then-words-lt-RECORD_BYTES c = let a = c.args in step_cards_1 a.words.now a.book.now a.out.now a.operation a.x a.y (omega arith) (omega arith)

pub returns-in_err-k : goal.returns-in_err-k
unfolding refusal
returns-in_err-k c =
    let a = c.args in
    let refused = err_from_is_err_and c.from_residual.result c.from_residual.ensures.1 in
    step_cards_short a.words.now a.book.now a.out.now a.operation a.x a.y (omega arith) (omega arith) (omega (arith, c.in_err-k.ensures.1))
    ∙ rw (refused.1, refused.2, c.in_err-k.ensures.0) refl

pub returns-in_err-a : goal.returns-in_err-a
unfolding carried_cards refusal outcome_words bytes_after over
returns-in_err-a c =
    let a = c.args in
    let refused = err_from_is_err_and c.from_residual-in_err-a.result c.from_residual-in_err-a.ensures.1 in
    step_cards_rest a.words.now a.book.now a.out.now a.operation a.x a.y (omega arith) (omega arith) (omega (arith, c.in_ok-k.ensures.1)) _ _ _
    (rw (c.loaded-w.ensures, c.in_ok-k.ensures.0) at c.in_err-a.ensures)
    ∙ rw (refused.1, refused.2) refl

pub returns : goal.returns
unfolding carried_cards refusal outcome_words bytes_after
returns c =
    let a = c.args in
    step_cards_rest a.words.now a.book.now a.out.now a.operation a.x a.y (omega arith) (omega arith) (omega (arith, c.in_ok-k.ensures.1)) _ _ _
    (rw (c.loaded-w.ensures, c.in_ok-k.ensures.0) at c.in_ok-a.ensures)
    ∙ simp (c.save.ensures, c.save-2.ensures, c.from.ensures, c.save-3.ensures)
