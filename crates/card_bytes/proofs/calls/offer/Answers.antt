-- `offer` meets its contract: the first words of both slices are loaded, and the cards written back. Assumes nothing.
use Rattle.protocol.specs.Answers.{refusal}
use mathlib.Core.Path.{◌∙◌, refl}
use Rattle.std.proofs.lemmas.Result.{err_from_is_err_and}
use Rattle.protocol.specs.Bytes.{bytes_after}
use Rattle.protocol.specs.CardBytes.{taken}
use native.Mathlib.Omega.{arith}
use Rattle.card_bytes.specs.Results.{offer_1, offer_short, offer_rest}
use Rattle.card_bytes.proofs.calls.offer.Goals as goal

pub returns-then-words-lt-RECORD_BYTES : goal.returns-then-words-lt-RECORD_BYTES
unfolding refusal
returns-then-words-lt-RECORD_BYTES c = let a = c.args in offer_1 a.words.now a.book.now a.machine a.revision a.price (omega arith)

pub returns-in_err-k : goal.returns-in_err-k
unfolding refusal
returns-in_err-k c =
    let a = c.args in
    let refused = err_from_is_err_and c.from_residual.result c.from_residual.ensures.1 in
    offer_short a.words.now a.book.now a.machine a.revision a.price (omega arith) (omega (arith, c.in_err-k.ensures.1))
    ∙ rw (refused.1, refused.2, c.in_err-k.ensures.0) refl

pub returns-in_err-offer : goal.returns-in_err-offer
unfolding taken refusal bytes_after
returns-in_err-offer c =
    let a = c.args in
    let refused = err_from_is_err_and c.from_residual-in_err-offer.result c.from_residual-in_err-offer.ensures.1 in
    offer_rest a.words.now a.book.now a.machine a.revision a.price (omega arith) (omega (arith, c.in_ok-k.ensures.1)) _ _ _
    (rw (c.loaded-w.ensures, c.in_ok-k.ensures.0) at c.in_err-offer.ensures)
    ∙ rw (refused.1, refused.2) refl

pub returns : goal.returns
unfolding taken refusal bytes_after
returns c =
    let a = c.args in
    offer_rest a.words.now a.book.now a.machine a.revision a.price (omega arith) (omega (arith, c.in_ok-k.ensures.1)) _ _ _
    (rw (c.loaded-w.ensures, c.in_ok-k.ensures.0) at c.in_ok-offer.ensures)
    ∙ simp c.save.ensures
