-- `fresh` meets its contract: a fresh call on other words is one on the lent words, and writes all of both slices. Assumes nothing.
use mathlib.Core.Path.{ap, ◌∙◌, refl}
use Rattle.std.proofs.Common.{sym}
use Rattle.std.proofs.lemmas.Result.{err_from_is_err_and}
use Rattle.protocol.specs.Answers.{refusal}
use Prim.Native.Nat.{ℕ}
use native.Mathlib.Omega.{arith}
use lib.ListN.{replicate, length-replicate}
use Rattle.protocol.specs.Fresh.{founder_of}
use Rattle.protocol.specs.Bytes.{words_of, bytes_after}
use Rattle.protocol.specs.Cards.{fresh_by_cards}
use Rattle.protocol.specs.CardBytes.{founded_cards}
use Rattle.word_bytes.specs.Carry.{words_all}
use Rattle.card_bytes.specs.Results.{fresh_cards_1, fresh_cards_short, fresh_cards_13, fresh_cards_rest}
use Rattle.card_bytes.proofs.calls.fresh.Goals as goal

pub returns-then-words-lt-RECORD_BYTES : goal.returns-then-words-lt-RECORD_BYTES
unfolding refusal
returns-then-words-lt-RECORD_BYTES c =
    let a = c.args in fresh_cards_1 a.words.now a.book.now a.identifiers.now (founder_of a.founder (words_of a.identifiers.now)) (omega arith)

pub returns-then-book-lt-BOOK_BYTES : goal.returns-then-book-lt-BOOK_BYTES
unfolding refusal
returns-then-book-lt-BOOK_BYTES c =
    let a = c.args in fresh_cards_short a.words.now a.book.now a.identifiers.now (founder_of a.founder (words_of a.identifiers.now)) (omega arith) (omega arith)

pub returns-in_default : goal.returns-in_default
unfolding refusal
returns-in_default c =
    let a = c.args in
    fresh_cards_13 a.words.now a.book.now a.identifiers.now (founder_of a.founder (words_of a.identifiers.now)) (omega arith) (omega arith) (omega (arith, c.in_default.ensures))

pub returns-in_err-fresh : goal.returns-in_err-fresh
unfolding founded_cards refusal bytes_after
returns-in_err-fresh c =
    let a = c.args in
    let ids = a.identifiers.now in
    let came = c.in-Some.ensures in
    let refused = err_from_is_err_and c.from_residual.result c.from_residual.ensures.1 in
    fresh_cards_rest a.words.now a.book.now ids (founder_of a.founder (words_of ids)) (omega arith) (omega arith) (replicate 1988 0) (replicate 2113 0) (length-replicate {A = ℕ} 1988 0) (length-replicate {A = ℕ} 2113 0) _ _ _
    (ap (λ i. fresh_by_cards (replicate 1988 0) (replicate 2113 0) i (founder_of a.founder (words_of ids))) (sym (words_all ids)) ∙ rw (c.as_slice.ensures, came.0) at c.in_err-fresh.ensures)
    ∙ rw (refused.1, refused.2) refl

pub returns : goal.returns
unfolding founded_cards refusal bytes_after
returns c =
    let a = c.args in
    let ids = a.identifiers.now in
    let came = c.in-Some.ensures in
    fresh_cards_rest a.words.now a.book.now ids (founder_of a.founder (words_of ids)) (omega arith) (omega arith) (replicate 1988 0) (replicate 2113 0) (length-replicate {A = ℕ} 1988 0) (length-replicate {A = ℕ} 2113 0) _ _ _
    (ap (λ i. fresh_by_cards (replicate 1988 0) (replicate 2113 0) i (founder_of a.founder (words_of ids))) (sym (words_all ids)) ∙ rw (c.as_slice.ensures, came.0) at c.in_ok-fresh.ensures)
    ∙ simp (c.save.ensures, c.save-2.ensures)
