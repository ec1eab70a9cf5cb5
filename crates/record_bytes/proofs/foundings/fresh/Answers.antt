-- `fresh` meets its contract: a fresh call on other words is one on the lent words, and writing the record is writing all of them. Assumes nothing.
use mathlib.Core.Path.{ap, ◌∙◌, refl}
use Rattle.std.proofs.Common.{sym}
use Rattle.protocol.specs.Answers.{refusal}
use Prim.Native.Nat.{ℕ}
use lib.ListN.{replicate, length-replicate}
use native.Mathlib.Omega.{arith}
use Rattle.lists.specs.Basics.{All}
use Rattle.lists.specs.Members.{all_at}
use Rattle.std.proofs.lemmas.Result.{err_from_is_err_and}
use Rattle.word_bytes.specs.Carry.{words_all}
use Rattle.protocol.specs.Fresh.{founder_of}
use Rattle.protocol.specs.Calls.{fresh_by_call}
use Rattle.record_bytes.specs.Results.{fresh_1, fresh_13, fresh_rest}
use Rattle.protocol.specs.Bytes.{Byte, words_of, bytes_after, fresh_carried}
use Rattle.record_bytes.proofs.foundings.fresh.Goals as goal

pub returns-then-words-lt-RECORD_BYTES : goal.returns-then-words-lt-RECORD_BYTES
unfolding refusal
returns-then-words-lt-RECORD_BYTES c =
    let a = c.args in
    fresh_1 a.words.now a.identifiers.now (founder_of a.founder (words_of a.identifiers.now)) (omega arith)

pub returns-in_default : goal.returns-in_default
unfolding refusal
returns-in_default c =
    let a = c.args in
    fresh_13 a.words.now a.identifiers.now (founder_of a.founder (words_of a.identifiers.now)) (omega arith) (omega (arith, c.in_default.ensures))

pub returns-in_err-fresh : goal.returns-in_err-fresh
unfolding fresh_carried refusal bytes_after
returns-in_err-fresh c =
    let a = c.args in
    let b = a.words.now in
    let bytes : All Byte b = all_at Byte b 0 (λ i h. omega (arith, c.slice_known-1.given i)) in
    let ids = a.identifiers.now in
    let came = c.in-Some.ensures in
    let refused = err_from_is_err_and c.from_residual.result c.from_residual.ensures.1 in
    fresh_rest b ids (founder_of a.founder (words_of ids)) bytes (omega arith) came.1 (replicate 1988 0) (length-replicate {A = ℕ} 1988 0) _ _
    (ap (λ i. fresh_by_call (replicate 1988 0) i (founder_of a.founder (words_of ids))) (sym (words_all ids)) ∙ rw (c.as_slice.ensures, came.0) at c.in_err-fresh.ensures)
    ∙ rw (refused.1, refused.2) refl

pub returns : goal.returns
unfolding fresh_carried refusal bytes_after
returns c =
    let a = c.args in
    let b = a.words.now in
    let bytes : All Byte b = all_at Byte b 0 (λ i h. omega (arith, c.slice_known-1.given i)) in
    let ids = a.identifiers.now in
    let came = c.in-Some.ensures in
    fresh_rest b ids (founder_of a.founder (words_of ids)) bytes (omega arith) came.1 (replicate 1988 0) (length-replicate {A = ℕ} 1988 0) _ _
    (ap (λ i. fresh_by_call (replicate 1988 0) i (founder_of a.founder (words_of ids))) (sym (words_all ids)) ∙ rw (c.as_slice.ensures, came.0) at c.in_ok-fresh.ensures)
    ∙ simp c.save.ensures
