-- `step` meets its contract: the bytes' words are the record and what is behind it, the step on the record is the step on all, and writing the record back is writing all back. Assumes nothing.
use Rattle.protocol.specs.Answers.{refusal, outcome_words}
use mathlib.Core.Path.{◌∙◌, refl}
use Rattle.std.proofs.lemmas.Result.{err_from_is_err_and}
use native.Mathlib.Omega.{arith}
use Rattle.lists.specs.Basics.{All}
use Rattle.lists.specs.Members.{all_at}
use Rattle.protocol.specs.Bytes.{Byte, over, bytes_after, carried}
use Rattle.record_bytes.specs.Results.{step_17, step_1, step_rest}
use borrow.Author.Rules.{rules}
use Rattle.record_bytes.proofs.step.Goals as goal

pub returns-then-out-lt-ANSWER_BYTES : goal.returns-then-out-lt-ANSWER_BYTES
unfolding refusal
returns-then-out-lt-ANSWER_BYTES c = let a = c.args in step_17 a.words.now a.out.now a.operation a.x a.y (omega arith)

pub returns-in_err-w : goal.returns-in_err-w
unfolding refusal
returns-in_err-w c =
    let a = c.args in
    let refused = err_from_is_err_and c.from_residual.result c.from_residual.ensures.1 in
    step_1 a.words.now a.out.now a.operation a.x a.y (omega arith) (omega (arith, c.in_err-w.ensures.1)) ∙ rw (refused.1, refused.2, c.in_err-w.ensures.0) refl

pub returns-in_err-a : goal.returns-in_err-a
unfolding carried refusal outcome_words bytes_after over
returns-in_err-a c =
    let a = c.args in
    let b = a.words.now in
    let bytes : All Byte b = all_at Byte b 0 (λ i h. omega (arith, c.slice_known-1.given i)) in
    let refused = err_from_is_err_and c.from_residual-in_err-a.result c.from_residual-in_err-a.ensures.1 in
    step_rest b a.out.now a.operation a.x a.y bytes (omega arith) (omega (arith, c.in_ok-w.ensures.1)) _ _ (search rules) (rw c.in_ok-w.ensures.0 at c.in_err-a.ensures)
    ∙ rw (refused.1, refused.2) refl

pub returns : goal.returns
unfolding carried refusal outcome_words bytes_after
returns c =
    let a = c.args in
    let b = a.words.now in
    let bytes : All Byte b = all_at Byte b 0 (λ i h. omega (arith, c.slice_known-1.given i)) in
    step_rest b a.out.now a.operation a.x a.y bytes (omega arith) (omega (arith, c.in_ok-w.ensures.1)) _ _ (search rules) (rw c.in_ok-w.ensures.0 at c.in_ok-a.ensures)
    ∙ simp (c.save.ensures, c.from.ensures, c.save-2.ensures)
