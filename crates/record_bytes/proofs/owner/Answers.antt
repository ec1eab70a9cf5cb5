-- `owner` meets its contract: the query on the record is the query on all words. Assumes nothing.
use Rattle.protocol.specs.Answers.{refusal, number_words}
use Rattle.protocol.specs.Bytes.{over, told}
use mathlib.Core.Path.{◌∙◌, refl}
use Rattle.std.proofs.lemmas.Result.{err_from_is_err_and}
use native.Mathlib.Omega.{arith}
use Rattle.record_bytes.specs.Results.{owner_17, owner_1, owner_rest}
use Rattle.record_bytes.proofs.owner.Goals as goal

pub returns-then-out-lt4 : goal.returns-then-out-lt4
unfolding refusal
returns-then-out-lt4 c = owner_17 c.args.words.now c.args.out.now c.args.number (omega arith)

pub returns-in_err-w : goal.returns-in_err-w
unfolding refusal
returns-in_err-w c =
    let a = c.args in
    let refused = err_from_is_err_and c.from_residual.result c.from_residual.ensures.1 in
    owner_1 a.words.now a.out.now a.number (omega arith) (omega (arith, c.in_err-w.ensures.1)) ∙ rw (refused.1, refused.2, c.in_err-w.ensures.0) refl

pub returns-in_err-hub : goal.returns-in_err-hub
unfolding told refusal number_words over
returns-in_err-hub c =
    let a = c.args in
    let refused = err_from_is_err_and c.from_residual-in_err-hub.result c.from_residual-in_err-hub.ensures.1 in
    owner_rest a.words.now a.out.now a.number (omega arith) (omega (arith, c.in_ok-w.ensures.1))
    ∙ rw (← c.in_ok-w.ensures.0, ← c.in_err-hub.ensures, refused.1, refused.2) refl

pub returns : goal.returns
unfolding told refusal number_words
returns c =
    let a = c.args in
    owner_rest a.words.now a.out.now a.number (omega arith) (omega (arith, c.in_ok-w.ensures.1))
    ∙ rw (← c.in_ok-w.ensures.0, ← c.in_ok-hub.ensures, c.save.ensures) refl
