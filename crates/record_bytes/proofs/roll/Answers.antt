-- `roll` meets its contract: the nodes around the ring, by the record, are what the roll call on all words gives. Assumes nothing.
use mathlib.Core.Path.{◌∙◌, refl}
use Rattle.std.proofs.lemmas.Result.{err_from_is_err_and}
use native.Mathlib.Omega.{arith}
use Rattle.lists.specs.Basics.{All}
use Rattle.lists.specs.Members.{all_at}
use Rattle.protocol.specs.Answers.{refusal}
use Rattle.protocol.specs.Bytes.{Byte}
use Rattle.record_bytes.specs.Results.{roll_length_17, roll_1, roll_refused, roll_17, roll_rest}
use Rattle.record_bytes.proofs.roll.Goals as goal

pub returns-then-length-lt4 : goal.returns-then-length-lt4
unfolding refusal
returns-then-length-lt4 c =
    let a = c.args in
    roll_length_17 a.words.now a.roll.now a.length.now a.node (omega arith)

pub returns-in_err-w : goal.returns-in_err-w
unfolding refusal
returns-in_err-w c =
    let a = c.args in
    let refused = err_from_is_err_and c.from_residual.result c.from_residual.ensures.1 in
    roll_1 a.words.now a.roll.now a.length.now a.node (omega arith) (omega (arith, c.in_err-w.ensures.1)) ∙ rw (refused.1, refused.2, c.in_err-w.ensures.0) refl

pub returns-in_err-around : goal.returns-in_err-around
unfolding refusal
returns-in_err-around c =
    let a = c.args in
    let refused = err_from_is_err_and c.from_residual-in_err-around.result c.from_residual-in_err-around.ensures.1 in
    roll_refused a.words.now a.roll.now a.length.now a.node (omega arith) (omega (arith, c.in_ok-w.ensures.1)) _ (rw c.in_ok-w.ensures.0 at c.in_err-around.ensures)
    ∙ rw (refused.1, refused.2) refl

pub returns-then-roll-nodes : goal.returns-then-roll-nodes
unfolding refusal
returns-then-roll-nodes c =
    let a = c.args in
    roll_17 a.words.now a.roll.now a.length.now a.node (omega arith) (omega (arith, c.in_ok-w.ensures.1)) c.in_ok-around.around
    (rw c.in_ok-w.ensures.0 at c.in_ok-around.ensures)
    (rw (← c.as_slice-nodes.ensures.value) c.if-roll-nodes.true)

pub returns : goal.returns
unfolding refusal
returns c =
    let a = c.args in
    let bytes : All Byte a.roll.now = all_at Byte a.roll.now 0 (λ i h. omega (arith, c.slice_known-1.given i)) in
    roll_rest a.words.now a.roll.now a.length.now a.node (omega arith) (omega (arith, c.in_ok-w.ensures.1)) c.in_ok-around.around
    (rw c.in_ok-w.ensures.0 at c.in_ok-around.ensures) bytes (rw (← c.as_slice-nodes.ensures.value) c.if-roll-nodes.false)
    ∙ rw (c.save.ensures, c.save-2.ensures, c.as_slice-nodes.ensures.value) refl
