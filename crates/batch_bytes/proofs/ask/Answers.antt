-- `ask`: the questions of the call in order, then the questions on the words that were loaded. Assumes nothing.
use Rattle.protocol.specs.Answers.{refusal}
use mathlib.Core.Path.{◌≡◌, sym, ap, ◌∙◌, refl}
use mathlib.Core.Bool.{true}
use Prim.Native.Nat.{◌*◌, ◌/◌}
use native.Mathlib.Omega.{arith}
use lib.ListN.{length, replicate}
use lib.Seq.{length-take-le}
use Rattle.std.proofs.lemmas.Result.{err_from_is_err_and}
use Rattle.lists.specs.Basics.{All}
use Rattle.lists.specs.Members.{all_at}
use Rattle.lists.specs.Blocks.{length_table}
use Rattle.protocol.specs.declared.refusal.Refusal.TheVariants.{RouteLong}
use Rattle.protocol.specs.Record.{record_size}
use Rattle.protocol.specs.WellFormed.{well_formed}
use Rattle.protocol.specs.Bytes.{Byte}
use Rattle.wellformed.specs.Questions.{passed_formed, passed_so, stopped_long}
use Rattle.word_bytes.specs.Carry.{word_at, first_words, words_all, words_length}
use Rattle.word_bytes.specs.Counted.{all_came, too_many}
use Rattle.batch_bytes.specs.Results.{bytes_1, bytes_2, bytes_25, bytes_26, bytes_rest}
use Rattle.batch_bytes.proofs.ask.Goals as goal

pub returns-in_err-w : goal.returns-in_err-w
unfolding refusal
returns-in_err-w c =
    let a = c.args in
    let refused = err_from_is_err_and c.from_residual.result c.from_residual.ensures.1 in
    bytes_1 a.words.now a.node a.numbers.now a.outcomes.now (omega (arith, c.in_err-w.ensures.1)) ∙ rw (refused.1, refused.2, c.in_err-w.ensures.0) refl

pub returns-in_err-questions : goal.returns-in_err-questions
unfolding refusal
returns-in_err-questions c =
    let a = c.args in
    let b = a.words.now in
    let refused = err_from_is_err_and c.from_residual-in_err-questions.result c.from_residual-in_err-questions.ensures.1 in
    let size = length_table record_size (word_at b) in
    let stopped = stopped_long (first_words b record_size) _ (omega (arith, size)) (rw c.in_ok-w.ensures.0 at c.in_err-questions.ensures) in
    bytes_2 b a.node a.numbers.now a.outcomes.now (omega (arith, c.in_ok-w.ensures.1)) stopped.0 ∙ rw (refused.1, refused.2, stopped.1) refl

pub returns-in_err-asked : goal.returns-in_err-asked
unfolding refusal
returns-in_err-asked c =
    let a = c.args in
    let b = a.words.now in
    let refused = err_from_is_err_and c.from_residual-in_err-asked.result c.from_residual-in_err-asked.ensures.1 in
    let f : well_formed (first_words b record_size) ≡ true = passed_formed (first_words b record_size) (rw c.in_ok-w.ensures.0 at c.in_ok-questions.ensures) in
    let many = too_many 64 a.numbers.now RouteLong c.of.result _ c.of.ensures c.in_err-asked.ensures.value in
    bytes_25 b a.node a.numbers.now a.outcomes.now (omega (arith, c.in_ok-w.ensures.1)) f (omega (arith, many.1)) ∙ rw (refused.1, refused.2, many.0) refl

pub returns-then-outcomes-numbers : goal.returns-then-outcomes-numbers
unfolding refusal
returns-then-outcomes-numbers c =
    let a = c.args in
    let b = a.words.now in
    let i = a.numbers.now in
    let f : well_formed (first_words b record_size) ≡ true = passed_formed (first_words b record_size) (rw c.in_ok-w.ensures.0 at c.in_ok-questions.ensures) in
    let came = all_came 64 i RouteLong c.of.result c.in_ok-asked.asked c.of.ensures c.in_ok-asked.ensures.value in
    let count : length c.as_slice-numbers.result.now ≡ length i / 4 = ap length (c.as_slice-numbers.ensures ∙ came.0) ∙ words_length i in
    bytes_26 b a.node i a.outcomes.now (omega (arith, c.in_ok-w.ensures.1)) f came.1 (omega (arith, count))

pub ask_each-requires : goal.ask_each-requires
ask_each-requires c =
    let i = c.args.numbers.now in
    let came = all_came 64 i RouteLong c.of.result c.in_ok-asked.asked c.of.ensures c.in_ok-asked.ensures.value in
    let count : length c.as_slice-numbers.result.now ≡ length i / 4 = ap length (c.as_slice-numbers.ensures ∙ came.0) ∙ words_length i in
    (passed_so c.in_ok-w.w c.in_ok-questions.ensures, omega (arith, count, came.1))

pub slice_bounds-save-end-2 : goal.slice_bounds-save-end-2
slice_bounds-save-end-2 c =
    let i = c.args.numbers.now in
    let came = all_came 64 i RouteLong c.of.result c.in_ok-asked.asked c.of.ensures c.in_ok-asked.ensures.value in
    let count : length c.as_slice-numbers.result.now ≡ length i / 4 = ap length (c.as_slice-numbers.ensures ∙ came.0) ∙ words_length i in
    sym (length-take-le (6 * length c.as_slice-numbers.result.now) c.ask_each.new.outcomes (omega (arith, count, came.1)))

pub save-requires-2 : goal.save-requires-2
save-requires-2 c =
    let i = c.args.numbers.now in
    let came = all_came 64 i RouteLong c.of.result c.in_ok-asked.asked c.of.ensures c.in_ok-asked.ensures.value in
    let count : length c.as_slice-numbers.result.now ≡ length i / 4 = ap length (c.as_slice-numbers.ensures ∙ came.0) ∙ words_length i in
    omega (arith, count, came.1, length-take-le (6 * length c.as_slice-numbers.result.now) c.ask_each.new.outcomes (omega (arith, count, came.1)))

pub returns : goal.returns
unfolding refusal
returns c =
    let a = c.args in
    let b = a.words.now in
    let i = a.numbers.now in
    let out = a.outcomes.now in
    let n = length i / 4 in
    let r = c.ask_each in
    let f : well_formed (first_words b record_size) ≡ true = passed_formed (first_words b record_size) (rw c.in_ok-w.ensures.0 at c.in_ok-questions.ensures) in
    let came = all_came 64 i RouteLong c.of.result c.in_ok-asked.asked c.of.ensures c.in_ok-asked.ensures.value in
    let count : length c.as_slice-numbers.result.now ≡ length i / 4 = ap length (c.as_slice-numbers.ensures ∙ came.0) ∙ words_length i in
    let numbers : c.as_slice-numbers.result.now ≡ first_words i n = c.as_slice-numbers.ensures ∙ came.0 ∙ words_all i in
    let bytes : All Byte b = all_at Byte b 0 (λ k h. omega (arith, c.slice_known-1.given k)) in
    let room : All Byte out = all_at Byte out 0 (λ k h. omega (arith, c.slice_known-2-1.given k)) in
    bytes_rest b a.node i out (omega (arith, c.in_ok-w.ensures.1)) f came.1 (omega (arith, count)) bytes room (replicate 384 0) r.new.w r.new.outcomes
    (rw (c.in_ok-w.ensures.0, numbers) at r.ensures)
    ∙ rw (c.save.ensures, c.save-2.ensures, numbers) refl
