-- `questions`: at each return the questions asked so far decide. Assumes nothing.
use Rattle.std.proofs.Common.{sym, ◌∙◌}
use Rattle.layout.specs.Questions.{record_1, record_2, record_rest}
use Rattle.std.specs.Prelude.{Ok, Err}
use Rattle.wellformed.proofs.opening.questions.Goals as goal

pub returns-then-w-lt-RECORD_WORDS : goal.returns-then-w-lt-RECORD_WORDS
returns-then-w-lt-RECORD_WORDS c = sym (record_1 c.args.w.now Err (Ok tt) c.if-w-lt-RECORD_WORDS.true)

pub returns-then-not-well_formed : goal.returns-then-not-well_formed
returns-then-not-well_formed c =
    sym (record_2 c.args.w.now Err (Ok tt) c.if-w-lt-RECORD_WORDS.false (sym c.well_formed-2.ensures ∙ c.if-not-well_formed.true))

pub returns : goal.returns
returns c =
    sym (record_rest c.args.w.now Err (Ok tt) c.if-w-lt-RECORD_WORDS.false (sym c.well_formed-2.ensures ∙ c.if-not-well_formed.false))
