-- `finish_sheet` hands back the refusal, or the counts of a sheet. Assumes nothing.
use Rattle.std.proofs.Common.{sym, ap, ◌∙◌}
use Rattle.std.proofs.lemmas.Result.{err_from_is_err_and}
use Rattle.protocol.specs.Answers.{refusal}
use Rattle.sheet_bytes.specs.Told.{count_words, counts_after}
use Rattle.sheet_bytes.proofs.results.finish_sheet.Goals as goal

pub returns-in_err-rows-clause-code : goal.returns-in_err-rows-clause-code
unfolding refusal
returns-in_err-rows-clause-code c =
    let refused = err_from_is_err_and c.from_residual.result c.from_residual.ensures.1 in
    rw (refused.1, refused.2) (sym (ap refusal c.in_err-rows.was))

pub returns-in_err-rows-clause-counts : goal.returns-in_err-rows-clause-counts
unfolding counts_after
returns-in_err-rows-clause-counts c = sym (ap (counts_after c.args.counts.now) c.in_err-rows.was)

pub returns-clause-code : goal.returns-clause-code
unfolding refusal
returns-clause-code c = sym (ap refusal c.in_ok-rows.was)

pub returns-clause-counts : goal.returns-clause-counts
unfolding counts_after count_words
returns-clause-counts c = c.save.ensures ∙ sym (ap (counts_after c.args.counts.now) c.in_ok-rows.was)
