-- `finish`: the line that has begun, if one has, is the last. Assumes nothing.
use Rattle.std.proofs.Common.{◌∙◌, ap, []}
use Rattle.std.proofs.lemmas.List.{nil_from_length}
use Rattle.stream.specs.Laws.{nothing_begun, last_line}
use Rattle.stream.proofs.taking.finish.Goals as goal

pub returns-then-line-eq0-clause-ended : goal.returns-then-line-eq0-clause-ended
returns-then-line-eq0-clause-ended c =
    let a = c.args in
    let none = nil_from_length a.line.now c.if-line-eq0.true in
    nothing_begun a.w.now a.line.now c.if-line-eq0.true ∙ ap (λ l. record { slice = a.w.now; begun = l; printed = [] }) none

pub returns-clause-ended : goal.returns-clause-ended
returns-clause-ended c =
    let a = c.answer in
    last_line c.args.w.now c.args.line.now c.if-line-eq0.false _ a.ensures.ended
