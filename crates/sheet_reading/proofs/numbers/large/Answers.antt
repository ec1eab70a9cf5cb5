-- `large`: too large, or as it is. Assumes nothing.
use mathlib.Core.Path.{◌∙◌}
use Rattle.std.proofs.Common.{rules, of_calls}
use Rattle.sheets.specs.Grammar.{is_digit}
use Rattle.sheet_reading.specs.Judged.{word_tried, large_more, large_none}
use Rattle.sheet_reading.proofs.numbers.large.Goals as goal

pub returns-then-end-from : goal.returns-then-end-from
returns-then-end-from c =
    let u = c.run_end-end.ensures.runs is_digit (λ b r h p. search rules) in
    (u, large_more c.args.text.now c.args.from c.run_end-end.result c.args.value u c.requires.1 c.if-end-from.true)

pub returns : goal.returns
returns c = (c.run_end-end.ensures.runs is_digit (search (of_calls, rules)), c.ok.ensures.value ∙ word_tried c.args.value c.try_from.result c.try_from.ensures ∙ large_none c.args.text.now c.args.from c.run_end-end.result c.args.value c.if-end-from.false)
