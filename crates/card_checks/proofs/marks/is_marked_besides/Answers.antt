-- `is_marked_besides`: the marks of the other nodes, one by one. Assumes nothing.
use mathlib.Core.Path.{◌∙◌}
use mathlib.Core.Bool.{false}
use borrow.Author.Rules.{rules}
use Rattle.std.proofs.lemmas.Iterator.{YieldsList-from_slice}
use Rattle.std.proofs.lemmas.Iterator.Consumers.{YieldsList-from_enumerate, fold_from_yields_List}
use Rattle.card_checks.specs.Marks.{besides, others_law}
use Rattle.card_checks.proofs.marks.is_marked_besides.Goals as goal

pub returns : goal.returns
returns c = let marks = c.args.marks.now in
    let h = c.args.h in
    fold_from_yields_List _ (besides h) false c.fold.result c.fold.ensures.ran (YieldsList-from_enumerate (YieldsList-from_slice marks (cc)) (cc)) (λ a x b q k. search rules) ∙ others_law marks h
