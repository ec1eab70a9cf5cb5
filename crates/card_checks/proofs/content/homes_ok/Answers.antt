-- `homes_ok`: a table of reaches, and every card held against it. Assumes nothing.
use mathlib.Core.Path.{sym, subst}
use native.Mathlib.Omega.{arith}
use Rattle.protocol.specs.Cards.{marks_in}
use Rattle.cardlayout.specs.Sound.{MarksForm}
use Rattle.card_checks.specs.Marks.{marks_size}
use Rattle.card_checks.specs.Homes.{homes_law}
use Rattle.card_checks.proofs.content.homes_ok.Goals as goal

pub returns : goal.returns
returns c = let k = c.args.cards.now.words.now in
    λ ids n o e f. homes_law ids c.args.names.now (marks_in k) n o (subst (λ z. MarksForm z (marks_in k)) (sym e) f) (marks_size k (omega arith)) _ (c.member_reaches-reaches.ensures ids n o e f)
    k c.args.cards.now.fit c.args.cards.now.count c.all_home.result c.all_home.ensures
