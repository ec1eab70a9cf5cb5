-- `reach`: the least of the gaps. Assumes nothing.
use borrow.Author.Rules.{rules}
use lib.ListN.{get_or}
use Rattle.cardlayout.specs.Reach.{gap, gap_to, reach}
use Rattle.card_checks.proofs.owners.reach.Goals as goal

pub returns : goal.returns
unfolding reach gap_to
returns c = c.least.ensures (λ x. gap x (get_or c.args.names.now c.args.h 0)) (λ x y p. search rules)
