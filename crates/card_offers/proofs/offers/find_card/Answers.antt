-- `find_card`: the first card of the machine. Assumes nothing.
use borrow.Author.Rules.{rules}
use mathlib.Core.Path.{refl}
use native.Mathlib.Omega.{arith}
use Rattle.std.specs.Prelude.{nat_eq}
use Rattle.std.proofs.lemmas.Iterator.{YieldsList-from_range}
use Rattle.std.proofs.lemmas.Iterator.Search.{find_from_yields_List}
use lib.ListN.{get_or}
use Rattle.protocol.specs.Cards.{card_start, cards_in}
use Rattle.card_offers.specs.Offers.{found_by}
use Rattle.card_offers.proofs.offers.find_card.Goals as goal

pub returns : goal.returns
returns c = let k = c.args.k.now in
    found_by _ _ c.find.result (find_from_yields_List (λ j. nat_eq (get_or k (card_start j) 0) c.args.machine) c.find.new.self _ c.find.result c.find.ensures.ran
    (YieldsList-from_range 0 (cards_in k) (cards_in k) refl (omega arith)) (λ x b q k. search rules))
