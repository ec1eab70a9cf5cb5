-- `put`: by whether a card of its machine is found. Assumes nothing.
use mathlib.Core.Path.{◌∙◌, ap, sym}
use native.Mathlib.Omega.{arith}
use Prim.Native.Nat.{◌+◌}
use lib.ListN.{set}
use Rattle.protocol.specs.Cards.{cards_in}
use Rattle.card_offers.specs.Offers.{added_is, offer_kept, offer_24, offer_last}
use Rattle.card_offers.proofs.offers.put.Goals as goal

pub renew-requires : goal.renew-requires
renew-requires c = (c.requires, c.in-Some.ensures.1)

pub returns-in-Some : goal.returns-in-Some
returns-in-Some c = let found = c.in-Some.ensures in
    λ w. offer_kept w c.args.k.now c.args.c c.in-Some.j found.0 found.1 ∙ c.renew.ensures w

pub returns-then-m-lt-MOST_CARDS : goal.returns-then-m-lt-MOST_CARDS
returns-then-m-lt-MOST_CARDS c = let k = c.args.k.now in
    λ w. offer_last w k c.args.c (cards_in k) (sym c.in_default.ensures) (omega arith) c.if-m-lt-MOST_CARDS.true _ (ap (λ z. set z 0 (cards_in k + 1)) c.put_card.ensures ∙ added_is k c.requires c.args.c c.if-m-lt-MOST_CARDS.true)

pub returns : goal.returns
returns c = let k = c.args.k.now in
    λ w. offer_24 w k c.args.c (cards_in k) (sym c.in_default.ensures) (omega arith) c.if-m-lt-MOST_CARDS.false
