-- `renew`: the revisions, then the prices decide. Assumes nothing.
use mathlib.Core.Path.{◌∙◌, ap}
use Rattle.protocol.specs.Cards.{card_start, card_from, read_book, renewed, offer_written}
use Rattle.card_offers.specs.Offers.{card_of_read, renewed_is, offer_higher, offer_22, offer_23, offer_same}
use Rattle.card_offers.proofs.offers.renew.Goals as goal

pub returns-then-revision-c : goal.returns-then-revision-c
returns-then-revision-c c = let k = c.args.k.now in
    let j = c.args.j in
    let o = card_from k (card_start j) in
    λ w. ap (λ z. offer_written w k (renewed (read_book k).cards j z c.args.c)) (card_of_read k j c.requires.1) ∙ offer_higher w k j o c.args.c c.if-revision-c.true _ (c.put_card.ensures ∙ renewed_is k c.requires.0 j c.args.c c.requires.1)

pub returns-then-revision-c-2 : goal.returns-then-revision-c-2
returns-then-revision-c-2 c = let k = c.args.k.now in
    let j = c.args.j in
    let o = card_from k (card_start j) in
    λ w. ap (λ z. offer_written w k (renewed (read_book k).cards j z c.args.c)) (card_of_read k j c.requires.1) ∙ offer_22 w k j o c.args.c c.if-revision-c.false c.if-revision-c-2.true

pub returns-then-k-at : goal.returns-then-k-at
returns-then-k-at c = let k = c.args.k.now in
    let j = c.args.j in
    let o = card_from k (card_start j) in
    λ w. ap (λ z. offer_written w k (renewed (read_book k).cards j z c.args.c)) (card_of_read k j c.requires.1) ∙ offer_23 w k j o c.args.c c.if-revision-c.false c.if-revision-c-2.false c.if-k-at.true

pub returns : goal.returns
returns c = let k = c.args.k.now in
    let j = c.args.j in
    let o = card_from k (card_start j) in
    λ w. ap (λ z. offer_written w k (renewed (read_book k).cards j z c.args.c)) (card_of_read k j c.requires.1) ∙ offer_same w k j o c.args.c c.if-revision-c.false c.requires.0 c.if-revision-c-2.false c.if-k-at.false
