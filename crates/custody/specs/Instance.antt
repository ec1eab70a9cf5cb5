-- A case of the theorem: what is claimed of a ring of the identifiers 200 and 100 with its cards, and a list with a route. (That the premises can be
-- met there is proofs/Instance.antt.) Assumes nothing.
use Rattle.std.specs.Prelude.{◌≡◌, refl, List, [], ◌∷◌, ℕ, replicate}
use Rattle.lists.specs.Basics.{when◌then◌else◌, require}
use Rattle.protocol.specs.Calls.{fresh_by_call}
use Rattle.protocol.specs.Cards.{CardsCalled}
use Rattle.protocol.specs.Batch.{fitting}
use Rattle.atomicity.specs.Demand3.{Call}
use Rattle.atomicity.specs.Instance.{two}
use Rattle.atomicity.specs.Demand3C.{ask}
use Rattle.custody.specs.Custody.{CardCall, step, offer, route, card_history, words_after, cards_after, steps, CardClaims}

-- What is claimed of the slices that a fresh call with cards left, after any list of steps, offers and routes.
abbrev pub Going : CardsCalled → List ℕ → ℕ → List CardCall → Type 0
Going begun slice founder calls =
    CardClaims two founder (fresh_by_call slice two founder).slice (steps calls)
    (card_history begun.slice begun.cards calls) (words_after begun.slice begun.cards calls) (cards_after begun.slice begun.cards calls)

-- A list with a route: hub 0 joins by hub 1, a card is offered, and three numbers are asked at hub 1 in one call.
abbrev joining : Call
joining = record { operation = 1; x = 0; y = 1 }

abbrev pub on_tour : List ℕ → List CardCall
on_tour out =
    step joining ∷ offer (record { machine = 150; revision = 1; price = 50 })
    ∷ route (record { hub = 1; numbers = 150 ∷ 250 ∷ 150 ∷ []; out = out }) ∷ []

-- The steps that are claimed of it: with three places of six words the asks, one by one; with a word less none of them.
pub three_asks : steps (on_tour (replicate 18 0)) ≡ joining ∷ ask 1 150 ∷ ask 1 250 ∷ ask 1 150 ∷ []
unfolding steps fitting require when◌then◌else◌
three_asks = refl

pub no_asks : steps (on_tour (replicate 17 0)) ≡ joining ∷ []
unfolding steps fitting require when◌then◌else◌
no_asks = refl
