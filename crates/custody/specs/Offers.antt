-- What an offer may make of a list of cards, and of the plain list of prices. (That it does so is `offer_fair`, proofs/Offers.antt.)
use Rattle.std.specs.Prelude.{◌≡◌, ◌⊎◌, List, map, ◌≤◌, length}
use Rattle.lists.specs.Basics.{Mem}
use Rattle.lists.specs.Tests.{Distinct}
use Rattle.protocol.specs.declared.Card.{Card}
use Rattle.protocol.specs.Cards.{most_cards, Offered, declined, kept}
use Rattle.custody.specs.Custody.{put, priced}

-- For every list of cards, and every card that is offered.
module _ (cards : List Card) (c : Card) where
  -- cards that an accepted offer leaves
  pub record Right (l : List Card) : Type 0 where
    pub few : length l ≤ most_cards
    pub from : (x : Card) → Mem x l → (x ≡ c) ⊎ Mem x cards
    pub differ : Distinct (map (λ z. z.machine) cards) → Distinct (map (λ z. z.machine) l)
    pub prices : map priced l ≡ put (map priced cards) (priced c)

  abbrev pub Fair : Offered → Type 0
  Fair (declined number) = Unit {0}
  Fair (kept l) = Right l
