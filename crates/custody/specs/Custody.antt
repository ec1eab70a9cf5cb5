-- 2026-04, stated: what is claimed of every list of steps with cards, offers and (2026-06) routes, from every card slice that was made with its
-- ring. Its proof is `custody` in proofs/Theorem.antt. It cites the definitions of `protocol`, those of demand 3 (Demand3.antt) and of a ring at rest
-- (AtRest.antt), and these few about lists of the three calls.
-- (From `lists`: Mem, being an element; All, of each element.)
use Rattle.std.specs.Prelude.{◌≡◌, List, [], ◌∷◌, ◌++◌, map, ℕ, ◌+◌, ◌<◌, nat_eq, get_or}
use Rattle.lists.specs.Basics.{when◌then◌else◌, Mem, All}
use Rattle.protocol.specs.declared.Card.{Card}
use Rattle.protocol.specs.declared.Message.{Message}
use Rattle.protocol.specs.declared.Answer.TheVariants.{Quiet}
use Rattle.protocol.specs.declared.refusal.Refusal.{Refusal}
use Rattle.protocol.specs.Outcomes.{Outcome}
use Rattle.std.specs.Prelude.{Err, Ok}
use Rattle.protocol.specs.Record.{most_nodes, read}
use Rattle.protocol.specs.Membership.{founding_members, mark, node, owner_among}
use Rattle.protocol.specs.Calls.{fresh_by_call}
use Rattle.protocol.specs.Batch.{fitting, BatchCalled, batch_call, batch_outcomes}
use Rattle.protocol.specs.Cards.{card_start, cards_in, card_from, read_book, CardsCalled, on_both, step_cards, offer_call, fresh_by_cards}
use Rattle.atomicity.specs.Demand3.{Call, Word, ThreeWords, Event, present, history, record_after, members_after, Claims}
use Rattle.atomicity.specs.Demand3C.{ask}
use Rattle.rest.specs.AtRest.{Rests, Resting}

-- An offered card: its hub is not passed.
pub record Offer : Type 0 where
  pub machine : ℕ
  pub revision : ℕ
  pub price : ℕ

-- A route: numbers that are asked at one hub in one call, and the output that is lent to it, of any length.
pub record Route : Type 0 where
  pub hub : ℕ
  pub numbers : List ℕ
  pub out : List ℕ

-- A call of the list: a step with cards, an offer, or a route; any numbers of 32 bits.
pub data CardCall : Type 0 where
  step : Call → CardCall
  offer : Offer → CardCall
  route : Route → CardCall

abbrev pub InWords : CardCall → Type 0
InWords (step c) = ThreeWords c
InWords (offer o) = Word o.machine × Word o.revision × Word o.price
InWords (route r) = Word r.hub × All Word r.numbers

-- A route is lent no cards: an ask moves none.
abbrev pub lent_none : List ℕ → BatchCalled → CardsCalled
lent_none k called = record { outcome = called.outcome; slice = called.slice; cards = k }

abbrev pub made : List ℕ → List ℕ → CardCall → CardsCalled
made w k (step c) = step_cards w k c.operation c.x c.y
made w k (offer o) = offer_call w k o.machine o.revision o.price
made w k (route r) = lent_none k (batch_call w r.hub r.numbers r.out)

-- A call with what it gave.
pub record CardEvent : Type 0 where
  pub call : CardCall
  pub outcome : Outcome

-- A question of a route is the step that asks it (`ask`), so each number with its outcome is the event of a step.
unfoldable pub questions : ℕ → List ℕ → List Outcome → List CardEvent
questions hub [] outcomes = []
questions hub (v ∷ numbers) [] = []
questions hub (v ∷ numbers) (o ∷ outcomes) = record { call = step (ask hub v); outcome = o } ∷ questions hub numbers outcomes

-- What follows the event of a call: the questions of a route, in list order; none where the route is refused.
abbrev pub behind : List ℕ → CardCall → List CardEvent
behind w (step c) = []
behind w (offer o) = []
behind w (route r) = questions r.hub r.numbers (batch_outcomes w r.hub r.numbers r.out)

-- A call gets what the one before it left in both slices, refused or not.
unfoldable pub card_history : List ℕ → List ℕ → List CardCall → List CardEvent
card_history w k [] = []
card_history w k (c ∷ calls) =
    record { call = c; outcome = (made w k c).outcome } ∷ (behind w c ++ card_history (made w k c).slice (made w k c).cards calls)

unfoldable pub words_after : List ℕ → List ℕ → List CardCall → List ℕ
words_after w k [] = w
words_after w k (c ∷ calls) = words_after (made w k c).slice (made w k c).cards calls

unfoldable pub cards_after : List ℕ → List ℕ → List CardCall → List ℕ
cards_after w k [] = k
cards_after w k (c ∷ calls) = cards_after (made w k c).slice (made w k c).cards calls

-- The steps that a route stands for: an ask for each number; none where there are too many numbers (25) or too few places (26). The record is not
-- looked at: one from a made ring passes 1 and 2.
abbrev pub asks : Route → List Call
asks r = fitting r.numbers r.out (λ k. []) (map (ask r.hub) r.numbers)

-- The steps alone: their calls, a route's asks among them, and their events with cards.
unfoldable pub steps : List CardCall → List Call
steps [] = []
steps (step c ∷ calls) = c ∷ steps calls
steps (offer o ∷ calls) = steps calls
steps (route r ∷ calls) = asks r ++ steps calls

abbrev pub step_event : CardCall → Outcome → List Event → List Event
step_event (step c) outcome events = record { call = c; outcome = outcome } ∷ events
step_event (offer o) outcome events = events
step_event (route r) outcome events = events

unfoldable pub step_events : List CardEvent → List Event
step_events [] = []
step_events (e ∷ events) = step_event e.call e.outcome (step_events events)

-- The ledger, which knows nothing of cards.
abbrev pub ledger : ℕ → List CardEvent → List ℕ
ledger founder events = members_after (founding_members founder) (step_events events)

-- A plain list of prices, without hubs: an offer takes the place of its machine's, or goes last.
unfoldable pub put : List Offer → Offer → List Offer
put [] o = o ∷ []
put (x ∷ prices) o = when nat_eq x.machine o.machine then o ∷ prices else x ∷ put prices o

-- It is fed by the accepted offers alone.
abbrev pub prices_then : List Offer → CardCall → Outcome → List Offer
prices_then prices (step c) outcome = prices
prices_then prices (offer o) (Err number) = prices
prices_then prices (offer o) (Ok a) = put prices o
prices_then prices (route r) outcome = prices

unfoldable pub prices_after : List Offer → List CardEvent → List Offer
prices_after prices [] = prices
prices_after prices (e ∷ events) = prices_after (prices_then prices e.call e.outcome) events

abbrev pub priced : Card → Offer
priced c = record { machine = c.machine; revision = c.revision; price = c.price }

-- A record and a card slice that were made together, with the calls behind them: any two lent slices, any identifiers and any founder that
-- fresh with cards accepts, and any list of steps, offers and routes, refused ones included, each lent both (a route: the record alone). Where the
-- caller names no founder, it is the hub of the smallest identifier (`fresh_cards`).
pub record Lent (ids : List ℕ) (founder : ℕ) (events : List CardEvent) (w k : List ℕ) : Type 0 where
  pub slice : List ℕ
  pub book : List ℕ
  pub calls : List CardCall
  pub small : All Word ids
  pub commands : All InWords calls
  pub accepted : (fresh_by_cards slice book ids founder).outcome ≡ Ok Quiet
  pub happened : events ≡ card_history (fresh_by_cards slice book ids founder).slice (fresh_by_cards slice book ids founder).cards calls
  pub is_record : w ≡ words_after (fresh_by_cards slice book ids founder).slice (fresh_by_cards slice book ids founder).cards calls
  pub is_cards : k ≡ cards_after (fresh_by_cards slice book ids founder).slice (fresh_by_cards slice book ids founder).cards calls

-- What is claimed of a ring of these identifiers that this hub founded, with these events behind it, the record w and the card slice k.
-- `bare` is the record that fresh without cards writes, and `alone` the steps alone.
pub record CardClaims (ids : List ℕ) (founder : ℕ) (bare : List ℕ) (alone : List Call) (events : List CardEvent) (w k : List ℕ) : Type 0 where
  -- (a) The word of each hub says whether it is in the ledger.
  pub members : (hub : ℕ) → hub < most_nodes → get_or k (1 + hub) 0 ≡ mark (ledger founder events) hub
  -- (b) Who keeps a card is, by the ledger, the owner of its machine.
  pub held : (j : ℕ) → j < cards_in k
      → owner_among ids (ledger founder events) (card_from k (card_start j)).machine ≡ node (card_from k (card_start j)).hub
  -- (c) The cards are those that the accepted offers alone give, in order: none is lost, and none is there twice.
  pub prices : map priced (read_book k).cards ≡ prices_after [] events
  -- (d) Both slices pass the questions that every call with cards begins with: they are long enough, and well formed. So machines differ.
  pub ready : (rest : CardsCalled) → on_both w k rest ≡ rest
  -- (e) Cards change nothing of the steps, and a route is its asks one by one: outcomes and record are those of the steps alone, without cards. So
  -- the last question refuses none of them, and neither 1 nor 2 keeps the numbers of a route from being asked.
  pub outcomes : step_events events ≡ history present bare alone
  pub same : w ≡ record_after present bare alone
  -- (f) Demand 3's claims hold of them; and of its last one also this: a next deliver with cards is refused no more than one without.
  pub claims : Claims present ids founder (step_events events) w
  pub next : (m : Message) → Mem m (read w).messages → (number : Refusal) → (step_cards w k 3 m.from m.to).outcome ≡ Err number → ⊥
  -- (g) And so do those of a ring at rest (2026-07): where no message waits, the roll is exactly the ledger, and each card's hub is on it.
  pub at_rest : Rests w → Resting ids (ledger founder events) w

-- Of every slice that was made with its ring.
unfoldable pub Custody : Type 0
Custody =
    (ids : List ℕ) (founder : ℕ) (events : List CardEvent) (w k : List ℕ) (r : Lent ids founder events w k)
    → CardClaims ids founder (fresh_by_call r.slice ids founder).slice (steps r.calls) events w k

-- (c) of any two slices, also of those that no ring made, whatever is in them: steps, routes and refused offers leave the prices as they are, and
-- an accepted offer puts in its own.
unfoldable pub Conserved : Type 0
Conserved =
    (w k : List ℕ) (calls : List CardCall)
    → map priced (read_book (cards_after w k calls)).cards ≡ prices_after (map priced (read_book k).cards) (card_history w k calls)
