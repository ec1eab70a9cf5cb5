-- A route is its asks, one by one: the same outcomes, and the same record. Assumes nothing.
use Rattle.std.specs.Prelude.{◌≡◌, Bool, ℕ, T}
use Rattle.std.proofs.Math.Path.{refl, ap}
use Rattle.std.proofs.Common.{◌∙◌}
use Rattle.std.proofs.Math.Bool.{true, false}
use mathlib.Core.List.{List, [], ◌∷◌, ◌++◌, map}
use Rattle.lists.specs.Basics.{when◌then◌else◌, require, All}
use Rattle.lists.specs.Choice.{tested, granted}
use Rattle.protocol.specs.Outcomes.{Outcome}
use Rattle.protocol.specs.WellFormed.{well_formed}
use Rattle.protocol.specs.Calls.{long, on_record, step_call}
use Rattle.protocol.specs.Membership.{after_outcome}
use Rattle.protocol.specs.Batch.{ask_each, fitting, on_batch, BatchCalled, batch_written, batch_call, batch_outcomes}
use Rattle.layout.specs.Asks.{ask_cases}
use Rattle.atomicity.specs.Demand3.{Call, Word, ThreeWords, present, history, record_after, members_after}
use Rattle.atomicity.specs.Demand3C.{ask}
use Rattle.atomicity.specs.TheoremC.{asked_record, asks_words}
use Rattle.custody.specs.Custody.{Offer, Route, CardCall, step, offer, route, CardEvent, questions, behind, asks, step_events, prices_after}

-- Of every slice, also of one that no ring made: what the questions get is the history of the asks (and what they leave is the record after them:
-- `asked_record`). So a list with routes is, for demand 3, a list of steps, and its theorem says of routes all that it says of steps.
pub asked_history : (w : List ℕ) (hub : ℕ) (numbers : List ℕ)
    → step_events (questions hub numbers (ask_each w hub numbers).outcomes) ≡ history present w (map (ask hub) numbers)
unfolding step_events questions ask_each history
asked_history w hub [] = refl
asked_history w hub (v ∷ numbers) =
    ap (λ l. record { call = ask hub v; outcome = (step_call w 0 hub v).outcome } ∷ l) (asked_history (step_call w 0 hub v).slice hub numbers)

none_asked : (hub : ℕ) (numbers : List ℕ) → questions hub numbers [] ≡ []
unfolding questions
none_asked hub [] = refl
none_asked hub (v ∷ numbers) = refl

-- The same of the whole call, where the record passes 1 and 2: whether the numbers fit or not, it is the asks that the route stands for.
module _ (w : List ℕ) (r : Route) (long_enough : T (long w)) (well_formed_lem : T (well_formed w)) where
  -- by the two tests, which both sides make
  history_by : (a b : Bool) → step_events (questions r.hub r.numbers (require a [] (require b [] (ask_each w r.hub r.numbers).outcomes)))
      ≡ history present w (require a [] (require b [] (map (ask r.hub) r.numbers)))
  unfolding require when◌then◌else◌ step_events history
  history_by true true = asked_history w r.hub r.numbers
  history_by true false = ap step_events (none_asked r.hub r.numbers)
  history_by false b = ap step_events (none_asked r.hub r.numbers)

  record_by : (a b : Bool) (long short : BatchCalled) → long.slice ≡ w → short.slice ≡ w
      → (require a long (require b short (batch_written r.numbers r.out (ask_each w r.hub r.numbers)))).slice
      ≡ record_after present w (require a [] (require b [] (map (ask r.hub) r.numbers)))
  unfolding require when◌then◌else◌ record_after batch_written
  record_by true true long short el es = asked_record w r.hub r.numbers
  record_by true false long short el es = es
  record_by false b long short el es = el

  pub route_history : step_events (behind w (route r)) ≡ history present w (asks r)
  unfolding batch_outcomes on_batch on_record fitting
  route_history = granted Same _ _ _ long_enough (granted Same _ _ _ well_formed_lem (history_by _ _))
    where
      Same : List Outcome → Type 0
      Same l = step_events (questions r.hub r.numbers l) ≡ history present w (asks r)

  pub route_record : (batch_call w r.hub r.numbers r.out).slice ≡ record_after present w (asks r)
  unfolding batch_call on_batch on_record fitting
  route_record = granted Same _ _ _ long_enough (granted Same _ _ _ well_formed_lem (record_by _ _ _ _ refl refl))
    where
      Same : BatchCalled → Type 0
      Same z = z.slice ≡ record_after present w (asks r)

-- An ask is refused, quiet or found: no ledger changes.
module _ (members : List ℕ) where
  ask_stays : (w : List ℕ) (hub v : ℕ) → after_outcome members (step_call w 0 hub v).outcome ≡ members
  unfolding after_outcome
  ask_stays w hub v = ask_cases (λ o. after_outcome members o ≡ members) w hub v (λ k. refl) (λ ticket. refl) refl

  each_stays : (w : List ℕ) (hub : ℕ) (numbers : List ℕ) → members_after members (history present w (map (ask hub) numbers)) ≡ members
  unfolding members_after history
  each_stays w hub [] = refl
  each_stays w hub (v ∷ numbers) =
      ap (λ z. members_after z (history present (step_call w 0 hub v).slice (map (ask hub) numbers))) (ask_stays w hub v)
      ∙ each_stays (step_call w 0 hub v).slice hub numbers

  pub route_stays : (w : List ℕ) (r : Route) → members_after members (history present w (asks r)) ≡ members
  unfolding fitting members_after history
  route_stays w r = tested Stays _ _ _ refl (λ _. tested Stays _ _ _ refl (λ _. each_stays w r.hub r.numbers))
    where
      Stays : List Call → Type 0
      Stays calls = members_after members (history present w calls) ≡ members

-- No question changes a price.
questions_prices : (prices : List Offer) (hub : ℕ) (numbers : List ℕ) (outcomes : List Outcome) (events : List CardEvent)
    → prices_after prices (questions hub numbers outcomes ++ events) ≡ prices_after prices events
unfolding questions prices_after
questions_prices prices hub [] outcomes events = refl
questions_prices prices hub (v ∷ numbers) [] events = refl
questions_prices prices hub (v ∷ numbers) (o ∷ outcomes) events = questions_prices prices hub numbers outcomes events

pub behind_prices : (prices : List Offer) (w : List ℕ) (c : CardCall) (events : List CardEvent) → prices_after prices (behind w c ++ events) ≡ prices_after prices events
behind_prices prices w (step c) events = refl
behind_prices prices w (offer o) events = refl
behind_prices prices w (route r) events = questions_prices prices r.hub r.numbers (batch_outcomes w r.hub r.numbers r.out) events

-- The asks' numbers.
pub route_words : (r : Route) → Word r.hub → All Word r.numbers → All ThreeWords (asks r)
unfolding fitting
route_words r h a = tested (All ThreeWords) _ _ _ tt (λ _. tested (All ThreeWords) _ _ _ tt (λ _. asks_words r.hub h r.numbers a))

-- The events of a route's questions, in front of others.
events_append : (hub : ℕ) (numbers : List ℕ) (outcomes : List Outcome) (events : List CardEvent)
    → step_events (questions hub numbers outcomes ++ events) ≡ step_events (questions hub numbers outcomes) ++ step_events events
unfolding questions step_events
events_append hub [] outcomes events = refl
events_append hub (v ∷ numbers) [] events = refl
events_append hub (v ∷ numbers) (o ∷ outcomes) events = ap (λ l. record { call = ask hub v; outcome = o } ∷ l) (events_append hub numbers outcomes events)

pub route_append : (w : List ℕ) (r : Route) (events : List CardEvent) → step_events (behind w (route r) ++ events) ≡ step_events (behind w (route r)) ++ step_events events
route_append w r events = events_append r.hub r.numbers (batch_outcomes w r.hub r.numbers r.out) events
