-- Steps, routes and refused offers leave the prices of the cards, and an accepted offer puts in its own: of any two slices, whatever is in them. Assumes nothing.
use Rattle.std.specs.Prelude.{◌≡◌, ℕ, length, set, drop}
use Rattle.std.proofs.Math.Path.{refl, ap}
use Rattle.std.proofs.Common.{sym, ◌∙◌, arith, leb→le}
use mathlib.Core.List.{List, [], ◌∷◌, map}
use Rattle.std.proofs.Math.ListN.{length-set, length-map}
use Rattle.lists.specs.Choice.{tested}
use Rattle.protocol.specs.declared.Answer.TheVariants.{Quiet, Found, Entered, Gone, JoinTurnedAway, LeaveTurnedAway, Joined, Left}
use Rattle.protocol.specs.declared.refusal.Refusal.{Refusal}
use Rattle.protocol.specs.declared.refusal.Refusal.TheVariants.{NotWellFormed, RecordShort}
use Rattle.protocol.specs.Outcomes.{Outcome}
use Rattle.std.specs.Prelude.{Err, Ok}
use Rattle.protocol.specs.Record.{read}
use Rattle.protocol.specs.WellFormed.{identifiers}
use Rattle.protocol.specs.Calls.{step_call}
use Rattle.protocol.specs.Cards.{book_size, Book, marks_in, read_book, marked, rehoused, moved, Offered, declined, kept, CardsCalled, both_long, on_both, put_book, following, after_call, step_cards, offer_written, offer_call}
use Rattle.cardlayout.specs.Books.{Fits, Neat, read_fits, read_book_lem}
use Rattle.cardlayout.specs.Sound.{neat}
use Rattle.custody.specs.Custody.{Offer, CardCall, step, offer, route, made, card_history, cards_after, prices_then, prices_after, priced, Conserved}
use Rattle.custody.specs.Routes.{behind_prices}
use Rattle.custody.specs.Offers.{Fair}
use Rattle.custody.proofs.Offers.{offer_fair}
use Rattle.custody.specs.Kept.{map_after}

module _ (w k : List ℕ) where
  abbrev prices : List Offer
  prices = map priced (read_book k).cards

  abbrev after : CardsCalled → List Offer
  after z = map priced (read_book z.cards).cards

  -- what is written is read again
  put_read : (b : Book) → Fits b → map priced (read_book (put_book k b)).cards ≡ map priced b.cards
  unfolding put_book
  put_read b f = ap (λ z. map priced z.cards) (read_book_lem b (drop book_size k) f)

  -- A call that has passed the first questions: the slice of the cards is neat.
  asked : (c : CardCall) (rest : CardsCalled) → (Neat k → after rest ≡ prices_then prices c rest.outcome) → after (on_both w k rest) ≡ prices_then prices c (on_both w k rest).outcome
  unfolding on_both both_long
  asked c rest go =
      tested Right _ _ _ (as_it_was c RecordShort) (λ _. tested Right _ _ _ (as_it_was c RecordShort) (λ l. tested Right _ _ _ (as_it_was c NotWellFormed) (λ _. tested Right _ _ _ (as_it_was c NotWellFormed)
      (λ t. go (neat (identifiers (read w)) k (leb→le book_size (length k) l) t)))))
    where
      Right : CardsCalled → Type 0
      Right z = after z ≡ prices_then prices c z.outcome

      as_it_was : (c : CardCall) (number : Refusal) → prices ≡ prices_then prices c (Err number)
      as_it_was (step s) number = refl
      as_it_was (offer o) number = refl
      as_it_was (route r) number = refl

  -- cards that change hub keep their prices
  moved_prices : Neat k → (hub x : ℕ) → map priced (read_book (put_book k (moved (identifiers (read w)) (read_book k) (set (marks_in k) hub x)))).cards ≡ prices
  unfolding moved rehoused read_book
  moved_prices n hub x =
      let f = read_fits k n in
      put_read (moved (identifiers (read w)) (read_book k) (set (marks_in k) hub x))
      (record { marks = length-set (marks_in k) hub x ∙ f.marks; cards = omega (arith, f.cards, length-map (read_book k).cards (rehoused (identifiers (read w)) (marked (set (marks_in k) hub x)))) })
      ∙ map_after (rehoused (identifiers (read w)) (marked (set (marks_in k) hub x))) priced (λ c. refl) (read_book k).cards

  answered : Neat k → (slice : List ℕ) (o : Outcome) → after (after_call w k slice o) ≡ prices
  unfolding after_call following
  answered n slice (Err number) = refl
  answered n slice (Ok Quiet) = refl
  answered n slice (Ok (Found hub number ticket hops)) = refl
  answered n slice (Ok (Entered hub)) = moved_prices n hub 1
  answered n slice (Ok (Gone hub)) = tested (λ z. after z ≡ prices) _ _ _ refl (λ _. moved_prices n hub 0)
  answered n slice (Ok (JoinTurnedAway hub)) = refl
  answered n slice (Ok (LeaveTurnedAway hub)) = refl
  answered n slice (Ok (Joined hub)) = refl
  answered n slice (Ok (Left hub)) = refl

  offering : Neat k → (o : Offer) (hub : ℕ) (x : Offered) → Fair (read_book k).cards (record { machine = o.machine; revision = o.revision; price = o.price; hub = hub }) x
      → after (offer_written w k x) ≡ prices_then prices (offer o) (offer_written w k x).outcome
  unfolding offer_written read_book
  offering n o hub (declined number) f = refl
  offering n o hub (kept l) f = put_read (record { marks = marks_in k; cards = l }) (record { marks = (read_fits k n).marks; cards = f.few }) ∙ f.prices

  -- one call
  one : (c : CardCall) → after (made w k c) ≡ prices_then prices c (made w k c).outcome
  unfolding step_cards offer_call
  one (step c) = asked (step c) _ (λ n. answered n (step_call w c.operation c.x c.y).slice (step_call w c.operation c.x c.y).outcome)
  one (offer o) = asked (offer o) _ (λ n. offering n o _ _ (offer_fair (read_book k).cards _ (read_fits k n).cards))
  one (route r) = refl

pub conserved : Conserved
unfolding Conserved cards_after card_history prices_after
conserved w k [] = refl
conserved w k (c ∷ calls) =
    conserved (made w k c).slice (made w k c).cards calls
    ∙ ap (λ z. prices_after z (card_history (made w k c).slice (made w k c).cards calls)) (one w k c)
    ∙ sym (behind_prices (prices_then (prices w k) c (made w k c).outcome) w c (card_history (made w k c).slice (made w k c).cards calls))
