-- 2026-04, proved: every list of steps with cards, offers and routes, from every card slice made with its ring. Assumes nothing.
use Rattle.std.specs.Prelude.{◌≡◌, Bool, true, false, nat_le, length, get_or, set, replicate}
use Rattle.std.proofs.Math.Path.{refl, sym, ap, subst}
use Rattle.std.proofs.Common.{◌∙◌, arith, le→leb, length-set, ext_get_or, get_or-set_same, get_or-set_other, get_or-take, get_or-drop}
use mathlib.Core.List.{List, [], ◌∷◌, ◌++◌, map, append-nil, append_assoc}
use Prim.Native.Nat.{ℕ, ◌+◌, ◌<◌}
use Rattle.std.proofs.Math.Dec.{T}
use Rattle.std.proofs.Math.ListN.{drop, get_or-map}
use Rattle.std.proofs.lemmas.List.{length-map, length-replicate, get_or-replicate}
use Rattle.lists.specs.Basics.{when◌then◌else◌, require, Mem, All}
use Rattle.lists.specs.Choice.{granted, tested}
use Rattle.lists.specs.Members.{mem_at, by_row, all_append}
use Rattle.lists.specs.Tests.{Distinct}
use Rattle.protocol.specs.declared.Card.{Card}
use Rattle.protocol.specs.declared.Message.{Message}
use Rattle.protocol.specs.declared.Answer.TheVariants.{Quiet, Found, Entered, Gone, JoinTurnedAway, LeaveTurnedAway, Joined, Left}
use Rattle.protocol.specs.Outcomes.{Outcome}
use Rattle.std.specs.Prelude.{Err, Ok}
use Rattle.protocol.specs.declared.refusal.Refusal.{Refusal}
use Rattle.protocol.specs.declared.refusal.Refusal.TheVariants.{RecordShort}
use Rattle.protocol.specs.Record.{most_nodes, State, count, outside, read}
use Rattle.protocol.specs.WellFormed.{identifiers, well_formed}
use Rattle.protocol.specs.Step as meaning
use Rattle.protocol.specs.Step.{Result, refused}
use Rattle.protocol.specs.Step.{accepted as went}
use Rattle.protocol.specs.Calls.{Called, long, on_record, written, step_call, fresh_by_call}
use Rattle.protocol.specs.Membership.{founding_members, mark, struck_off, taken_in, after_outcome, node, owner_among}
use Rattle.protocol.specs.Cards.{book_size, card_start, Book, book_words, cards_in, marks_in, card_from, read_book, marked, home, book_ok, new_book, moved, Offered, declined, kept, no_card, offered, CardsCalled, unchanged, both_long, on_both, put_book, remarked, following, after_call, step_cards, offer_written, offer_call, with_new_book, fresh_by_cards}
use Rattle.layout.specs.Words.{read_words}
use Rattle.layout.specs.Form.{MessageForm, well_formed_words, long_words}
use Rattle.layout.specs.Owners.{owner_same, has_owner}
use Rattle.cardlayout.specs.Marks.{home_is, mem_marked, marked_mem, member_some}
use Rattle.cardlayout.specs.Books.{drop_book, long_book, count_book, card_read, marks_read, read_book_lem}
use Rattle.cardlayout.specs.Sound.{book_well_formed}
use Rattle.atomicity.specs.Members.{mark_head, mark_tail, struck_same, struck_other, taken_in_same, taken_in_other, mem_marked as mem_mark, marked as mark_mem}
use Rattle.atomicity.specs.Demand3.{Call, Word, ThreeWords, present, called, Event, history, record_after, members_after, Reached, from_fresh, Claims, Demand3}
use Rattle.atomicity.specs.Engines.{refused_answered, present_laws}
use Rattle.atomicity.specs.Theorem.{members_append, members_last, Course, members_below, runs, reached_course, demand_3}
use Rattle.atomicity.specs.TheoremC.{history_append, record_append}
use Rattle.atomicity.specs.Lasting.{Some, some_kept}
use Rattle.rest.specs.AtRest.{AtRest}
use Rattle.rest.specs.Theorem.{at_rest}
use Rattle.custody.specs.Custody.{Offer, Route, CardCall, step, offer, route, InWords, made, CardEvent, behind, card_history, words_after, cards_after, asks, steps, step_events, prices_then, prices_after, priced, Custody}
use Rattle.custody.specs.Routes.{route_history, route_record, route_stays, behind_prices, route_words, route_append}
use Rattle.custody.specs.Offers.{Fair}
use Rattle.custody.proofs.Offers.{offer_fair}
use Rattle.custody.specs.Kept.{Ledger, Kept, to_marked, from_marked, book_form, moves, takes}

-- A step without cards leaves the slice where it is refused.
refused_same : (w : List ℕ) (c : Call) (number : Refusal) → (called present w c).outcome ≡ Err number → (called present w c).slice ≡ w
unfolding step_call on_record written
refused_same w c number = tested Same _ _ _ (λ e. refl) (λ _. tested Same _ _ _ (λ e. refl) (λ _. of_result (meaning.step (read w) c.operation c.x c.y)))
  where
    Same : Called → Type 0
    Same z = z.outcome ≡ Err number → z.slice ≡ w

    of_result : (r : Result) → Same (written w r)
    of_result (refused k) e = refl
    of_result (went a s) e = absurd (refused_answered (sym e))

-- A ring of the identifiers ids that `founder` founded, in slices with `rest` behind the cards.
module _ (ids : List ℕ) (founder : ℕ) (rest : List ℕ) where
  abbrev Way : List Event → List ℕ → Type 0
  Way events w = Course ids founder present present_laws Some events w

  abbrev members : List Event → List ℕ
  members events = members_after (founding_members founder) events

  -- What a course says to the cards.
  module _ {events : List Event} {w : List ℕ} (r : Way events w) where
    ledger_of : Ledger ids (members events)
    ledger_of = record { few = r.ring.few; below = members_below ids r.good; some = r.also }

    names_kept : identifiers (read w) ≡ ids
    names_kept =
        ap (λ z. identifiers (read z)) r.is ∙ ap identifiers (read_words s r.tail r.fits.few)
        ∙ ext_get_or 0 (identifiers s) ids (length-map s.rows (λ h. h.identifier) ∙ r.good.holds.size)
        (λ i _. get_or-map (λ h. h.identifier) s.rows i (outside 0) ∙ r.good.holds.names i)
      where
        s : State
        s = r.state

    long_enough : T (long w)
    unfolding long
    long_enough = subst (λ z. T (long z)) (sym r.is) (le→leb _ _ (long_words r.state r.tail r.fits))

    well_formed_lem : T (well_formed w)
    well_formed_lem = subst (λ z. T (well_formed z)) (sym r.is) (well_formed_words r.state r.tail r.fits)

  -- Both slices between two calls.
  record Stage (events : List Event) (prices : List Offer) (w k : List ℕ) : Type 0 where
    course : Way events w
    book : Book
    holds : Kept ids (members events) book prices
    is : k ≡ book_words book ++ rest

  -- One call on both.
  module _ {events : List Event} {prices : List Offer} {w k : List ℕ} (S : Stage events prices w k) where
    abbrev b : Book
    b = S.book

    abbrev K : Kept ids (members events) S.book prices
    K = S.holds

    abbrev L : Ledger ids (members events)
    L = ledger_of S.course

    reads : read_book k ≡ b
    reads = ap read_book S.is ∙ read_book_lem b rest K.fits

    marks_are : marks_in k ≡ b.marks
    marks_are = ap marks_in S.is ∙ marks_read b rest K.fits

    drops : drop book_size k ≡ rest
    drops = ap (drop book_size) S.is ∙ drop_book b rest K.fits

    formed : T (book_ok (identifiers (read w)) k)
    formed = subst (λ z. T (book_ok z k)) (sym (names_kept S.course)) (subst (λ z. T (book_ok ids z)) (sym S.is) (book_well_formed ids b rest K.fits (book_form L K)))

    -- both slices pass questions 1 and 2
    passes : (x : CardsCalled) → on_both w k x ≡ x
    unfolding on_both both_long
    passes x =
        granted (λ z. z ≡ x) _ _ _ (long_enough S.course)
        (granted (λ z. z ≡ x) _ _ _ (subst (λ z. T (nat_le book_size (length z))) (sym S.is) (le→leb _ _ (long_book b rest K.fits)))
        (granted (λ z. z ≡ x) _ _ _ (well_formed_lem S.course) (granted (λ z. z ≡ x) _ _ _ formed refl)))

    -- A step: `o` and `v` are what it gives without cards, z what it gives with them.
    record Followed (c : Call) (o : Outcome) (v : List ℕ) (z : CardsCalled) : Type 0 where
      outcome : z.outcome ≡ o
      slice : z.slice ≡ v
      stage : Stage (events ++ (record { call = c; outcome = o } ∷ [])) prices v z.cards

    module _ (c : Call) (v : List ℕ) where
      abbrev next : Outcome → List Event
      next o = events ++ (record { call = c; outcome = o } ∷ [])

      after : (o : Outcome) → members (next o) ≡ after_outcome (members events) o
      after o = members_last ids (founding_members founder) events (record { call = c; outcome = o })

      -- the ledger stays, and so does the book
      still : (o : Outcome) → after_outcome (members events) o ≡ members events → Way (next o) v → Stage (next o) prices v k
      still o e r = record { course = r; book = b; holds = subst (λ z. Kept ids z b prices) (sym (after o ∙ e)) K; is = S.is }

      -- a mark changes, and the cards follow
      moving : (o : Outcome) (hub x : ℕ) → ((h : ℕ) → h < most_nodes → get_or (set b.marks hub x) h 0 ≡ mark (after_outcome (members events) o) h)
          → Way (next o) v → Stage (next o) prices v (remarked w k hub x)
      unfolding put_book
      moving o hub x says r = record {
        course = r;
        book = moved ids b (set b.marks hub x);
        holds = subst (λ z. Kept ids z (moved ids b (set b.marks hub x)) prices) (sym (after o))
            (moves K (after_outcome (members events) o) (set b.marks hub x) (length-set b.marks hub x ∙ K.fits.marks) says);
        is = ap (λ z. book_words (moved z (read_book k) (set (marks_in k) hub x)) ++ drop book_size k) (names_kept S.course)
            ∙ ap (λ z. book_words (moved ids z (set (marks_in k) hub x)) ++ drop book_size k) reads
            ∙ ap (λ z. book_words (moved ids b (set z hub x)) ++ drop book_size k) marks_are
            ∙ ap (λ z. book_words (moved ids b (set b.marks hub x)) ++ z) drops;
      }

      entered_says : (hub : ℕ) → (h : ℕ) → h < most_nodes → get_or (set b.marks hub 1) h 0 ≡ mark (taken_in (members events) hub) h
      entered_says hub = by_row hub
          (λ l. get_or-set_same b.marks hub 1 0 (omega (arith, K.fits.marks)) ∙ sym (taken_in_same (members events) hub))
          (λ h ne l. get_or-set_other b.marks hub h 1 0 ne ∙ K.marks h l ∙ sym (taken_in_other (members events) hub h ne))

      gone_says : (hub : ℕ) → (h : ℕ) → h < most_nodes → get_or (set b.marks hub 0) h 0 ≡ mark (struck_off (members events) hub) h
      gone_says hub = by_row hub
          (λ l. get_or-set_same b.marks hub 0 0 (omega (arith, K.fits.marks)) ∙ sym (struck_same (members events) hub))
          (λ h ne l. get_or-set_other b.marks hub h 0 0 ne ∙ K.marks h l ∙ sym (struck_other (members events) hub h ne))

      -- where a hub is gone, another one is marked: the last question is answered yes
      one_left : (hub : ℕ) → Way (next (Ok (Gone hub))) v → T (nat_le 1 (length (marked (set (marks_in k) hub 0))))
      unfolding after_outcome
      one_left hub r =
          let M = subst (Ledger ids) (after (Ok (Gone hub))) (ledger_of r) in
          let m = to_marked M (set b.marks hub 0) (length-set b.marks hub 0 ∙ K.fits.marks) (gone_says hub) M.some.0 M.some.1 in
          subst (λ z. T (nat_le 1 (length (marked (set z hub 0))))) (sym marks_are)
          (le→leb 1 _ (member_some (marked (set b.marks hub 0)) M.some.0 (marked_mem (set b.marks hub 0) M.some.0 m)))

      follows : (o : Outcome) → ((number : Refusal) → o ≡ Err number → v ≡ w) → Way (next o) v → Followed c o v (after_call w k v o)
      unfolding after_call following after_outcome
      follows (Err number) same r = record { outcome = refl; slice = sym (same number refl); stage = still (Err number) refl r }
      follows (Ok Quiet) same r = record { outcome = refl; slice = refl; stage = still (Ok Quiet) refl r }
      follows (Ok (Found hub number ticket hops)) same r = record { outcome = refl; slice = refl; stage = still _ refl r }
      follows (Ok (JoinTurnedAway hub)) same r = record { outcome = refl; slice = refl; stage = still _ refl r }
      follows (Ok (LeaveTurnedAway hub)) same r = record { outcome = refl; slice = refl; stage = still _ refl r }
      follows (Ok (Joined hub)) same r = record { outcome = refl; slice = refl; stage = still _ refl r }
      follows (Ok (Left hub)) same r = record { outcome = refl; slice = refl; stage = still _ refl r }
      follows (Ok (Entered hub)) same r = record { outcome = refl; slice = refl; stage = moving (Ok (Entered hub)) hub 1 (entered_says hub) r }
      follows (Ok (Gone hub)) same r =
          granted (Followed c (Ok (Gone hub)) v) _ _ _ (one_left hub r)
          (record { outcome = refl; slice = refl; stage = moving (Ok (Gone hub)) hub 0 (gone_says hub) r })

    -- one step, with cards and without
    stepped : (c : Call) → ThreeWords c → Followed c (called present w c).outcome (called present w c).slice (made w k (step c))
    unfolding step_cards history record_after
    stepped c t =
        subst (Followed c (called present w c).outcome (called present w c).slice) (sym (passes _))
        (follows c (called present w c).slice (called present w c).outcome (refused_same w c)
        (runs ids founder present present_laws Some (some_kept ids) events w S.course (c ∷ []) (t, tt)))

    -- a delivery on a link where something waits
    delivers : Claims present ids founder events w → (m : Message) → Mem m (read w).messages → (number : Refusal) → (step_cards w k 3 m.from m.to).outcome ≡ Err number → ⊥
    delivers claims m i number e =
        claims.next m i number (sym (stepped (record { operation = 3; x = m.from; y = m.to }) words).outcome ∙ e)
      where
        f : MessageForm (count S.course.state) S.course.state.asked m
        f = S.course.fits.messages m (subst (λ z. Mem m z.messages) (ap read S.course.is ∙ read_words S.course.state S.course.tail S.course.fits.few) i)

        words : ThreeWords (record { operation = 3; x = m.from; y = m.to })
        words = record { operation = omega arith; x = omega (arith, f.from, S.course.fits.few); y = omega (arith, f.to, S.course.fits.few) }

    -- one offer
    record Taken (o : Offer) (z : CardsCalled) : Type 0 where
      slice : z.slice ≡ w
      stage : Stage events (prices_then prices (offer o) z.outcome) w z.cards

    taken : (o : Offer) → Word o.machine → Taken o (made w k (offer o))
    unfolding offer_call offer_written put_book
    taken o lm =
        subst (Taken o) (sym (passes _))
        (subst (λ z. Taken o (offer_written w k (offered z.cards (card (identifiers (read w)) (marks_in k))))) (sym reads)
        (subst (λ z. Taken o (offer_written w k (offered b.cards (card z (marks_in k))))) (sym (names_kept S.course))
        (subst (λ z. Taken o (offer_written w k (offered b.cards (card ids z)))) (sym marks_are)
        (go (offered b.cards (card ids b.marks)) (offer_fair b.cards (card ids b.marks) K.fits.cards)))))
      where
        card : List ℕ → List ℕ → Card
        card names marks = record { machine = o.machine; revision = o.revision; price = o.price; hub = home names (marked marks) o.machine }

        go : (x : Offered) → Fair b.cards (card ids b.marks) x → Taken o (offer_written w k x)
        go (declined number) f = record { slice = refl; stage = S }
        go (kept l) f = record {
          slice = refl;
          stage = record {
            course = S.course;
            book = record { marks = b.marks; cards = l };
            holds = takes K (card ids b.marks) lm refl l f;
            is = ap (λ z. book_words (record { marks = z; cards = l }) ++ drop book_size k) marks_are
                ∙ ap (λ z. book_words (record { marks = b.marks; cards = l }) ++ z) drops;
          };
        }

    -- one route: its asks as steps, which leave ledger and cards
    asked : (r : Route) → InWords (route r) → Stage (events ++ history present w (asks r)) prices (record_after present w (asks r)) k
    asked r a = record {
      course = runs ids founder present present_laws Some (some_kept ids) events w S.course (asks r) (route_words r a.0 a.1);
      book = b;
      holds = subst (λ z. Kept ids z b prices) (sym (members_append (founding_members founder) events (history present w (asks r)) ∙ route_stays (members events) w r)) K;
      is = S.is;
    }

    -- what the stage says of the cards
    member_words : (hub : ℕ) → hub < most_nodes → get_or k (1 + hub) 0 ≡ mark (members events) hub
    member_words hub l = sym (get_or-drop 1 k hub 0) ∙ sym (get_or-take most_nodes (drop 1 k) hub 0 l) ∙ ap (λ z. get_or z hub 0) marks_are ∙ K.marks hub l

    to_ledger : (h : ℕ) → Mem h (marked b.marks) → Mem h (members events)
    to_ledger h i = mark_mem (members events) h (from_marked L b.marks K.fits.marks K.marks h (mem_marked b.marks h i))

    from_ledger : (h : ℕ) → Mem h (members events) → Mem h (marked b.marks)
    from_ledger h i = marked_mem b.marks h (to_marked L b.marks K.fits.marks K.marks h (mem_mark (members events) h i))

    card_held : (c : Card) → Mem c b.cards → owner_among ids (members events) c.machine ≡ node c.hub
    card_held c i =
        let m = mark_mem (members events) L.some.0 L.some.1 in
        let o = has_owner ids c.machine (marked b.marks) L.some.0 (from_ledger L.some.0 m) in
        let q = owner_same ids (marked b.marks) (members events) (record { small = S.course.ring.small; apart = S.course.ring.inj })
        (λ h j. L.below h (mem_mark (members events) h j)) to_ledger from_ledger c.machine o.0 (K.small c i) o.1 in
        q.is ∙ ap node (sym (K.homes c i ∙ home_is o.1))

    held : (j : ℕ) → j < cards_in k → owner_among ids (members events) (card_from k (card_start j)).machine ≡ node (card_from k (card_start j)).hub
    held j l =
        let e : cards_in k ≡ length b.cards = ap cards_in S.is ∙ count_book b rest K.fits in
        let lj : j < length b.cards = omega arith in
        subst (λ c. owner_among ids (members events) c.machine ≡ node c.hub) (sym (ap (λ z. card_from z (card_start j)) S.is ∙ card_read b rest K.fits j no_card lj))
        (card_held (get_or b.cards j no_card) (mem_at b.cards j no_card lj))

    plain : map priced (read_book k).cards ≡ prices
    plain = ap (λ z. map priced z.cards) reads ∙ K.plain

  -- What some calls lead to, from the events and the record w before them: `given` are theirs.
  record Ends (events : List Event) (prices : List Offer) (alone : List Call) (w : List ℕ) (given : List CardEvent) (w' k' : List ℕ) : Type 0 where
    outcomes : step_events given ≡ history present w alone
    same : w' ≡ record_after present w alone
    stage : Stage (events ++ step_events given) (prices_after prices given) w' k'

  abbrev EndsAfter : List Event → List Offer → List CardCall → List ℕ → List ℕ → Type 0
  EndsAfter events prices calls w k = Ends events prices (steps calls) w (card_history w k calls) (words_after w k calls) (cards_after w k calls)

  -- a step in front of the others
  after_step : (events : List Event) (prices : List Offer) (w k : List ℕ) (c : Call) (calls : List CardCall) (o : Outcome) (v : List ℕ) (z : CardsCalled)
      → (called present w c).outcome ≡ o → (called present w c).slice ≡ v → z.outcome ≡ o → z.slice ≡ v
      → EndsAfter (events ++ (record { call = c; outcome = o } ∷ [])) prices calls v z.cards
      → Ends events prices (c ∷ steps calls) w (record { call = step c; outcome = z.outcome } ∷ card_history z.slice z.cards calls) (words_after z.slice z.cards calls) (cards_after z.slice z.cards calls)
  unfolding step_events history record_after prices_after
  after_step events prices w k c calls o v z eo ev zo zv e =
      subst (λ x. Ends events prices (c ∷ steps calls) w (record { call = step c; outcome = x } ∷ card_history z.slice z.cards calls) (words_after z.slice z.cards calls) (cards_after z.slice z.cards calls)) (sym zo)
      (subst (λ x. Ends events prices (c ∷ steps calls) w (record { call = step c; outcome = o } ∷ card_history x z.cards calls) (words_after x z.cards calls) (cards_after x z.cards calls)) (sym zv)
      (record {
        outcomes = ap (λ l. record { call = c; outcome = o } ∷ l) e.outcomes ∙ ap (λ x. record { call = c; outcome = x } ∷ history present v (steps calls)) (sym eo)
            ∙ ap (λ x. record { call = c; outcome = (called present w c).outcome } ∷ history present x (steps calls)) (sym ev);
        same = e.same ∙ ap (λ x. record_after present x (steps calls)) (sym ev);
        stage = subst (λ l. Stage l (prices_after prices (card_history v z.cards calls)) (words_after v z.cards calls) (cards_after v z.cards calls))
            (append_assoc events (record { call = c; outcome = o } ∷ []) (step_events (card_history v z.cards calls))) e.stage;
      }))

  -- an offer in front of the others
  after_offer : (events : List Event) (prices : List Offer) (w k : List ℕ) (o : Offer) (calls : List CardCall) (z : CardsCalled) → z.slice ≡ w
      → EndsAfter events (prices_then prices (offer o) z.outcome) calls w z.cards
      → Ends events prices (steps calls) w (record { call = offer o; outcome = z.outcome } ∷ card_history z.slice z.cards calls) (words_after z.slice z.cards calls) (cards_after z.slice z.cards calls)
  unfolding step_events prices_after
  after_offer events prices w k o calls z zv e =
      subst (λ x. Ends events prices (steps calls) w (record { call = offer o; outcome = z.outcome } ∷ card_history x z.cards calls) (words_after x z.cards calls) (cards_after x z.cards calls)) (sym zv)
      (record { outcomes = e.outcomes; same = e.same; stage = e.stage })

  -- a route in front of the others
  after_route : (events : List Event) (prices : List Offer) (w k : List ℕ) (r : Route) (calls : List CardCall) (o : Outcome) (v : List ℕ)
      → step_events (behind w (route r)) ≡ history present w (asks r) → v ≡ record_after present w (asks r)
      → EndsAfter (events ++ history present w (asks r)) prices calls (record_after present w (asks r)) k
      → Ends events prices (asks r ++ steps calls) w (record { call = route r; outcome = o } ∷ (behind w (route r) ++ card_history v k calls))
      (words_after v k calls) (cards_after v k calls)
  unfolding step_events prices_after
  after_route events prices w k r calls o v eh ev e = subst Ending (sym ev) (record {
    outcomes = all ∙ ap (λ l. given ++ l) e.outcomes ∙ sym (history_append w (asks r) (steps calls));
    same = e.same ∙ sym (record_append w (asks r) (steps calls));
    stage = subst (λ l. Staged l (prices_after prices (behind w (route r) ++ later))) (append_assoc events given (step_events later) ∙ ap (λ l. events ++ l) (sym all))
        (subst (Staged ((events ++ given) ++ step_events later)) (sym (behind_prices prices w (route r) later)) e.stage);
  })
    where
      Ending : List ℕ → Type 0
      Ending x =
          Ends events prices (asks r ++ steps calls) w (record { call = route r; outcome = o } ∷ (behind w (route r) ++ card_history x k calls))
          (words_after x k calls) (cards_after x k calls)

      given : List Event
      given = history present w (asks r)

      left : List ℕ
      left = record_after present w (asks r)

      later : List CardEvent
      later = card_history left k calls

      Staged : List Event → List Offer → Type 0
      Staged l p = Stage l p (words_after left k calls) (cards_after left k calls)

      all : step_events (behind w (route r) ++ later) ≡ given ++ step_events later
      all = route_append w r later ∙ ap (λ l. l ++ step_events later) eh

  -- every list of calls
  goes : (events : List Event) (prices : List Offer) (w k : List ℕ) → Stage events prices w k → (calls : List CardCall) → All InWords calls → EndsAfter events prices calls w k
  unfolding card_history words_after cards_after steps step_events history record_after prices_after
  goes events prices w k S [] a = record { outcomes = refl; same = refl; stage = subst (λ l. Stage l prices w k) (sym (append-nil events)) S }
  goes events prices w k S (step c ∷ calls) a =
      let d = stepped S c a.0 in
      after_step events prices w k c calls (called present w c).outcome (called present w c).slice (made w k (step c)) refl refl d.outcome d.slice
      (goes (events ++ (record { call = c; outcome = (called present w c).outcome } ∷ [])) prices (called present w c).slice (made w k (step c)).cards d.stage calls a.1)
  goes events prices w k S (offer o ∷ calls) a =
      let d = taken S o a.0.0 in
      after_offer events prices w k o calls (made w k (offer o)) d.slice
      (goes events (prices_then prices (offer o) (made w k (offer o)).outcome) w (made w k (offer o)).cards d.stage calls a.1)
  goes events prices w k S (route r ∷ calls) a =
      let l = long_enough S.course in
      let f = well_formed_lem S.course in
      after_route events prices w k r calls (made w k (route r)).outcome (made w k (route r)).slice (route_history w r l f) (route_record w r l f)
      (goes (events ++ history present w (asks r)) prices (record_after present w (asks r)) k (asked S r a.0) calls a.1)

-- the steps' numbers
steps_words : (calls : List CardCall) → All InWords calls → All ThreeWords (steps calls)
unfolding steps
steps_words [] a = tt
steps_words (step c ∷ calls) a = (a.0, steps_words calls a.1)
steps_words (offer o ∷ calls) a = steps_words calls a.1
steps_words (route r ∷ calls) a = all_append ThreeWords (asks r) (steps calls) (route_words r a.0.0 a.0.1) (steps_words calls a.1)

-- What a fresh call with cards has accepted, and what it wrote.
record Made (slice book ids : List ℕ) (founder : ℕ) : Type 0 where
  founded : (fresh_by_call slice ids founder).outcome ≡ Ok Quiet
  is_record : (fresh_by_cards slice book ids founder).slice ≡ (fresh_by_call slice ids founder).slice
  is_cards : (fresh_by_cards slice book ids founder).cards ≡ book_words (new_book founder) ++ drop book_size book

cards_made : (slice book ids : List ℕ) (founder : ℕ) → (fresh_by_cards slice book ids founder).outcome ≡ Ok Quiet → Made slice book ids founder
unfolding fresh_by_cards both_long require when◌then◌else◌ with_new_book put_book
cards_made slice book ids founder e =
    let r = go (long slice) (nat_le book_size (length book)) (fresh_by_call slice ids founder).slice (fresh_by_call slice ids founder).outcome e in
    record { founded = r.0; is_record = r.1; is_cards = r.2 }
  where
    given : Bool → Bool → List ℕ → Outcome → CardsCalled
    given a b l o = require a (unchanged slice book RecordShort) (require b (unchanged slice book RecordShort) (with_new_book slice book founder l o))

    go : (a b : Bool) (l : List ℕ) (o : Outcome) → (given a b l o).outcome ≡ Ok Quiet
        → (o ≡ Ok Quiet) × ((given a b l o).slice ≡ l) × ((given a b l o).cards ≡ book_words (new_book founder) ++ drop book_size book)
    go true true l (Ok a) e = (e, refl, refl)
    go true true l (Err k) e = absurd (refused_answered e)
    go true false l o e = absurd (refused_answered e)
    go false b l o e = absurd (refused_answered e)

-- The new book of a ring.
new_kept : (ids : List ℕ) (founder : ℕ) → founder < most_nodes → Kept ids (founding_members founder) (new_book founder) []
unfolding new_book Distinct mark
new_kept ids founder below = record {
  fits = record { marks = length-set {A = ℕ} (replicate most_nodes 0) founder 1 ∙ length-replicate {A = ℕ} most_nodes 0; cards = omega arith };
  marks = by_row founder
      (λ l. get_or-set_same {A = ℕ} (replicate most_nodes 0) founder 1 0 (omega (arith, length-replicate {A = ℕ} most_nodes 0)) ∙ sym (mark_head [] founder))
      (λ h ne l. get_or-set_other {A = ℕ} (replicate most_nodes 0) founder h 1 0 ne ∙ get_or-replicate {A = ℕ} most_nodes h 0 0 l ∙ sym (mark_tail [] founder h ne));
  small = λ c i. absurd i;
  differ = tt;
  homes = λ c i. absurd i;
  plain = refl;
}

pub custody : Custody
unfolding Custody Demand3 AtRest history record_after members_after
custody ids founder events w k r = record {
  members = member_words ids founder rest S;
  held = held ids founder rest S;
  prices = plain ids founder rest S;
  ready = passes ids founder rest S;
  outcomes = outcomes;
  same = same;
  claims = claims;
  next = delivers ids founder rest S claims;
  at_rest = at_rest ids founder (step_events events) w reached;
}
  where
    M : Made r.slice r.book ids founder
    M = cards_made r.slice r.book ids founder r.accepted

    rest : List ℕ
    rest = drop book_size r.book

    bare : List ℕ
    bare = (fresh_by_call r.slice ids founder).slice

    k₀ : List ℕ
    k₀ = (fresh_by_cards r.slice r.book ids founder).cards

    begun : Course ids founder present present_laws Some [] bare
    begun = reached_course ids founder Some (some_kept ids) (λ g. (founder, mark_head [] founder)) [] bare (from_fresh (record {
      slice = r.slice;
      calls = [];
      identifiers = r.small;
      commands = tt;
      accepted = M.founded;
      happened = refl;
      is = refl;
    }))

    start : Stage ids founder rest [] [] bare k₀
    start = record {
      course = begun;
      book = new_book founder;
      holds = (let l = ledger_of ids founder rest begun in new_kept ids founder (omega (arith, l.few, l.below founder (mark_head [] founder))));
      is = M.is_cards;
    }

    E : EndsAfter ids founder rest [] [] r.calls bare k₀
    E = goes ids founder rest [] [] bare k₀ start r.calls r.commands

    happened : events ≡ card_history bare k₀ r.calls
    happened = r.happened ∙ ap (λ z. card_history z k₀ r.calls) M.is_record

    is_record : w ≡ words_after bare k₀ r.calls
    is_record = r.is_record ∙ ap (λ z. words_after z k₀ r.calls) M.is_record

    is_cards : k ≡ cards_after bare k₀ r.calls
    is_cards = r.is_cards ∙ ap (λ z. cards_after z k₀ r.calls) M.is_record

    outcomes : step_events events ≡ history present bare (steps r.calls)
    outcomes = ap step_events happened ∙ E.outcomes

    same : w ≡ record_after present bare (steps r.calls)
    same = is_record ∙ E.same

    S : Stage ids founder rest (step_events events) (prices_after [] events) w k
    S = subst (λ z. Stage ids founder rest (step_events z) (prices_after [] z) w k) (sym happened)
        (subst (λ z. Stage ids founder rest (step_events (card_history bare k₀ r.calls)) (prices_after [] (card_history bare k₀ r.calls)) z k) (sym is_record)
        (subst (Stage ids founder rest (step_events (card_history bare k₀ r.calls)) (prices_after [] (card_history bare k₀ r.calls)) (words_after bare k₀ r.calls)) (sym is_cards)
        E.stage))

    -- the steps alone reached the record
    reached : Reached ids founder (step_events events) w
    reached = from_fresh (record {
      slice = r.slice;
      calls = steps r.calls;
      identifiers = r.small;
      commands = steps_words r.calls r.commands;
      accepted = M.founded;
      happened = outcomes;
      is = same;
    })

    claims : Claims present ids founder (step_events events) w
    claims = demand_3 ids founder (step_events events) w reached
