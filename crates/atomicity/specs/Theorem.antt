-- DEMAND 3, proved: every list of calls from every fresh ring. Assumes nothing.
use Rattle.std.specs.Prelude.{◌≡◌, ◌⊎◌, true, false, ℕ, ◌+◌, ◌≤◌, ◌<◌, get_or}
use Rattle.std.proofs.Math.Path.{refl, sym, ap, subst}
use Rattle.std.proofs.Common.{◌∙◌, inl, inr, true≢false, length-append}
use mathlib.Core.List.{List, [], ◌∷◌, ◌++◌, map, append-nil, append_assoc}
use Rattle.std.proofs.Math.Decide.{dec_lt}
use native.Mathlib.Omega.{arith}
use Rattle.std.proofs.Common.{nat_eq}
use Rattle.std.proofs.Math.Dec.{T}
use Rattle.std.proofs.Math.ListN.{length, get_or-eq_default}
use Rattle.clockwise.specs.Laws.{In, within_in}
use Rattle.lists.specs.Basics.{when◌then◌else◌, Mem, All, times}
use Rattle.lists.specs.Members.{mem_at, place, all_mem, distinct_apart}
use Rattle.lists.specs.Search.{Located, Missed, search_ends}
use Rattle.lists.specs.Tests.{and_left, and_right, and_both, true_T, T_true, →eqb, Distinct, says_distinct}
use Rattle.protocol.specs.declared.Message.{Message}
use Rattle.protocol.specs.declared.Answer.{Answer}
use Rattle.protocol.specs.declared.Answer.TheVariants.{Quiet, Found}
use Rattle.protocol.specs.declared.refusal.Refusal.{Refusal}
use Rattle.protocol.specs.Outcomes.{Outcome}
use Rattle.std.specs.Prelude.{Err, Ok}
use Rattle.protocol.specs.Names.{INSIDE, WANTING_TO_LEAVE, LOOKUP}
use Rattle.protocol.specs.Record.{round, most_nodes, State, row, message, no_message}
use Rattle.protocol.specs.Fresh.{fresh}
use Rattle.protocol.specs.Routing.{responsible, covers}
use Rattle.protocol.specs.Step.{Result, refused, step, deliver, on_link}
use Rattle.protocol.specs.Step.{accepted as went}
use Rattle.protocol.specs.Membership.{founding_members, after_outcome, after_answer, node, owner_among, holds, waiting, found_ticket, ticket_of, accepted_ask, mark}
use Rattle.layout.specs.Form.{Form}
use Rattle.atomicity.specs.Members.{owner_computed}
use Rattle.atomicity.specs.Neighbours.{owner_of, holder_one}
use Rattle.atomicity.specs.Invariant.{Msg, erase, Inv}
use Rattle.atomicity.specs.Invariant.{lookup, join, join_retry, join_point, new_succ, new_succ_ack, join_done}
use Rattle.atomicity.specs.Invariant.{leave_req, leave_retry, leave_grant, leave_point, update_succ, stop_forward, leave_done}
use Rattle.atomicity.specs.Good.{row_of, hubs, total, asks, Holds, Good, Names, Fine, fine_next, not_refused}
use Rattle.atomicity.specs.Preserved.{fresh_form, responsible_states}
use Rattle.atomicity.specs.Engines.{refused_answered, left, On, Begun, Laws, present_laws}
use Rattle.atomicity.specs.Run.{question, step_fine, delivered_fine, fresh_good}
use Rattle.atomicity.specs.Demand3.{Call, Word, ThreeWords, Engine, present, called, Event, history, record_after, members_after, questions_accepted, found_tickets, Founded, Reached, Claims, Demand3}

pub words_small : (l : List ℕ) → All Word l → (h : ℕ) → get_or l h 0 < round
words_small l w h = go (dec_lt h (length l))
  where
    go : Dec (h < length l) → get_or l h 0 < round
    go (yes k) = all_mem Word l w (get_or l h 0) (mem_at l h 0 k)
    go (no k) = let z : get_or l h 0 ≡ 0 = get_or-eq_default l 0 (omega arith) in omega arith

-- the ledger after some events behind others
pub members_append : (members : List ℕ) (a b : List Event) → members_after members (a ++ b) ≡ members_after (members_after members a) b
unfolding members_after
members_append members [] b = refl
members_append members (e ∷ a) b = members_append (after_outcome members e.outcome) a b

times_append : (a b : List ℕ) (k : ℕ) → times (a ++ b) k ≡ times a k + times b k
times_append [] b k = omega arith
times_append (x ∷ a) b k = omega (arith, times_append a b k)

-- the answer of an outcome that has one
answer_in : Outcome → Answer
answer_in (Err k) = Quiet
answer_in (Ok a) = a

-- The identifiers of a ring that was founded.
pub record Ring (ids : List ℕ) : Type 0 where
  pub some : 1 ≤ length ids
  pub few : length ids ≤ most_nodes
  pub differ : Distinct ids
  pub small : (h : ℕ) → get_or ids h 0 < round
  pub inj : (a b : ℕ) → a < length ids → b < length ids → get_or ids a 0 ≡ get_or ids b 0 → a ≡ b

module _ (ids : List ℕ) where
  -- each found answer among the events names the ledger's owner at that call
  abbrev Named : List ℕ → List Event → Type 0
  Named members [] = Unit {0}
  Named members (e ∷ events) =
      ((hub number ticket hops : ℕ) → e.outcome ≡ Ok (Found hub number ticket hops) → owner_among ids members number ≡ node hub)
      × Named (after_outcome members e.outcome) events

  -- the same at any of them
  named_at : (members : List ℕ) (before : List Event) (e : Event) (after : List Event) → Named members (before ++ (e ∷ after))
      → (hub number ticket hops : ℕ) → e.outcome ≡ Ok (Found hub number ticket hops) → owner_among ids (members_after members before) number ≡ node hub
  unfolding members_after
  named_at members [] e after n = n.0
  named_at members (x ∷ before) e after n = named_at (after_outcome members x.outcome) before e after n.1

  -- one event more
  pub members_last : (members : List ℕ) (events : List Event) (e : Event) → members_after members (events ++ (e ∷ [])) ≡ after_outcome (members_after members events) e.outcome
  unfolding members_after
  members_last members events e = members_append members events (e ∷ [])

  accepted_last : (events : List Event) (e : Event) → questions_accepted (events ++ (e ∷ [])) ≡ questions_accepted events + accepted_ask e.call.operation e.outcome
  unfolding questions_accepted
  accepted_last [] e = omega arith
  accepted_last (x ∷ events) e = omega (arith, accepted_last events e)

  found_last : (events : List Event) (e : Event) → found_tickets (events ++ (e ∷ [])) ≡ found_tickets events ++ ticket_of e.outcome
  unfolding found_tickets
  found_last [] e = append-nil (ticket_of e.outcome)
  found_last (x ∷ events) e =
      ap (λ l. ticket_of x.outcome ++ l) (found_last events e) ∙ sym (append_assoc (ticket_of x.outcome) (found_tickets events) (ticket_of e.outcome))

  named_last : (members : List ℕ) (events : List Event) (e : Event) → Named members events
      → ((hub number ticket hops : ℕ) → e.outcome ≡ Ok (Found hub number ticket hops) → owner_among ids (members_after members events) number ≡ node hub)
      → Named members (events ++ (e ∷ []))
  unfolding members_after
  named_last members [] e n f = (f, tt)
  named_last members (x ∷ events) e n f = (n.0, named_last (after_outcome members x.outcome) events e n.1 f)

  -- What stands behind a record of a form, with these calls behind it: the words of a state that the form holds, and that is good.
  -- P is whatever else the calls keep, of the ledger and the state.
  module _ (founder : ℕ) (engine : Engine) (L : Laws engine) (P : List ℕ → State → Type 0) where
    pub record Course (events : List Event) (w : List ℕ) : Type 0 where
      pub ring : Ring ids
      pub state : State
      pub tail : List ℕ
      pub fits : L.Fits state
      pub is : w ≡ L.put state tail
      pub tickets : List ℕ
      pub good : Good (λ h. get_or ids h 0) (length ids) state (members_after (founding_members founder) events) tickets
      pub also : P (members_after (founding_members founder) events) state
      pub count : state.asked ≡ questions_accepted events
      pub each : (k : ℕ) → times tickets k ≡ times (found_tickets events) k
      pub all : length tickets ≡ length (found_tickets events)
      pub named : Named (founding_members founder) events

  -- What holds after a step, refused or not, and that a form's steps keep it.
  abbrev pub Kept : (List ℕ → State → Type 0) → List ℕ → Result → Type 0
  Kept P members (refused k) = Unit {0}
  Kept P members (went a s) = P (after_answer members a) s

  abbrev pub Keeps : (List ℕ → State → Type 0) → Type 0
  Keeps P =
      Ring ids → (s : State) (members ks : List ℕ) → Form s → Good (λ h. get_or ids h 0) (length ids) s members ks → P members s
      → (operation x y : ℕ) → Word y → Kept P members (step s operation x y)

-- Members are hubs.
pub members_below : (ids : List ℕ) {s : State} {members ks : List ℕ} → Good (λ h. get_or ids h 0) (length ids) s members ks → (h : ℕ) → mark members h ≡ 1 → h < length ids
members_below ids {s} {members} {ks} G h e = go (dec_lt 0 (row_of s.rows h).state)
  where
    I : Inv round (λ k. get_or ids k 0) (length ids) (hubs s.rows (mark members)) [] G.ms
    I = G.holds.inv

    go : Dec (0 < (row_of s.rows h).state) → h < length ids
    go (yes l) = I.below h l
    go (no l) = absurd (omega (arith, (I.member h).out (omega arith)))

-- A ring of the identifiers ids.
module _ (ids : List ℕ) (small : (h : ℕ) → get_or ids h 0 < round) (inj : (a b : ℕ) → a < length ids → b < length ids → get_or ids a 0 ≡ get_or ids b 0 → a ≡ b) where
  abbrev id : ℕ → ℕ
  id h = get_or ids h 0

  abbrev c : ℕ
  c = length ids

  -- a found answer's owner, as the ledger computes it
  owner_named : {s : State} {members ks : List ℕ} → Good id c s members ks → (a : Answer) → Names id members a
      → (hub number ticket hops : ℕ) → ◌≡◌ {A = Outcome} (Ok a) (Ok (Found hub number ticket hops)) → owner_among ids members number ≡ node hub
  unfolding answer_in
  owner_named {s} {members} {ks} G a n hub number ticket hops e =
      let k = subst (Names id members) (ap answer_in e) n in
      owner_computed ids (record { small = small; apart = inj }) members (members_below ids G) number hub k.0 k.1

  -- What holds of a good state.
  module _ (s : State) (members ks : List ℕ) (G : Good id c s members ks) where
    abbrev H : Holds id c s.rows s.asked members ks G.ms
    H = G.holds

    -- a holder is in the ring, a member, and its range is that of the ring's identifiers
    record Holder (h v : ℕ) : Type 0 where
      low : INSIDE ≤ (row s h).state
      member : mark members h ≡ 1
      at : In round (id (row s h).pred) (id h) v

    holder : (h v : ℕ) → holds s h v ≡ true → Holder h v
    unfolding holds covers
    holder h v e = record { low = w.0; member = (H.inv.member h).inside w.0 w.1; at = at }
      where
        t : T (holds s h v)
        t = true_T _ e

        w : (INSIDE ≤ (row s h).state) × ((row s h).state ≤ WANTING_TO_LEAVE)
        w = responsible_states (row s h) (and_left (responsible (row s h)) _ t)

        at : In round (id (row s h).pred) (id h) v
        at = subst (λ z. In round z (id h) v) (H.names (row s h).pred)
            (subst (λ z. In round (row s (row s h).pred).identifier z v) (H.names h)
            (within_in round _ (row s h).identifier v (and_right (responsible (row s h)) _ t)))

    single : (v h k : ℕ) → Word v → holds s h v ≡ true → holds s k v ≡ true → h ≡ k
    single v h k lv p q =
        let x = holder h v p in
        let y = holder k v q in
        holder_one round id small v lv x.member y.member (H.inv.next h x.low x.member) (H.inv.next k y.low y.member) x.at y.at

    owner : (v h : ℕ) → Word v → holds s h v ≡ true → owner_among ids members v ≡ node h
    owner v h lv p =
        let x = holder h v p in
        owner_computed ids (record { small = small; apart = inj }) members (members_below ids G) v h lv
        (owner_of round id small v lv x.member (H.inv.next h x.low x.member) x.at)

    waiting_is : (ms : List Msg) → waiting (map erase ms) ≡ total asks ms
    unfolding waiting when◌then◌else◌
    waiting_is [] = refl
    waiting_is (m ∷ ms) = omega (arith, one m, waiting_is ms)
      where
        one : (m : Msg) → (when nat_eq (erase m).kind LOOKUP then 1 else 0) ≡ asks m
        one (lookup x y v k h) = refl
        one (join x y a) = refl
        one (join_retry x a) = refl
        one (join_point a b p) = refl
        one (new_succ a b p) = refl
        one (new_succ_ack a b p) = refl
        one (join_done a b) = refl
        one (leave_req q b) = refl
        one (leave_retry x q) = refl
        one (leave_grant q b) = refl
        one (leave_point q b p) = refl
        one (update_succ q b p) = refl
        one (stop_forward q b p) = refl
        one (leave_done q b) = refl

    questions : s.asked ≡ length ks + waiting s.messages
    questions = omega (arith, H.sum, waiting_is G.ms, ap waiting G.same)

    once : (ticket : ℕ) → times ks ticket ≤ 1
    once ticket = omega (arith, H.once ticket)

    -- something waits on the link of a waiting message
    waits : (m : Message) → Mem m s.messages → Located (on_link s m.from m.to) (length s.messages)
    unfolding on_link
    waits m k = go (search_ends (on_link s m.from m.to) (length s.messages)) (place m s.messages no_message k)
      where
        go : Located (on_link s m.from m.to) (length s.messages) ⊎ Missed (on_link s m.from m.to) (length s.messages)
            → (i : ℕ) × (i < length s.messages) × (get_or s.messages i no_message ≡ m) → Located (on_link s m.from m.to) (length s.messages)
        go (inl l) p = l
        go (inr l) p = absurd (true≢false (sym (T_true (on_link s m.from m.to p.0)
            (and_both (nat_eq (message s p.0).from m.from) (nat_eq (message s p.0).to m.to)
            (→eqb (message s p.0).from m.from (ap (λ z. z.from) p.2)) (→eqb (message s p.0).to m.to (ap (λ z. z.to) p.2))))
            ∙ l.none p.0 p.1))

    -- so a delivery there is not refused
    next : (m : Message) → Mem m s.messages → (k : Refusal) → deliver s m.from m.to ≡ refused k → ⊥
    next m i k e =
        not_refused id c members ks s.asked k
        (subst (Fine id c members ks s.asked false) e (delivered_fine id small c inj s members ks G m.from m.to (waits m i)))

-- One call more.
module _ (ids : List ℕ) (founder : ℕ) (engine : Engine) (L : Laws engine) (P : List ℕ → State → Type 0) (keeping : Keeps ids P) where
  abbrev Way : List Event → List ℕ → Type 0
  Way events w = Course ids founder engine L P events w

  abbrev after : List Event → List ℕ
  after events = members_after (founding_members founder) events

  more : (events : List Event) (w : List ℕ) (r : Way events w) (k : Call) (o : Outcome) (s : State) (tail ks : List ℕ)
      → L.Fits s → Good (λ h. get_or ids h 0) (length ids) s (after_outcome (after events) o) ks → P (after_outcome (after events) o) s
      → s.asked ≡ r.state.asked + accepted_ask k.operation o → ks ≡ ticket_of o ++ r.tickets
      → ((hub number ticket hops : ℕ) → o ≡ Ok (Found hub number ticket hops) → owner_among ids (after events) number ≡ node hub)
      → Way (events ++ (record { call = k; outcome = o } ∷ [])) (L.put s tail)
  more events w r k o s tail ks f G p ea ek named =
      let e : Event = record { call = k; outcome = o } in
      let m = members_last ids (founding_members founder) events e in
      let q = found_last ids events e in
      record {
        ring = r.ring;
        state = s;
        tail = tail;
        fits = f;
        is = refl;
        tickets = ks;
        good = subst (λ z. Good (λ h. get_or ids h 0) (length ids) s z ks) (sym m) G;
        also = subst (λ z. P z s) (sym m) p;
        count = omega (arith, r.count, accepted_last ids events e);
        each = λ t. omega (
          arith,
          ap (λ l. times l t) ek,
          ap (λ l. times l t) q,
          times_append (ticket_of o) r.tickets t,
          times_append (found_tickets events) (ticket_of o) t,
          r.each t,
        );
        all = omega (arith, ap length ek, ap length q, length-append (ticket_of o) r.tickets, length-append (found_tickets events) (ticket_of o), r.all);
        named = named_last ids (founding_members founder) events e r.named named;
      }

  goes : (events : List Event) (w : List ℕ) → Way events w → (k : Call) → Word k.y
      → Way (events ++ (record { call = k; outcome = (called engine w k).outcome } ∷ [])) (called engine w k).slice
  unfolding after_outcome ticket_of accepted_ask
  goes events w r k ly =
      subst (λ z. Way (events ++ (record { call = k; outcome = (called engine z k).outcome } ∷ [])) (called engine z k).slice) (sym r.is)
      (subst (λ z. Way (events ++ (record { call = k; outcome = z.outcome } ∷ [])) z.slice) (sym (L.calls s tail k r.fits))
      (go (step s k.operation k.x k.y)
      (step_fine _ small (length ids) inj s members r.tickets r.good k.operation k.x k.y ly)
      (L.keeps s r.fits k.operation k.x k.y)
      (keeping r.ring s members r.tickets (L.form s r.fits) r.good r.also k.operation k.x k.y ly)))
    where
      s : State
      s = r.state

      tail : List ℕ
      tail = r.tail

      members : List ℕ
      members = members_after (founding_members founder) events

      small : (h : ℕ) → get_or ids h 0 < round
      small = r.ring.small

      inj : (a b : ℕ) → a < length ids → b < length ids → get_or ids a 0 ≡ get_or ids b 0 → a ≡ b
      inj = r.ring.inj

      Right : Result → Type 0
      Right x = Fine (λ h. get_or ids h 0) (length ids) members r.tickets (s.asked + question k.operation) true x

      go : (x : Result) → Right x → On L.Fits x → Kept ids P members x
          → Way (events ++ (record { call = k; outcome = (left L.put (L.put s tail) tail x).outcome } ∷ [])) (left L.put (L.put s tail) tail x).slice
      go (refused z) fine f p =
          more events w r k (Err z) s tail r.tickets r.fits r.good r.also (omega arith) refl (λ hub number ticket hops e. absurd (refused_answered e))
      go (went a s') fine f p =
          let n = fine_next _ (length ids) members r.tickets (s.asked + question k.operation) true a s' fine in
          more events w r k (Ok a) s' tail (found_ticket a ++ r.tickets) f n.good p n.asked refl (owner_named ids small inj r.good a n.named)

  -- every list of calls
  pub runs : (events : List Event) (w : List ℕ) → Way events w → (calls : List Call) → All ThreeWords calls
      → Way (events ++ history engine w calls) (record_after engine w calls)
  unfolding history record_after
  runs events w r [] t = subst (λ z. Way z w) (sym (append-nil events)) r
  runs events w r (k ∷ calls) t =
      let e : Event = record { call = k; outcome = (called engine w k).outcome } in
      subst (λ z. Way z (record_after engine (called engine w k).slice calls)) (append_assoc events (e ∷ []) (history engine (called engine w k).slice calls))
      (runs (events ++ (e ∷ [])) (called engine w k).slice (goes events w r k t.0.y) calls t.1)

  -- from a fresh ring
  pub founded_course : (Ring ids → P (founding_members founder) (fresh ids founder)) → (events : List Event) (w : List ℕ) → Founded engine ids founder events w → Way events w
  unfolding members_after questions_accepted found_tickets fresh
  founded_course start events w r =
      subst (λ z. Way z w) (sym r.happened)
      (subst (Way (history engine (engine.founds r.slice ids founder).slice r.calls)) (sym r.is)
      (runs [] (engine.founds r.slice ids founder).slice begin r.calls r.commands))
    where
      k : Begun L.put ids founder (engine.founds r.slice ids founder).slice
      k = L.begins r.slice ids founder r.accepted

      differ : Distinct ids
      differ = (says_distinct ids).to k.differ

      ring : Ring ids
      ring = record { some = omega (arith, k.below); few = k.few; differ = differ; small = words_small ids r.identifiers; inj = distinct_apart ids differ }

      begin : Way [] (engine.founds r.slice ids founder).slice
      begin = record {
        ring = ring;
        state = fresh ids founder;
        tail = k.tail;
        fits = L.starts ids founder (fresh_form ids founder k.below k.few differ);
        is = k.is;
        tickets = [];
        good = fresh_good ids founder k.below;
        also = start ring;
        count = refl;
        each = λ t. refl;
        all = refl;
        named = tt;
      }

-- Every reached record.
module _ (ids : List ℕ) (founder : ℕ) (P : List ℕ → State → Type 0) (keeping : Keeps ids P)
    (start : Ring ids → P (founding_members founder) (fresh ids founder)) where
  pub reached_course : (events : List Event) (w : List ℕ) → Reached ids founder events w → Course ids founder present present_laws P events w
  reached_course events w r = founded_course ids founder present present_laws P keeping start events w r

-- The claims, of any course.
module _ (ids : List ℕ) (engine : Engine) (L : Laws engine) where
  abbrev pub Any : List ℕ → State → Type 0
  Any members s = Unit {0}

  pub any_kept : (members : List ℕ) (r : Result) → Kept ids Any members r
  any_kept members (refused k) = tt
  any_kept members (went a s) = tt

  claimed : (founder : ℕ) (events : List Event) (w : List ℕ) → Course ids founder engine L Any events w → Claims engine ids founder events w
  unfolding step when◌then◌else◌
  claimed founder events w r = subst (Claims engine ids founder events) (sym r.is) (record {
    single = λ v h k lv p q. single ids small inj s members r.tickets r.good v h k lv (holds_of h v p) (holds_of k v q);
    owner = λ v h lv p. owner ids small inj s members r.tickets r.good v h lv (holds_of h v p);
    found = λ before e after q. named_at ids (founding_members founder) before e after (subst (Named ids (founding_members founder)) q r.named);
    questions = omega (arith, r.count, r.all, questions ids small inj s members r.tickets r.good, ap (λ z. waiting z.messages) same);
    once = λ k. omega (arith, r.each k, once ids small inj s members r.tickets r.good k);
    next = λ m i. next_call m (subst (λ z. Mem m z.messages) same i);
  })
    where
      s : State
      s = r.state

      members : List ℕ
      members = members_after (founding_members founder) events

      small : (h : ℕ) → get_or ids h 0 < round
      small = r.ring.small

      inj : (a b : ℕ) → a < length ids → b < length ids → get_or ids a 0 ≡ get_or ids b 0 → a ≡ b
      inj = r.ring.inj

      same : engine.reads (L.put s r.tail) ≡ s
      same = L.reads s r.tail r.fits

      holds_of : (h v : ℕ) → holds (engine.reads (L.put s r.tail)) h v ≡ true → holds s h v ≡ true
      holds_of h v p = subst (λ z. holds z h v ≡ true) same p

      next_call : (m : Message) → Mem m s.messages → (k : Refusal) → (called engine (L.put s r.tail) (record { operation = 3; x = m.from; y = m.to })).outcome ≡ Err k → ⊥
      next_call m i k e =
          go (deliver s m.from m.to) refl (sym (ap (λ z. z.outcome) (L.calls s r.tail (record { operation = 3; x = m.from; y = m.to }) r.fits)) ∙ e)
        where
          go : (x : Result) → deliver s m.from m.to ≡ x → (left L.put (L.put s r.tail) r.tail x).outcome ≡ Err k → ⊥
          go (refused z) d q =
              next ids small inj s members r.tickets r.good m i z d
          go (went a s') d q = refused_answered (sym q)

pub demand_3 : Demand3
unfolding Demand3
demand_3 ids founder events w r =
    claimed ids present present_laws founder events w
    (reached_course ids founder (λ m s. Unit {0}) (λ g s members ks f G p o x y l. any_kept ids present present_laws members (step s o x y)) (λ g. tt) events w r)
