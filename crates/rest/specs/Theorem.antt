-- 2026-07, proved: every record reached from a fresh ring in which no message waits. Assumes nothing.
use Rattle.std.specs.Prelude.{◌≡◌, ◌⊎◌, true, List, [], ◌∷◌, ◌++◌, ℕ, ◌<◌, ◌≤◌, Ok, T, nat_le, nat_lt, length, get_or, drop}
use Rattle.std.proofs.Math.Path.{refl, sym, ap, subst}
use Rattle.std.proofs.Common.{◌∙◌, inl, inr, true≢false, arith, le→leb, lt→ltb}
use Rattle.std.proofs.lemmas.List.{length-map}
use borrow.Author.Tests.{le-leb, lt-leb}
use Rattle.clockwise.specs.Clockwise.{dist}
use Rattle.clockwise.specs.Laws.{In, dist_self}
use Rattle.lists.specs.Choice.{granted, on_yes, on_no}
use Rattle.lists.specs.Members.{all_mem}
use Rattle.lists.specs.Search.{Located, Missed, search_ends}
use Rattle.lists.specs.Tests.{and_both, T_true}
use Rattle.protocol.specs.declared.refusal.Refusal.{Refusal}
use Rattle.protocol.specs.declared.refusal.Refusal.TheVariants.{OutputShort}
use Rattle.protocol.specs.Names.{INSIDE, LEAVING}
use Rattle.protocol.specs.Record.{round, none, State, count, count_in, row, read, words}
use Rattle.protocol.specs.Routing.{in_ring, responsible, covers}
use Rattle.protocol.specs.Calls.{lowest_holder, on_record, owner_call, complete, roll, Rolled, unrolled, roll_written, roll_call}
use Rattle.protocol.specs.Membership.{node, owner_among, holds, mark}
use Rattle.layout.specs.Words.{read_words, count_of_read, messages_of_read}
use Rattle.layout.specs.Form.{well_formed_words, long_words}
use Rattle.layout.specs.Questions.{record_rest}
use Rattle.layout.specs.Owners.{Owns, has_owner, owns}
use Rattle.atomicity.specs.Members.{mark_head, marked, mem_marked, owner_computed}
use Rattle.atomicity.specs.Neighbours.{Owner}
use Rattle.atomicity.specs.Invariant.{Msg, erase, Inv}
use Rattle.atomicity.specs.Good.{hubs}
use Rattle.atomicity.specs.Demand3.{Word, Event, present, Demand3}
use Rattle.atomicity.specs.Engines.{present_laws}
use Rattle.atomicity.specs.Lasting.{Some, some_kept}
use Rattle.atomicity.specs.Theorem.{Course, members_below, reached_course, demand_3}
use Rattle.rest.specs.Arcs.{in_within, after, after_lt}
use Rattle.rest.specs.Rising.{rising_once, rising_places}
use Rattle.rest.specs.Still.{free, in_or_out, unflagged, member_of, inside, pred_next, succ_pred, succ_member, pred_succ, succ_next, succ_owner, owner_covers}
use Rattle.rest.specs.Walk.{Walked, roll_from}
use Rattle.rest.specs.AtRest.{Rests, ledger, RollIsRing, OwnerIsLedgers, RowsAtRest, Resting, AtRest}

-- a record of which no message waits has no messages
no_messages : (ms : List Msg) → length ms ≡ 0 → ms ≡ []
no_messages [] e = refl
no_messages (m ∷ ms) e = absurd (omega (arith, e))

-- What stands behind a reached record, and that no message waits in it.
module _ {ids : List ℕ} {founder : ℕ} {events : List Event} {w : List ℕ} (r : Course ids founder present present_laws Some events w) (rests : Rests w)
    (holder_owns : (v h : ℕ) → Word v → holds (read w) h v ≡ true → owner_among ids (ledger founder events) v ≡ node h) where
  abbrev s : State
  s = r.state

  abbrev members : List ℕ
  members = ledger founder events

  abbrev id : ℕ → ℕ
  id h = get_or ids h 0

  abbrev led : ℕ → ℕ
  led h = mark members h

  small : (h : ℕ) → id h < round
  small = r.ring.small

  reads : read w ≡ s
  reads = ap read r.is ∙ read_words s r.tail r.fits.few

  count_is : count_in w ≡ length ids
  count_is = sym (count_of_read w) ∙ ap count reads ∙ r.good.holds.size

  -- questions 1 and 2
  passes : {A : Type 0} (no_result : Refusal → A) (rest : A) → on_record w no_result rest ≡ rest
  passes no_result rest =
      subst (λ z. on_record z no_result rest ≡ rest) (sym r.is)
      (record_rest (words s ++ r.tail) no_result rest (long_words s r.tail r.fits) (T_true _ (well_formed_words s r.tail r.fits)))

  I : Inv round id (length ids) (hubs s.rows led) [] []
  I = subst (Inv round id (length ids) (hubs s.rows led) []) (no_messages r.good.ms none) r.good.holds.inv
    where
      none : length r.good.ms ≡ 0
      none = omega (arith, rests, messages_of_read w, ap (λ z. length z.messages) reads, ap length r.good.same, length-map r.good.ms erase)

  below : (h : ℕ) → led h ≡ 1 → h < length ids
  below = members_below ids r.good

  -- the owner by the invariant is the one that the ledger computes
  computed : (v h : ℕ) → Word v → Owner round id led v h → owner_among ids members v ≡ node h
  computed v h lv o = owner_computed ids (record { small = small; apart = r.ring.inj }) members below v h lv o

  -- the ledger's owner holds the number
  held : (v h : ℕ) → Word v → Owner round id led v h → holds s h v ≡ true
  unfolding holds responsible covers
  held v h lv o =
      T_true _ (and_both (responsible (row s h)) _
      (and_both (nat_le INSIDE (row s h).state) (nat_lt (row s h).state LEAVING)
      (le→leb INSIDE (row s h).state (omega (arith, is_inside))) (lt→ltb (row s h).state LEAVING (omega (arith, is_inside))))
      (in_within round _ (row s h).identifier v
      (subst (λ z. In round z (row s h).identifier v) (sym (names (row s h).pred))
      (subst (λ z. In round (id (row s h).pred) z v) (sym (names h)) (owner_covers round id small I v h lv o)))))
    where
      names : (k : ℕ) → (row s k).identifier ≡ id k
      names = r.good.holds.names

      is_inside : (row s h).state ≡ INSIDE
      is_inside = inside round id small I h o.member

  owner_holds : (h v : ℕ) → Word v → owner_among ids members v ≡ node h → holds s h v ≡ true
  owner_holds h v lv e =
      let o = owns ids v members h e in
      held v h lv (record { member = mem_marked members h o.member; least = λ m l. o.least m (marked members m l) })

  owned : (v : ℕ) → (h : ℕ) × Owns ids members v h
  owned v = has_owner ids v members r.also.0 (marked members r.also.0 r.also.1)

  -- the rows
  rows : RowsAtRest ids members (read w)
  rows = subst (RowsAtRest ids members) (sym reads) (record {
    size = r.good.holds.size;
    name = r.good.holds.names;
    some = (r.also.0, marked members r.also.0 r.also.1);
    below = λ h k. below h (mem_marked members h k);
    lock = free round id small I;
    flag = unflagged round id small I;
    state = in_or_out round id small I;
    inside = λ h k. inside round id small I h (mem_marked members h k);
    member = λ h e. marked members h (member_of round id small I h (omega (arith, e)));
    succ_member = λ h k. marked members _ (succ_member round id small I h (mem_marked members h k));
    pred_member = λ h k. marked members _ (pred_next round id small I h (mem_marked members h k)).member;
    succ_pred = λ h k. succ_pred round id small I h (mem_marked members h k);
    pred_succ = λ h k. pred_succ round id small I h (mem_marked members h k);
    succ_owner = λ h k. computed (after round (id h)) _ (after_lt round (id h) (omega arith)) (succ_owner round id small I h (mem_marked members h k) (omega arith));
    owned = λ v. ((owned v).0, (owned v).1.is);
    holder_owns = λ h v lv e. holder_owns v h lv (subst (λ z. holds z h v ≡ true) (sym reads) e);
    owner_holds = owner_holds;
  })

  -- the owner query
  located : (v : ℕ) → Word v → Located (λ hub. holds (read w) hub v) (count (read w))
  located v lv = go (search_ends (λ hub. holds (read w) hub v) (count (read w)))
    where
      o : Owns ids members v (owned v).0
      o = (owned v).1

      go : Located (λ hub. holds (read w) hub v) (count (read w)) ⊎ Missed (λ hub. holds (read w) hub v) (count (read w))
          → Located (λ hub. holds (read w) hub v) (count (read w))
      go (inl f) = f
      go (inr f) = absurd (true≢false (sym (rows.owner_holds (owned v).0 v lv o.is) ∙ f.none (owned v).0 (omega (arith, rows.below (owned v).0 o.member, rows.size))))

  owner_query : (v : ℕ) → Word v → OwnerIsLedgers ids members w v
  unfolding owner_call
  owner_query v lv = record {
    hub = lowest_holder (read w) v;
    call = passes _ _ ∙ granted (λ z. z ≡ Ok (lowest_holder (read w) v)) (nat_lt (lowest_holder (read w) v) (count_in w)) _ _
        (lt→ltb _ (count_in w) (omega (arith, (located v lv).below, count_of_read w))) refl;
    owner = holder_owns v (lowest_holder (read w) v) lv (located v lv).here;
  }

  -- the roll call
  module _ (start : ℕ) (ls : led start ≡ 1) where
    walked : Walked round id led start (length ids) start (roll s start (length ids) start)
    walked =
        roll_from round id led (length ids) s small r.ring.inj below (omega (arith, r.ring.few))
        (succ_member round id small I) (succ_next round id small I) start ls

    abbrev list : List ℕ
    list = start ∷ walked.list

    closes : roll (read w) start (count_in w) start ≡ complete list
    closes = ap (λ z. roll z start (count_in w) start) reads ∙ ap (λ k. roll s start k start) count_is ∙ walked.is

    in_the_ring : T (in_ring (row (read w) start))
    unfolding in_ring
    in_the_ring =
        let e : (row (read w) start).state ≡ INSIDE = rows.inside start (marked members start ls) in
        and_both (nat_le INSIDE (row (read w) start).state) (nat_le (row (read w) start).state LEAVING)
        (le→leb INSIDE (row (read w) start).state (omega arith)) (le→leb (row (read w) start).state LEAVING (omega arith))

    called : (out : List ℕ) (x : Rolled) → roll_written out (complete list) ≡ x → roll_call w start out ≡ x
    unfolding roll_call
    called out x e =
        passes _ _
        ∙ granted (λ z. z ≡ x) (nat_lt start (count_in w)) _ _ (lt→ltb start (count_in w) (omega (arith, below start ls, count_is)))
        (granted (λ z. z ≡ x) (in_ring (row (read w) start)) _ _ in_the_ring (ap (roll_written out) closes ∙ e))

    fits : (out : List ℕ) → length list ≤ length out → roll_call w start out ≡ record { outcome = Ok (length list); output = list ++ drop (length list) out }
    unfolding roll_written
    fits out l = called out _ (on_yes _ _ _ (le-leb (length list) (length out) l))

    no_room : (out : List ℕ) → length out < length list → roll_call w start out ≡ unrolled out OutputShort
    unfolding roll_written
    no_room out l = called out _ (on_no _ _ _ (lt-leb (length list) (length out) l))

    rolls : RollIsRing ids members w start
    rolls = record {
      list = list;
      closes = closes;
      members_only = λ hub k. marked members hub (all_mem (λ m. led m ≡ 1) list walked.members hub k);
      all_members = λ hub k. walked.all hub (mem_marked members hub k) (omega (arith, dist_self round (id start) (small start)));
      once = rising_once (λ x. dist round (id start) (id x)) list walked.rising;
      starts = refl;
      clockwise = rising_places (λ x. dist round (id start) (id x)) list none walked.rising;
      call = fits;
      no_room = no_room;
      few = walked.size;
    }

  resting : Resting ids members w
  resting = record { roll = λ start k. rolls start (mem_marked members start k); owner = owner_query; rows = rows }

pub at_rest : AtRest
unfolding AtRest Demand3
at_rest ids founder events w r e =
    resting (reached_course ids founder Some (some_kept ids) (λ g. (founder, mark_head [] founder)) events w r) e
    (demand_3 ids founder events w r).owner
