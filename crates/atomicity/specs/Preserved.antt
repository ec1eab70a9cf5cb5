-- An accepted step leaves a well-formed state well formed, and a fresh ring is so. For EVERY well-formed state and command.
-- Assumes nothing.
use Rattle.std.specs.Prelude.{◌≡◌, ◌⊎◌, ◌≢◌, Bool, not, ◌&&◌, List, [], ◌∷◌, ◌++◌, map, nat_le, nat_lt, length, get_or, set, take, drop}
use Rattle.std.proofs.Math.Path.{refl, subst}
use Rattle.std.proofs.Common.{sym, ◌∙◌, ap, add-one, leb→le, T_not, length-set, length-append, length-take, length-drop}
use Rattle.std.proofs.Math.Logic.{inl, inr}
use Prim.Native.Nat.{ℕ, zero, suc, ◌+◌, ◌≤◌, ◌<◌}
use Rattle.std.proofs.Math.Decide.{ℕ_discrete}
use native.Mathlib.Omega.{arith}
use Rattle.std.proofs.Common.{nat_eq}
use Rattle.std.proofs.Math.Dec.{T, ltb→lt, eqb→eq, nltb→le}
use Rattle.std.proofs.lemmas.List.{length-map}
use Rattle.std.proofs.Math.ListN.{get_or-map}
use Rattle.std.proofs.Math.Seq.{map-set_same}
use Rattle.lists.specs.Basics.{when◌then◌else◌, Mem}
use Rattle.lists.specs.Choice.{choose}
use Rattle.lists.specs.Members.{mem_at, mem_set}
use Rattle.lists.specs.Search.{Missed, search_ends}
use Rattle.lists.specs.Search.{Located}
use Rattle.lists.specs.Tests.{and_left, and_right, →eqb, true_T, Distinct}
use Rattle.protocol.specs.declared.Row.{Row}
use Rattle.protocol.specs.declared.Message.{Message}
use Rattle.protocol.specs.declared.Answer.{Answer}
use Rattle.protocol.specs.declared.Route.{Route}
use Rattle.protocol.specs.declared.Route.TheVariants.{Own, To}
use Rattle.protocol.specs.Outcomes.{Decided}
use Rattle.protocol.specs.declared.Decision.TheVariants.{Reply, Send}
use Rattle.std.specs.Prelude.{Err, Ok}
use Rattle.protocol.specs.Names.{INSIDE, JOINING, LEAVING, OUTSIDE, WANTING_TO_LEAVE, JOIN, JOINRETRY, JOINPOINT, NEWSUCC, NEWSUCCACK, JOINDONE, LEAVEREQ, LEAVERETRY, LEAVEGRANT, LEAVEPOINT, UPDATESUCC, STOPFORWARD, LEAVEDONE, LOOKUP}
use Rattle.protocol.specs.declared.refusal.Refusal.TheVariants.{NoOperation, NotExpected}
use Rattle.protocol.specs.Record.{most_nodes, most_messages, none, State, count, row, identifier, message, no_message, outside, with_row, without_message}
use Rattle.protocol.specs.WellFormed.{names_node}
use Rattle.protocol.specs.Fresh.{alone, founded_by, fresh}
use Rattle.protocol.specs.Routing.{in_ring, responsible, route}
use Rattle.protocol.specs.Kinds as kinds
use Rattle.protocol.specs.Kinds.{note, grown, lookup_routed, join_routed, admitted, handle}
use Rattle.protocol.specs.Step as step
use Rattle.protocol.specs.Step.{conclude, on_link, oldest, delivered}
use Rattle.layout.specs.Form.{RowForm, MessageForm, Form, row_at}
use Rattle.layout.specs.Asks.{ring_states, Leads, onward_leads, Leaves, leaves_refused, leaves_accepted, sent_form, ask_yes, roomy, ask_form}

pub responsible_states : (h : Row) → T (responsible h) → (INSIDE ≤ h.state) × (h.state ≤ WANTING_TO_LEAVE)
unfolding responsible
responsible_states h t =
    (leb→le INSIDE h.state (and_left (nat_le INSIDE h.state) (nat_lt h.state LEAVING) t), omega (arith, ltb→lt h.state LEAVING (and_right (nat_le INSIDE h.state) (nat_lt h.state LEAVING) t)))

-- where a message goes is a hub
route_leads : (n p : ℕ) (h : Row) (f v : ℕ) → h.pred < n → h.succ < n → Leads n (route p h f v)
unfolding route
route_leads n p h f v k l = choose (Leads n) _ _ _ (λ _. k) (λ _. onward_leads n p h v l)

-- hops still fit after a delivery: all that is needed of the rule by which they grow
grown_fits : (m : Message) → m.hops ≤ 65535 → grown m ≤ 65535
unfolding grown
grown_fits m l =
    choose (λ z. z ≤ 65535) _ _ _ (λ _. l) (λ _. choose (λ z. z ≤ 65535) _ (m.hops + 1) m.hops (λ t. omega (arith, ltb→lt m.hops 65535 t)) (λ _. l))

-- A decision at a hub with row h, in a ring of n hubs with q questions asked: its row and its message are as they must be. It refuses where receiver or hub is not as required, and else not.
abbrev pub Sound : ℕ → ℕ → Row → Decided → Type 0
Sound n q h (Err k) = k ≡ NotExpected
Sound n q h (Ok (Reply v a)) = RowForm n v × (v.identifier ≡ h.identifier)
Sound n q h (Ok (Send v m a)) = RowForm n v × (v.identifier ≡ h.identifier) × MessageForm n q m

-- a message that is no LOOKUP
note_form : {n q : ℕ} (k x y a : ℕ) → 2 ≤ k → k < 15 → x < n → y < n → (T (names_node k) → a < n) → (¬ T (names_node k) → a ≡ 0)
    → MessageForm n q (note k x y a)
note_form k x y a l u hx hy node nil = record {
  low = omega arith;
  high = u;
  from = hx;
  to = hy;
  node = λ t _. node t;
  zero = λ f _. nil f;
  lookup = λ e. absurd (omega arith);
  plain = λ _. (refl, refl);
}

module _ (n q : ℕ) (h : Row) (r : RowForm n h) (m : Message) (ok : MessageForm n q m) where
  abbrev Well : Decided → Type 0
  Well d = Sound n q h d

  if_else : (b : Bool) (d : Decided) → (T b → Well d) → Well (when b then d else Err NotExpected)
  if_else b d f = choose Well b d (Err NotExpected) f (λ _. refl)

  -- the flag is down in every state but 2
  down : h.state ≢ INSIDE → (h.flag ≡ 0) × (h.oldpred ≡ none)
  down ne = elim r.flag [ inl k ↦ k | inr k ↦ absurd (ne k.1) ]

  -- succ alone is changed, at a hub in the ring
  turn : (s : ℕ) → s < n → INSIDE ≤ h.state → RowForm n (kinds.with_succ h s)
  turn s l k = record {
    state = r.state;
    lock = r.lock;
    unlinked = λ u. absurd (omega arith);
    linked = λ _. ((r.linked k).0, l);
    out = r.out;
    locked = r.locked;
    flag = r.flag;
  }

  -- the lock is freed in state 2
  loose : h.state ≡ INSIDE → h.flag ≡ 0 → RowForm n (kinds.with_lock h 0)
  loose e f = record {
    state = r.state;
    lock = omega arith;
    unlinked = r.unlinked;
    linked = r.linked;
    out = λ _. refl;
    locked = λ _ ne. absurd (ne e);
    flag = elim r.flag [ inl k ↦ inl k | inr k ↦ absurd (omega arith) ];
  }

  lookup_routed_sound : m.kind ≡ LOOKUP → (z : Route) → Leads n z → Well (lookup_routed h m z)
  unfolding lookup_routed names_node
  lookup_routed_sound e Own l = (r, refl)
  lookup_routed_sound e (To z) l = (
    r,
    refl,
    record {
      low = omega arith;
      high = omega arith;
      from = ok.to;
      to = l;
      node = λ _ ne. absurd (ne refl);
      zero = λ _ ne. absurd (ne refl);
      lookup = λ _. ((ok.lookup e).0, grown_fits m (ok.lookup e).1);
      plain = λ ne. absurd (ne refl);
    },
  )

  lookup_sound : (p : ℕ) → m.kind ≡ LOOKUP → Well (kinds.lookup p h m)
  unfolding kinds.lookup
  lookup_sound p e =
      if_else (in_ring h) _
      (λ t. let b = r.linked (ring_states h t).0 in lookup_routed_sound e (route p h m.from m.a) (route_leads n p h m.from m.a b.0 b.1))

  retried_sound : m.a < n → Well (kinds.join_retried h m)
  unfolding names_node
  retried_sound la = (r, refl, note_form JOINRETRY m.to m.a 0 (omega arith) (omega arith) ok.to la (λ t. absurd t) (λ _. refl))

  join_routed_sound : m.a < n → INSIDE ≤ h.state → (z : Route) → Leads n z → Well (join_routed h m z)
  unfolding join_routed names_node
  join_routed_sound la k Own l =
      choose Well (nat_eq h.lock 1) _ _ (λ _. retried_sound la)
      (λ t. (enters t, refl, note_form JOINPOINT m.to m.a h.pred (omega arith) (omega arith) ok.to la (λ _. (r.linked k).0) (λ f. absurd (f tt))))
    where
      two : T (not (nat_eq h.lock 1)) → Dec (h.state ≡ INSIDE) → h.state ≡ INSIDE
      two t (yes e) = e
      two t (no e) = absurd (T_not (nat_eq h.lock 1) t (→eqb _ 1 (r.locked (λ x. omega arith) e)))

      enters : T (not (nat_eq h.lock 1)) → RowForm n (admitted h m.a)
      enters t = record {
        state = r.state;
        lock = omega arith;
        unlinked = λ u. absurd (omega arith);
        linked = λ _. (la, (r.linked k).1);
        out = λ e. absurd (omega arith);
        locked = λ _ _. refl;
        flag = inr (refl, two t (ℕ_discrete h.state INSIDE), refl, (r.linked k).0);
      }
  join_routed_sound la k (To z) l = (r, refl, note_form JOIN m.to z m.a (omega arith) (omega arith) ok.to l (λ _. la) (λ f. absurd (f tt)))

  join_sound : (p : ℕ) (g : Row) → m.a < n → Well (kinds.join p h g m)
  unfolding kinds.join
  join_sound p g la =
      if_else (nat_eq g.state JOINING) _ (λ _. choose Well (nat_lt h.state INSIDE) _ _ (λ _. retried_sound la)
      (λ t. let k : INSIDE ≤ h.state = nltb→le h.state INSIDE t in let b = r.linked k in
      join_routed_sound la k (route p h m.from g.identifier) (route_leads n p h m.from g.identifier b.0 b.1)))

  join_retry_sound : Well (kinds.join_retry h m)
  unfolding kinds.join_retry
  join_retry_sound = if_else (nat_eq h.state JOINING) _ λ t.
      let e : h.state ≡ JOINING = eqb→eq _ JOINING t in (
        record {
          state = omega arith;
          lock = omega arith;
          unlinked = λ _. r.unlinked (omega arith);
          linked = λ l. absurd (omega arith);
          out = λ _. refl;
          locked = λ ne. absurd (ne refl);
          flag = inl (down (λ x. omega arith));
        },
        refl,
      )

  join_point_sound : m.a < n → Well (kinds.join_point h m)
  unfolding kinds.join_point names_node
  join_point_sound la = if_else (nat_eq h.state JOINING) _ λ t.
      let e : h.state ≡ JOINING = eqb→eq _ JOINING t in (
        record {
          state = omega arith;
          lock = r.lock;
          unlinked = λ l. absurd (omega arith);
          linked = λ _. (la, ok.from);
          out = λ x. absurd (omega arith);
          locked = λ _ ne. absurd (ne refl);
          flag = inl (down (λ x. omega arith));
        },
        refl,
        note_form NEWSUCC m.to m.a 0 (omega arith) (omega arith) ok.to la (λ t. absurd t) (λ _. refl),
      )

  new_succ_sound : Well (kinds.new_succ h m)
  unfolding kinds.new_succ names_node
  new_succ_sound = if_else (responsible h) _ λ t.
      let w = responsible_states h t in
      (turn m.from ok.from w.0, refl, note_form NEWSUCCACK m.to h.succ m.from (omega arith) (omega arith) ok.to (r.linked w.0).1 (λ _. ok.from) (λ f. absurd (f tt)))

  new_succ_ack_sound : m.a < n → Well (kinds.new_succ_ack h m)
  unfolding kinds.new_succ_ack names_node
  new_succ_ack_sound la = if_else (nat_eq h.flag 1) _ λ t.
      let e : h.flag ≡ 1 = eqb→eq _ 1 t in (
        record {
          state = r.state;
          lock = omega arith;
          unlinked = r.unlinked;
          linked = r.linked;
          out = λ _. refl;
          locked = λ _ ne. absurd (elim r.flag [ inl x ↦ omega arith | inr x ↦ ne x.1 ]);
          flag = inl (refl, refl);
        },
        refl,
        note_form JOINDONE m.to m.a 0 (omega arith) (omega arith) ok.to la (λ t. absurd t) (λ _. refl),
      )

  -- state 2, lock 1, flag 0: the lock is freed
  freed : (a : Answer) → Well (when nat_eq h.state INSIDE && nat_eq h.lock 1 && nat_eq h.flag 0 then Ok (Reply (kinds.with_lock h 0) a) else Err NotExpected)
  freed a = if_else (nat_eq h.state INSIDE && nat_eq h.lock 1 && nat_eq h.flag 0) _ λ t.
      let st : h.state ≡ INSIDE = eqb→eq _ INSIDE (and_left (nat_eq h.state INSIDE) (nat_eq h.lock 1) (and_left (nat_eq h.state INSIDE && nat_eq h.lock 1) (nat_eq h.flag 0) t)) in
      let fl : h.flag ≡ 0 = eqb→eq _ 0 (and_right (nat_eq h.state INSIDE && nat_eq h.lock 1) (nat_eq h.flag 0) t) in
      (loose st fl, refl)

  leave_req_sound : Well (kinds.leave_req h m)
  unfolding kinds.leave_req names_node
  leave_req_sound = if_else (in_ring h) _ λ t.
      let w = ring_states h t in
      choose Well (nat_eq h.lock 1) _ _
      (λ _. (r, refl, note_form LEAVERETRY m.to m.from 0 (omega arith) (omega arith) ok.to ok.from (λ t. absurd t) (λ _. refl)))
      (λ _. (
        record {
          state = r.state;
          lock = omega arith;
          unlinked = r.unlinked;
          linked = r.linked;
          out = λ e. absurd (omega arith);
          locked = λ _ _. refl;
          flag = elim r.flag [ inl k ↦ inl k | inr k ↦ inr (k.0, k.1, refl, k.3) ];
        },
        refl,
        note_form LEAVEGRANT m.to m.from 0 (omega arith) (omega arith) ok.to ok.from (λ t. absurd t) (λ _. refl),
      ))

  leave_retry_sound : Well (kinds.leave_retry h m)
  unfolding kinds.leave_retry
  leave_retry_sound = if_else (nat_eq h.state WANTING_TO_LEAVE) _ λ t.
      let e : h.state ≡ WANTING_TO_LEAVE = eqb→eq _ WANTING_TO_LEAVE t in (
        record {
          state = omega arith;
          lock = omega arith;
          unlinked = λ l. absurd (omega arith);
          linked = λ _. r.linked (omega arith);
          out = λ _. refl;
          locked = λ _ ne. absurd (ne refl);
          flag = inl (down (λ x. omega arith));
        },
        refl,
      )

  leave_grant_sound : Well (kinds.leave_grant h m)
  unfolding kinds.leave_grant names_node
  leave_grant_sound = if_else (nat_eq h.state WANTING_TO_LEAVE) _ λ t.
      let e : h.state ≡ WANTING_TO_LEAVE = eqb→eq _ WANTING_TO_LEAVE t in
      let b = r.linked (omega arith) in (
        record {
          state = omega arith;
          lock = r.lock;
          unlinked = λ l. absurd (omega arith);
          linked = λ _. b;
          out = λ x. absurd (omega arith);
          locked = λ _ _. r.locked (λ x. omega arith) (λ x. omega arith);
          flag = inl (down (λ x. omega arith));
        },
        refl,
        note_form LEAVEPOINT m.to m.from h.pred (omega arith) (omega arith) ok.to ok.from (λ _. b.0) (λ f. absurd (f tt)),
      )

  leave_point_sound : m.a < n → Well (kinds.leave_point h m)
  unfolding kinds.leave_point names_node
  leave_point_sound la = if_else (nat_eq h.state INSIDE && nat_eq h.lock 1) _ λ t.
      let e : h.state ≡ INSIDE = eqb→eq _ INSIDE (and_left (nat_eq h.state INSIDE) (nat_eq h.lock 1) t) in (
        record {
          state = r.state;
          lock = r.lock;
          unlinked = λ l. absurd (omega arith);
          linked = λ _. (la, (r.linked (omega arith)).1);
          out = r.out;
          locked = r.locked;
          flag = r.flag;
        },
        refl,
        note_form UPDATESUCC m.to m.a 0 (omega arith) (omega arith) ok.to la (λ t. absurd t) (λ _. refl),
      )

  update_succ_sound : Well (kinds.update_succ h m)
  unfolding kinds.update_succ names_node
  update_succ_sound = if_else (responsible h) _ λ t.
      let w = responsible_states h t in
      (turn m.from ok.from w.0, refl, note_form STOPFORWARD m.to h.succ 0 (omega arith) (omega arith) ok.to (r.linked w.0).1 (λ t. absurd t) (λ _. refl))

  stop_forward_sound : Well (kinds.stop_forward h m)
  unfolding kinds.stop_forward names_node
  stop_forward_sound = if_else (nat_eq h.state LEAVING) _ λ t.
      let e : h.state ≡ LEAVING = eqb→eq _ LEAVING t in (
        record {
          state = omega arith;
          lock = omega arith;
          unlinked = λ _. (refl, refl);
          linked = λ l. absurd (omega arith);
          out = λ _. refl;
          locked = λ ne. absurd (ne refl);
          flag = inl ((down (λ x. omega arith)).0, refl);
        },
        refl,
        note_form LEAVEDONE m.to h.succ 0 (omega arith) (omega arith) ok.to (r.linked (omega arith)).1 (λ t. absurd t) (λ _. refl),
      )

  -- a message of a kind that names a hub
  names_hub : (k : ℕ) → T (names_node k) → 2 ≤ k → m.kind ≡ k → m.a < n
  names_hub k t l e = ok.node (subst (λ z. T (names_node z)) (sym e) t) (λ z. omega arith)

  -- the match over the kinds
  pub handle_sound : (p : ℕ) (g : Row) → Well (handle p h g m)
  unfolding handle kinds.join_done kinds.leave_done names_node
  handle_sound p g =
      by 1 _ _ (λ e. lookup_sound p e) (by 2 _ _ (λ e. join_sound p g (names_hub 2 tt (omega arith) e)) (by 3 _ _ (λ e. join_retry_sound)
      (by 4 _ _ (λ e. join_point_sound (names_hub 4 tt (omega arith) e)) (by 5 _ _ (λ e. new_succ_sound)
      (by 6 _ _ (λ e. new_succ_ack_sound (names_hub 6 tt (omega arith) e)) (by 7 _ _ (λ e. freed _) (by 8 _ _ (λ e. leave_req_sound)
      (by 9 _ _ (λ e. leave_retry_sound) (by 10 _ _ (λ e. leave_grant_sound) (by 11 _ _ (λ e. leave_point_sound (names_hub 11 tt (omega arith) e))
      (by 12 _ _ (λ e. update_succ_sound) (by 13 _ _ (λ e. stop_forward_sound) (by 14 _ _ (λ e. freed _) refl)))))))))))))
    where
      by : (k : ℕ) (x y : Decided) → (m.kind ≡ k → Well x) → Well y → Well (when nat_eq m.kind k then x else y)
      by k x y f g = choose Well (nat_eq m.kind k) x y (λ t. f (eqb→eq m.kind k t)) (λ _. g)

-- the row of hub t is made v
with_row_form : (s : State) (t : ℕ) (v : Row) → Form s → RowForm (count s) v → v.identifier ≡ (row s t).identifier → Form (with_row s t v)
with_row_form s t v f r e =
    let n : length (set s.rows t v) ≡ count s = length-set s.rows t v in
    record {
      some = rw n f.some;
      few = rw n f.few;
      short = f.short;
      differ = subst Distinct (sym (map-set_same (λ h. h.identifier) s.rows t v (outside 0) e)) f.differ;
      rows = λ h k. rw n (elim (mem_set s.rows t v h k) [ inl q ↦ subst (RowForm (count s)) (sym q) r | inr j ↦ f.rows h j ]);
      messages = λ m k. rw n (f.messages m k);
    }

conclude_form : (s : State) (t : ℕ) (d : Decided) → Form s → length s.messages < most_messages → Sound (count s) s.asked (row s t) d → Leaves (conclude s t d)
unfolding conclude
conclude_form s t (Err k) f l w = leaves_refused k
conclude_form s t (Ok (Reply v a)) f l w = leaves_accepted a _ (with_row_form s t v f w.0 w.1)
conclude_form s t (Ok (Send v m a)) f l w =
    leaves_accepted a _ (sent_form (with_row s t v) m (with_row_form s t v f w.0 w.1) l (rw (length-set s.rows t v) w.2))

mem_part : {A : Type 0} (l : List A) (j : ℕ) (x : A) → Mem x (take j l ++ drop (suc j) l) → Mem x l
mem_part [] zero x k = absurd k
mem_part [] (suc j) x k = absurd k
mem_part (y ∷ l) zero x k = inr k
mem_part (y ∷ l) (suc j) x (inl e) = inl e
mem_part (y ∷ l) (suc j) x (inr k) = inr (mem_part l j x k)

-- the oldest message of a link goes to its receiver
link_to : (s : State) (x y : ℕ) → oldest s x y < length s.messages → (message s (oldest s x y)).to ≡ y
unfolding on_link
link_to s x y l = go (search_ends (on_link s x y) (length s.messages))
  where
    go : Located (on_link s x y) (length s.messages) ⊎ Missed (on_link s x y) (length s.messages) → (message s (oldest s x y)).to ≡ y
    go (inl k) = eqb→eq _ y (and_right (nat_eq (message s (oldest s x y)).from x) _ (true_T _ k.here))
    go (inr k) = absurd (omega (arith, k.end))

-- message j is taken out
module _ (s : State) (f : Form s) (j : ℕ) (l : j < length s.messages) where
  without_short : length (without_message s j).messages < most_messages
  without_short =
      omega (arith, length-append (take j s.messages) (drop (j + 1) s.messages), length-take j s.messages, length-drop (j + 1) s.messages, f.short)

  without_form : Form (without_message s j)
  without_form = record {
    some = f.some;
    few = f.few;
    short = omega (arith, without_short);
    differ = f.differ;
    rows = f.rows;
    messages = λ m k. f.messages m (mem_part s.messages j m (rw add-one at k));
  }

  delivered_form : (t : ℕ) → (message s j).to ≡ t → Leaves (delivered s t j)
  unfolding delivered
  delivered_form t e =
      let ok = f.messages (message s j) (mem_at s.messages j no_message l) in
      conclude_form (without_message s j) t _ without_form without_short
      (handle_sound (count s) s.asked (row s t) (row_at f t (rw e at ok.to)) (message s j) ok (identifier s (row s t).pred) (row s (message s j).a))

module _ (s : State) (f : Form s) where
  join_form : (x y : ℕ) → Leaves (step.join s x y)
  unfolding step.join names_node
  join_form x y = ask_yes _ _ _ λ t4. ask_yes _ _ _ λ t6. ask_yes _ _ _ λ t5. ask_yes _ _ _ λ t11.
      let lx : x < count s = ltb→lt x (count s) (and_left (nat_lt x (count s)) (nat_lt y (count s)) t4) in
      let ly : y < count s = ltb→lt y (count s) (and_right (nat_lt x (count s)) (nat_lt y (count s)) t4) in
      let e : (row s x).state ≡ OUTSIDE = eqb→eq _ OUTSIDE t6 in
      let r = row_at f x lx in
      conclude_form s x _ f (roomy s t11) (
        record {
          state = omega arith;
          lock = omega arith;
          unlinked = λ _. r.unlinked (omega arith);
          linked = λ l. absurd (omega arith);
          out = λ z. absurd (omega arith);
          locked = λ _ _. refl;
          flag = elim r.flag [ inl k ↦ inl k | inr k ↦ absurd (omega arith) ];
        },
        refl,
        note_form JOIN x y x (omega arith) (omega arith) lx ly (λ _. lx) (λ f. absurd (f tt)),
      )

  leave_form : (x : ℕ) → Leaves (step.leave s x)
  unfolding step.leave names_node
  leave_form x = ask_yes _ _ _ λ t4. ask_yes _ _ _ λ t5. ask_yes _ _ _ λ t7. ask_yes _ _ _ λ t8. ask_yes _ _ _ λ t11.
      let lx : x < count s = ltb→lt x (count s) t4 in
      let w = ring_states (row s x) t5 in
      let z : (row s x).lock ≡ 0 = eqb→eq _ 0 t7 in
      let r = row_at f x lx in
      let b = r.linked w.0 in
      conclude_form s x _ f (roomy s t11) (
        record {
          state = omega arith;
          lock = omega arith;
          unlinked = λ l. absurd (omega arith);
          linked = λ _. b;
          out = λ e. absurd (omega arith);
          locked = λ _ _. refl;
          flag = elim r.flag [ inl k ↦ inl k | inr k ↦ absurd (omega (arith, k.2)) ];
        },
        refl,
        note_form LEAVEREQ x (row s x).succ 0 (omega arith) (omega arith) lx b.1 (λ t. absurd t) (λ _. refl),
      )

  deliver_form : (x y : ℕ) → Leaves (step.deliver s x y)
  unfolding step.deliver
  deliver_form x y = ask_yes _ _ _ λ t4. ask_yes _ _ _ λ t9.
      delivered_form s f (oldest s x y) (ltb→lt _ _ t9) y (link_to s x y (ltb→lt _ _ t9))

  -- An accepted step leaves the state well formed.
  pub step_form : (operation x y : ℕ) → Leaves (step.step s operation x y)
  unfolding step.step
  step_form operation x y =
      choose Leaves _ _ _ (λ _. ask_form s f x y) (λ _. choose Leaves _ _ _ (λ _. join_form x y) (λ _. choose Leaves _ _ _ (λ _. leave_form x)
      (λ _. choose Leaves _ _ _ (λ _. deliver_form x y) (λ _. leaves_refused NoOperation))))

-- A fresh ring is well formed.
module _ (ids : List ℕ) where
  identifiers_outside : (l : List ℕ) → map (λ h. h.identifier) (map outside l) ≡ l
  identifiers_outside [] = refl
  identifiers_outside (i ∷ l) = ap (λ z. i ∷ z) (identifiers_outside l)

  outside_row : (n : ℕ) (l : List ℕ) (h : Row) → Mem h (map outside l) → RowForm n h
  outside_row n (i ∷ l) h (inl e) = subst (RowForm n) (sym e) (record {
    state = omega arith;
    lock = omega arith;
    unlinked = λ _. (refl, refl);
    linked = λ l. absurd (omega arith);
    out = λ _. refl;
    locked = λ ne. absurd (ne refl);
    flag = inl (refl, refl);
  })
  outside_row n (i ∷ l) h (inr k) = outside_row n l h k
  outside_row n [] h k = absurd k

  alone_row : (n f i : ℕ) → f < n → RowForm n (alone f i)
  alone_row n f i l = record {
    state = omega arith;
    lock = omega arith;
    unlinked = λ u. absurd (omega arith);
    linked = λ _. (l, l);
    out = λ e. absurd (omega arith);
    locked = λ _ ne. absurd (ne refl);
    flag = inl (refl, refl);
  }

  -- the founder's row keeps its identifier
  pub founder_name : (f : ℕ) → get_or ids f 0 ≡ (get_or (map outside ids) f (outside 0)).identifier
  founder_name f = sym (ap (λ h. h.identifier) (get_or-map outside ids f 0))

  pub identifiers_founded : (f : ℕ) → map (λ h. h.identifier) (founded_by f ids) ≡ ids
  identifiers_founded f = map-set_same (λ h. h.identifier) (map outside ids) f (alone f (get_or ids f 0)) (outside 0) (founder_name f) ∙ identifiers_outside ids

  pub length_founded : (f : ℕ) → length (founded_by f ids) ≡ length ids
  length_founded f = length-set (map outside ids) f (alone f (get_or ids f 0)) ∙ length-map ids outside

  pub fresh_form : (f : ℕ) → f < length ids → length ids ≤ most_nodes → Distinct ids → Form (fresh ids f)
  unfolding fresh
  fresh_form f below few differ =
      let n = length_founded f in
      record {
        some = rw n (omega arith);
        few = rw n few;
        short = omega arith;
        differ = subst Distinct (sym (identifiers_founded f)) differ;
        rows = λ h k. rw n (elim (mem_set (map outside ids) f (alone f (get_or ids f 0)) h k)
            [ inl e ↦ subst (RowForm (length ids)) (sym e) (alone_row (length ids) f (get_or ids f 0) below) | inr j ↦ outside_row (length ids) ids h j ]);
        messages = λ m k. absurd k;
      }
