-- A waiting message that is oldest on its link is delivered, never refused, and all is good afterwards. Assumes nothing.
use Rattle.std.specs.Prelude.{◌≡◌, ◌≢◌, not, ◌&&◌, ℕ, ◌+◌, ◌≤◌, ◌<◌, T, nat_le, nat_lt, nat_eq, length, set}
use Rattle.std.proofs.Math.Path.{refl}
use Rattle.std.proofs.Common.{sym, ap, subst, inl, inr, arith, le→leb, lt→ltb, T_not}
use Rattle.std.proofs.Math.Bool.{false}
use mathlib.Core.List.{List, [], ◌∷◌, ◌++◌, map, append-nil}
use Rattle.std.proofs.Math.Dec.{nltb→le}
use Rattle.std.proofs.lemmas.List.{set-get_or}
use Rattle.clockwise.specs.Laws.{In}
use Rattle.lists.specs.Basics.{when◌then◌else◌, Mem, times}
use Rattle.lists.specs.Choice.{choose, passes}
use Rattle.lists.specs.Members.{mem_mid}
use Rattle.lists.specs.Tests.{and_both, →eqb}
use Rattle.protocol.specs.declared.Row.{Row}
use Rattle.protocol.specs.declared.Message.{Message}
use Rattle.protocol.specs.declared.Answer.{Answer}
use Rattle.protocol.specs.declared.Answer.TheVariants.{Quiet, Found, Entered, Gone, JoinTurnedAway, LeaveTurnedAway, Joined, Left}
use Rattle.protocol.specs.Outcomes.{Decided}
use Rattle.protocol.specs.declared.Decision.TheVariants.{Reply, Send}
use Rattle.std.specs.Prelude.{Ok}
use Rattle.protocol.specs.Names.{INSIDE, JOINING, LEAVING, WANTING_TO_LEAVE}
use Rattle.protocol.specs.Record.{round, State, outside}
use Rattle.protocol.specs.Routing.{in_ring, responsible}
use Rattle.protocol.specs.Kinds as kinds
use Rattle.protocol.specs.Kinds.{note, question, grown, lookup_routed, join_routed, admitted, handle}
use Rattle.protocol.specs.Step.{conclude}
use Rattle.protocol.specs.Membership.{after_answer, found_ticket, mark}
use Rattle.atomicity.specs.Members.{taken_in_same, taken_in_other, struck_same, struck_other}
use Rattle.atomicity.specs.Neighbours.{owner_of}
use Rattle.atomicity.specs.Invariant.{Hubs, Msg, erase, to, owners, Loc, Way, Inv}
use Rattle.atomicity.specs.Invariant.{lookup, join, join_retry, join_point, new_succ, new_succ_ack, join_done}
use Rattle.atomicity.specs.Invariant.{leave_req, leave_retry, leave_grant, leave_point, update_succ, stop_forward, leave_done}
use Rattle.atomicity.specs.OneStep.{no_join, Clear, take_out, locked}
use Rattle.atomicity.specs.Calm.{Rewritten, sent as calm_sent}
use Rattle.atomicity.specs.Roles.{reach, state_le, newcomer}
use Rattle.atomicity.specs.Joins as joins
use Rattle.atomicity.specs.Leaves as leaves
use Rattle.atomicity.specs.Moves.{join_enter, leave_point_lem}
use Rattle.atomicity.specs.Good.{core_of, row_of, hubs, rewritten, waits, asks, Numbers, nums, Holds, Names, Fine, fine_accepted, finish, route_fine}

-- the receivers' conditions
in_ring_lem : (h : Row) → INSIDE ≤ h.state → h.state ≤ LEAVING → T (in_ring h)
unfolding in_ring
in_ring_lem h l u = and_both (nat_le INSIDE h.state) (nat_le h.state LEAVING) (le→leb INSIDE h.state l) (le→leb h.state LEAVING u)

is_responsible : (h : Row) → INSIDE ≤ h.state → h.state ≤ WANTING_TO_LEAVE → T (responsible h)
unfolding responsible
is_responsible h l u = and_both (nat_le INSIDE h.state) (nat_lt h.state LEAVING) (le→leb INSIDE h.state l) (lt→ltb h.state LEAVING (omega arith))

two_eqb : (a x b y : ℕ) → a ≡ x → b ≡ y → T (nat_eq a x && nat_eq b y)
two_eqb a x b y e f = and_both (nat_eq a x) (nat_eq b y) (→eqb a x e) (→eqb b y f)

three_eqb : (a x b y d z : ℕ) → a ≡ x → b ≡ y → d ≡ z → T (nat_eq a x && nat_eq b y && nat_eq d z)
three_eqb a x b y d z e f g = and_both (nat_eq a x && nat_eq b y) (nat_eq d z) (two_eqb a x b y e f) (→eqb d z g)

module _ (id : ℕ → ℕ) (small : (h : ℕ) → id h < round) (c : ℕ) (inj : (a b : ℕ) → a < c → b < c → id a ≡ id b → a ≡ b)
    (rows : List Row) (asked : ℕ) (members ks : List ℕ) (s t : List Msg) where
  abbrev S : Hubs
  S = hubs rows (mark members)

  -- the state without the message that is delivered
  abbrev R : State
  R = record { rows = rows; messages = map erase s ++ map erase t; asked = asked }

  abbrev With : Msg → Type 0
  With m = Holds id c rows asked members ks (s ++ (m ∷ t))

  abbrev Right : ℕ → Decided → Type 0
  Right y d = Fine id c members ks asked false (conclude R y d)

  -- the message's condition, its numbers, and that its receiver is a hub
  loc_of : (m : Msg) → With m → Loc S m
  loc_of m H = H.inv.loc m (mem_mid s m t)

  num_of : (m : Msg) → With m → Numbers c m
  num_of m H = H.numbers m (mem_mid s m t)

  hub_of_lem : (m : Msg) → With m → to m < length rows
  hub_of_lem m H = omega (arith, (num_of m H).dst, H.size)

  -- a lock that the message carries is taken
  lock_of : (m : Msg) (h : ℕ) → Clear m s → With m → Mem h (owners m) → (row_of rows h).lock ≡ 1
  lock_of m h cl H k = locked (take_out s m t cl H.inv) h k

  -- a reply, and a message sent: what is left to show is the invariant, the tickets and the new message's numbers
  module _ (m : Msg) (H : With m) (v : Row) (ident : v.identifier ≡ (row_of rows (to m)).identifier) where
    reply : (a : Answer) → Names id members a
        → Inv round id c (hubs (set rows (to m) v) (mark (after_answer members a))) [] ((s ++ t) ++ [])
        → ((k : ℕ) → times (found_ticket a ++ ks) k + 0 ≡ times ks k + waits k m) → length (found_ticket a ++ ks) + 0 ≡ length ks + asks m
        → Right (to m) (Ok (Reply v a))
    unfolding conclude
    reply a nm i tk ln = fine_accepted id c members ks asked false a _ (record {
      named = nm;
      asked = refl;
      good = finish s m t H a (to m) v [] (map erase s ++ map erase t) (sym (append-nil _)) ident i tk ln tt;
    })

    send : (a : Answer) (u : Msg) (w : Message) → w ≡ erase u → Names id members a
        → Inv round id c (hubs (set rows (to m) v) (mark (after_answer members a))) [] ((s ++ t) ++ (u ∷ []))
        → ((k : ℕ) → times (found_ticket a ++ ks) k + (waits k u + 0) ≡ times ks k + waits k m) → length (found_ticket a ++ ks) + (asks u + 0) ≡ length ks + asks m
        → Numbers c u → Right (to m) (Ok (Send v w a))
    unfolding conclude
    send a u w e nm i tk ln nu = fine_accepted id c members ks asked false a _ (record {
      named = nm;
      asked = refl;
      good = finish s m t H a (to m) v (u ∷ []) _ (ap (λ z. (map erase s ++ map erase t) ++ (z ∷ [])) e) ident i tk ln (nu, tt);
    })

  -- the row is left as it is
  unchanged : (y : ℕ) {ms : List Msg} → Inv round id c S [] ms → Inv round id c (hubs (set rows y (row_of rows y)) (mark members)) [] ms
  unchanged y {ms} i = subst (λ z. Inv round id c (hubs z (mark members)) [] ms) (sym (set-get_or rows y (outside 0))) i

  -- a lock that is not taken is free
  unlocked : {ms : List Msg} → Inv round id c S [] ms → (b : ℕ) → T (not (nat_eq (row_of rows b).lock 1)) → (row_of rows b).lock ≡ 0
  unlocked i b z = let ne : (row_of rows b).lock ≢ 1 = λ e. T_not (nat_eq (row_of rows b).lock 1) z (→eqb _ 1 e) in omega (arith, i.one b)

  row_of_lem : (m : Msg) → With m → (v : Row) → Rewritten S (hubs (set rows (to m) v) (mark members)) (to m) (core_of v) v.succ
  row_of_lem m H v = rewritten rows (mark members) (mark members) (to m) v (hub_of_lem m H)

  join_retry_fine : (x a : ℕ) → Clear (join_retry x a) s → With (join_retry x a) → Right a (kinds.join_retry (row_of rows a) (erase (join_retry x a)))
  unfolding kinds.join_retry
  join_retry_fine x a cl H =
      let L = loc_of (join_retry x a) H in
      passes (Right a) _ _ _ (→eqb _ 1 L.0)
      (reply (join_retry x a) H _ refl (JoinTurnedAway a) tt
      (joins.join_retry_lem round id small c S _ s t x a cl H.inv (row_of_lem (join_retry x a) H _) (λ h. refl)) (λ k. omega arith) (omega arith))

  join_point_fine : (a b p : ℕ) → Clear (join_point a b p) s → With (join_point a b p) → Right a (kinds.join_point (row_of rows a) (erase (join_point a b p)))
  unfolding kinds.join_point
  join_point_fine a b p cl H =
      let L = loc_of (join_point a b p) H in
      passes (Right a) _ _ _ (→eqb _ 1 L.0)
      (send (join_point a b p) H _ refl Quiet (new_succ a b p) _ refl tt
      (joins.join_point_lem round id small c S _ s t a b p cl H.inv (row_of_lem (join_point a b p) H _) (λ h. refl)) (λ k. omega arith) (omega arith)
      (nums (new_succ a b p) (num_of (join_point a b p) H).dst (H.inv.below p (omega (arith, L.3.low))) (λ e. omega arith)))

  new_succ_fine : (a b p : ℕ) → Clear (new_succ a b p) s → With (new_succ a b p) → Right p (kinds.new_succ (row_of rows p) (erase (new_succ a b p)))
  unfolding kinds.new_succ
  new_succ_fine a b p cl H =
      let L = loc_of (new_succ a b p) H in
      passes (Right p) _ _ _ (is_responsible _ L.3.low L.3.high)
      (send (new_succ a b p) H _ refl Quiet (new_succ_ack a b p) _ (ap (λ z. note 6 p z a) L.3.at) tt
      (joins.new_succ_lem round id small c S _ s t a b p cl H.inv (row_of_lem (new_succ a b p) H _) (λ h. refl)) (λ k. omega arith) (omega arith)
      (nums (new_succ_ack a b p) (num_of (new_succ a b p) H).dst (H.inv.below b (omega (arith, L.2.state))) (λ e. omega arith)))

  new_succ_ack_fine : (a b p : ℕ) → Clear (new_succ_ack a b p) s → With (new_succ_ack a b p) → Right b (kinds.new_succ_ack (row_of rows b) (erase (new_succ_ack a b p)))
  unfolding kinds.new_succ_ack
  new_succ_ack_fine a b p cl H =
      let L = loc_of (new_succ_ack a b p) H in
      passes (Right b) _ _ _ (→eqb _ 1 L.2.flag)
      (send (new_succ_ack a b p) H _ refl Quiet (join_done a b) _ refl tt
      (joins.new_succ_ack_lem round id small c S _ s t a b p cl H.inv (row_of_lem (new_succ_ack a b p) H _) (λ h. refl)) (λ k. omega arith) (omega arith)
      (nums (join_done a b) (num_of (new_succ_ack a b p) H).dst (H.inv.below a (omega (arith, L.0.state))) (λ e. omega arith)))

  join_done_fine : (a b : ℕ) → Clear (join_done a b) s → With (join_done a b) → Right a (kinds.join_done (row_of rows a) (erase (join_done a b)))
  unfolding kinds.join_done
  join_done_fine a b cl H =
      let L = loc_of (join_done a b) H in
      passes (Right a) _ _ _ (three_eqb _ 2 _ 1 _ 0 L.state (lock_of (join_done a b) a cl H (inl refl)) L.flag)
      (reply (join_done a b) H _ refl (Joined a) tt
      (joins.join_done_lem round id small c S _ s t a b cl H.inv (row_of_lem (join_done a b) H _) (λ h. refl)) (λ k. omega arith) (omega arith))

  leave_req_fine : (q b : ℕ) → Clear (leave_req q b) s → With (leave_req q b) → Right b (kinds.leave_req (row_of rows b) (erase (leave_req q b)))
  unfolding kinds.leave_req
  leave_req_fine q b cl H =
      let L = loc_of (leave_req q b) H in
      let N = num_of (leave_req q b) H in
      let w = reach s (leave_req q b) t H.inv cl tt in
      passes (Right b) _ _ _ (in_ring_lem _ w.0 w.1) (choose (Right b) (nat_eq (row_of rows b).lock 1) _ _
      (λ z. send (leave_req q b) H _ refl Quiet (leave_retry b q) _ refl tt
      (unchanged b (leaves.leave_req_busy round id small c S S s t q b cl H.inv)) (λ k. omega arith) (omega arith)
      (nums (leave_retry b q) N.dst N.src (λ e. omega arith)))
      (λ z. send (leave_req q b) H _ refl Quiet (leave_grant q b) _ refl tt
      (leaves.leave_req_lem round id small c S _ s t q b cl H.inv (unlocked H.inv b z) (row_of_lem (leave_req q b) H _) (λ h. refl)) (λ k. omega arith) (omega arith)
      (nums (leave_grant q b) N.dst N.src (λ e. omega arith))))

  leave_retry_fine : (x q : ℕ) → Clear (leave_retry x q) s → With (leave_retry x q) → Right q (kinds.leave_retry (row_of rows q) (erase (leave_retry x q)))
  unfolding kinds.leave_retry
  leave_retry_fine x q cl H =
      let L = loc_of (leave_retry x q) H in
      passes (Right q) _ _ _ (→eqb _ 3 L.0.state)
      (reply (leave_retry x q) H _ refl (LeaveTurnedAway q) tt
      (leaves.leave_retry_lem round id small c S _ s t x q cl H.inv (row_of_lem (leave_retry x q) H _) (λ h. refl)) (λ k. omega arith) (omega arith))

  leave_grant_fine : (q b : ℕ) → Clear (leave_grant q b) s → With (leave_grant q b) → Right q (kinds.leave_grant (row_of rows q) (erase (leave_grant q b)))
  unfolding kinds.leave_grant
  leave_grant_fine q b cl H =
      let L = loc_of (leave_grant q b) H in
      let N = num_of (leave_grant q b) H in
      passes (Right q) _ _ _ (→eqb _ 3 L.0.state)
      (send (leave_grant q b) H _ refl Quiet (leave_point q b (row_of rows q).pred) _ refl tt
      (leaves.leave_grant_lem round id small c S _ s t q b cl H.inv (row_of_lem (leave_grant q b) H _) (λ h. refl)) (λ k. omega arith) (omega arith)
      (nums (leave_point q b (row_of rows q).pred) N.dst N.src (λ e. omega arith)))

  leave_point_fine : (q b p : ℕ) → Clear (leave_point q b p) s → With (leave_point q b p) → Right b (kinds.leave_point (row_of rows b) (erase (leave_point q b p)))
  unfolding kinds.leave_point
  leave_point_fine q b p cl H =
      let L = loc_of (leave_point q b p) H in
      let N = num_of (leave_point q b p) H in
      passes (Right b) _ _ _ (two_eqb _ 2 _ 1 L.4.state (lock_of (leave_point q b p) b cl H (inr (inl refl))))
      (send (leave_point q b p) H _ refl (Gone q) (update_succ q b p) _ refl tt
      (leave_point_lem round id small c inj S _ s t q b p cl H.inv (rewritten rows (mark members) _ b _ (hub_of_lem (leave_point q b p) H)) (struck_same members q) (struck_other members q))
      (λ k. omega arith) (omega arith)
      (nums (update_succ q b p) N.dst (H.inv.below p (omega (arith, L.2.low))) (λ e. omega arith)))

  update_succ_fine : (q b p : ℕ) → Clear (update_succ q b p) s → With (update_succ q b p) → Right p (kinds.update_succ (row_of rows p) (erase (update_succ q b p)))
  unfolding kinds.update_succ
  update_succ_fine q b p cl H =
      let L = loc_of (update_succ q b p) H in
      passes (Right p) _ _ _ (is_responsible _ L.2.low L.2.high)
      (send (update_succ q b p) H _ refl Quiet (stop_forward q b p) _ (ap (λ z. note 13 p z 0) L.2.at) tt
      (leaves.update_succ_lem round id small c S _ s t q b p cl H.inv (row_of_lem (update_succ q b p) H _) (λ h. refl)) (λ k. omega arith) (omega arith)
      (nums (stop_forward q b p) (num_of (update_succ q b p) H).dst (H.inv.below q (omega (arith, L.0.state))) (λ e. omega arith)))

  stop_forward_fine : (q b p : ℕ) → Clear (stop_forward q b p) s → With (stop_forward q b p) → Right q (kinds.stop_forward (row_of rows q) (erase (stop_forward q b p)))
  unfolding kinds.stop_forward
  stop_forward_fine q b p cl H =
      let L = loc_of (stop_forward q b p) H in
      passes (Right q) _ _ _ (→eqb _ 4 L.0.state)
      (send (stop_forward q b p) H _ refl (Left q) (leave_done q b) _ (ap (λ z. note 14 q z 0) L.3) tt
      (leaves.stop_forward_lem round id small c S _ s t q b p cl H.inv (row_of_lem (stop_forward q b p) H _) (λ h. refl)) (λ k. omega arith) (omega arith)
      (nums (leave_done q b) (num_of (stop_forward q b p) H).dst (H.inv.below b (omega (arith, L.4.state))) (λ e. omega arith)))

  leave_done_fine : (q b : ℕ) → Clear (leave_done q b) s → With (leave_done q b) → Right b (kinds.leave_done (row_of rows b) (erase (leave_done q b)))
  unfolding kinds.leave_done
  leave_done_fine q b cl H =
      let L = loc_of (leave_done q b) H in
      passes (Right b) _ _ _ (three_eqb _ 2 _ 1 _ 0 L.state (lock_of (leave_done q b) b cl H (inl refl)) L.flag)
      (reply (leave_done q b) H _ refl Quiet tt
      (leaves.leave_done_lem round id small c S _ s t q b cl H.inv (row_of_lem (leave_done q b) H _) (λ h. refl)) (λ k. omega arith) (omega arith))

  -- the receiver's range, in the identifiers of the ring
  range : (m : Msg) → With m → (y v : ℕ) → In round (row_of rows (row_of rows y).pred).identifier (row_of rows y).identifier v → In round (id (row_of rows y).pred) (id y) v
  range m H y v i = subst (λ z. In round z (id y) v) (H.names (row_of rows y).pred) (subst (λ z. In round (row_of rows (row_of rows y).pred).identifier z v) (H.names y) i)

  lookup_fine : (x y v k h : ℕ) → Clear (lookup x y v k h) s → With (lookup x y v k h)
      → Right y (kinds.lookup (row_of rows (row_of rows y).pred).identifier (row_of rows y) (erase (lookup x y v k h)))
  unfolding kinds.lookup lookup_routed
  lookup_fine x y v k h cl H =
      passes (Right y) _ _ _ (in_ring_lem _ w.0 w.1) (route_fine (Right y) (lookup_routed (row_of rows y) (erase (lookup x y v k h))) _ (row_of rows y) v x
      (λ f. pass (row_of rows y).pred (inr (inr (record { flag = f; pred = refl; entered = λ p m. m }))) (newcomer H.inv y f))
      (pass (row_of rows y).succ (inr (inl (record { low = w.0; high = w.1; at = refl }))) (omega (arith, (H.inv.fwd y w.0 w.1).low)))
      (λ ne own. reply m H (row_of rows y) refl (Found y v k (grown (erase m)))
      (N.point refl, owner_of round id small v (N.point refl) (led1 ne) (H.inv.next y w.0 (led1 ne)) (range m H y v own))
      (unchanged y (calm_sent (take_out s m t cl H.inv) (record { same = λ z. refl; fresh = tt; nojoin = λ a b p m. m; fifo = tt })))
      (λ i. omega arith) (omega arith)))
    where
      m : Msg
      m = lookup x y v k h

      w : (INSIDE ≤ (row_of rows y).state) × ((row_of rows y).state ≤ LEAVING)
      w = reach s m t H.inv cl tt

      N : Numbers c m
      N = num_of m H

      led1 : (row_of rows y).state ≢ LEAVING → mark members y ≡ 1
      led1 ne = (H.inv.member y).inside w.0 (omega (arith, w.1))

      pass : (z : ℕ) → Way S y z [] → JOINING ≤ (row_of rows z).state → Right y (Ok (Send (row_of rows y) (question y z v k (grown (erase m))) Quiet))
      pass z wy l = send m H (row_of rows y) refl Quiet (lookup y z v k (grown (erase m))) _ refl tt
          (unchanged y (calm_sent (take_out s m t cl H.inv)
          (record { same = λ z. refl; fresh = (tt, tt); nojoin = no_join (lookup y z v k (grown (erase m))) (λ e. omega arith); fifo = ((λ e. wy), tt) })))
          (λ i. omega arith) (omega arith)
          (record { src = N.dst; dst = H.inv.below z l; point = λ e. N.point refl })

  join_fine : (x y a : ℕ) → Clear (join x y a) s → With (join x y a)
      → Right y (kinds.join (row_of rows (row_of rows y).pred).identifier (row_of rows y) (row_of rows a) (erase (join x y a)))
  unfolding kinds.join join_routed
  join_fine x y a cl H =
      passes (Right y) _ _ _ (→eqb _ 1 L.0) (choose (Right y) (nat_lt (row_of rows y).state INSIDE) _ _ (λ z. again)
      (λ z. let l : INSIDE ≤ (row_of rows y).state = nltb→le (row_of rows y).state INSIDE z in
      route_fine (Right y) (join_routed (row_of rows y) (erase m)) _ (row_of rows y) (row_of rows a).identifier x
      (λ f. pass (row_of rows y).pred (newcomer H.inv y f))
      (pass (row_of rows y).succ (omega (arith, (H.inv.fwd y l (state_le H.inv y)).low)))
      (λ ne own. choose (Right y) (nat_eq (row_of rows y).lock 1) _ _ (λ q. again)
      (λ q. send m H (admitted (row_of rows y) a) refl (Entered a) (join_point a y (row_of rows y).pred) _ refl tt
      (join_enter round id small c inj S _ s t x y a cl H.inv (unlocked H.inv y q) l
      (subst (λ z. In round (id (row_of rows y).pred) (id y) z) (H.names a) (range m H y (row_of rows a).identifier own))
      (rewritten rows (mark members) _ y _ (hub_of_lem m H)) (taken_in_same members a) (taken_in_other members a))
      (λ i. omega arith) (omega arith)
      (nums (join_point a y (row_of rows y).pred) N.dst ca (λ e. omega arith))))))
    where
      m : Msg
      m = join x y a

      L : Loc S m
      L = loc_of m H

      N : Numbers c m
      N = num_of m H

      ca : a < c
      ca = H.inv.below a (omega (arith, L.0))

      again : Right y (Ok (Send (row_of rows y) (note 3 y a 0) Quiet))
      again = send m H (row_of rows y) refl Quiet (join_retry y a) _ refl tt
          (unchanged y (calm_sent (take_out s m t cl H.inv)
          (record { same = λ z. omega arith; fresh = (L, tt); nojoin = no_join (join_retry y a) (λ e. omega arith); fifo = ((λ e. absurd e), tt) })))
          (λ i. omega arith) (omega arith) (nums (join_retry y a) N.dst ca (λ e. omega arith))

      pass : (z : ℕ) → JOINING ≤ (row_of rows z).state → Right y (Ok (Send (row_of rows y) (note 2 y z a) Quiet))
      pass z l = send m H (row_of rows y) refl Quiet (join y z a) _ refl tt
          (unchanged y (calm_sent (take_out s m t cl H.inv)
          (record { same = λ z. omega arith; fresh = (L, tt); nojoin = no_join (join y z a) (λ e. omega arith); fifo = ((λ e. absurd e), tt) })))
          (λ i. omega arith) (omega arith) (nums (join y z a) N.dst (H.inv.below z l) (λ e. omega arith))

  -- whatever the message is
  pub deliver_fine : (m : Msg) → Clear m s → With m
      → Right (to m) (handle (row_of rows (row_of rows (to m)).pred).identifier (row_of rows (to m)) (row_of rows (erase m).a) (erase m))
  unfolding handle when◌then◌else◌
  deliver_fine (lookup x y v k h) = lookup_fine x y v k h
  deliver_fine (join x y a) = join_fine x y a
  deliver_fine (join_retry x a) = join_retry_fine x a
  deliver_fine (join_point a b p) = join_point_fine a b p
  deliver_fine (new_succ a b p) = new_succ_fine a b p
  deliver_fine (new_succ_ack a b p) = new_succ_ack_fine a b p
  deliver_fine (join_done a b) = join_done_fine a b
  deliver_fine (leave_req q b) = leave_req_fine q b
  deliver_fine (leave_retry x q) = leave_retry_fine x q
  deliver_fine (leave_grant q b) = leave_grant_fine q b
  deliver_fine (leave_point q b p) = leave_point_fine q b p
  deliver_fine (update_succ q b p) = update_succ_fine q b p
  deliver_fine (stop_forward q b p) = stop_forward_fine q b p
  deliver_fine (leave_done q b) = leave_done_fine q b
