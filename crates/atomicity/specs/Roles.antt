-- What a taken lock says of its hub: some waiting message carries it, and the message's condition says the rest.
use Rattle.std.specs.Prelude.{◌≡◌, refl, ◌⊎◌, List, [], ◌∷◌, ◌++◌, ℕ, ◌≤◌, T}
use Rattle.std.proofs.Common.{sym, ◌∙◌, ap, subst, inl, inr, arith}
use Rattle.std.proofs.Math.Decide.{dec_le}
use Rattle.lists.specs.Basics.{Mem, All}
use Rattle.lists.specs.Members.{mem_split, mem_right, all_mem, times_in}
use Rattle.atomicity.specs.Invariant.{Hubs, Msg, from, to, owners, carriers, Plain, Flagged, Linked, Loc, Idle, Flags, asks, closes, Closed, Open, Back, Inv}
use Rattle.atomicity.specs.Invariant.{lookup, join, join_retry, join_point, new_succ, new_succ_ack, join_done}
use Rattle.atomicity.specs.Invariant.{leave_req, leave_retry, leave_grant, leave_point, update_succ, stop_forward, leave_done}
use Rattle.atomicity.specs.OneStep.{carriers_mem, carrier, Clear, fifo_mid}
use Rattle.protocol.specs.Names.{INSIDE, JOINING, LEAVING, OUTSIDE, WANTING_TO_LEAVE}

pub record Role (S : Hubs) (m : Msg) (h : ℕ) : Type 0 where
  pub some : JOINING ≤ (S.core h).state
  pub most : (S.core h).state ≤ LEAVING
  pub four : (S.core h).state ≡ LEAVING → (S.core (S.succ h)).state ≡ INSIDE
  pub flag : (S.core h).flag ≡ 1 → ((S.core (S.core h).pred).state ≡ INSIDE) ⊎ ((p : ℕ) × (m ≡ join_point (S.core h).pred h p))

module _ (S : Hubs) (fl : (h : ℕ) → Flags (S.core h)) where
  -- states 1 and 3, and 2 with the flag down
  low : {m : Msg} (h : ℕ) → JOINING ≤ (S.core h).state → (S.core h).state ≤ WANTING_TO_LEAVE → ((S.core h).state ≡ INSIDE → (S.core h).flag ≡ 0) → Role S m h
  low h l u f = record {
    some = l;
    most = omega arith;
    four = λ e. absurd (omega arith);
    flag = λ e. absurd (elim (fl h) [ inl k ↦ omega arith | inr k ↦ omega (arith, f k.1) ]);
  }

  plain : {m : Msg} {h c p : ℕ} → Plain S h c p → 1 ≤ c → c ≤ 3 → Role S m h
  plain {h = h} x l u = low h (omega (arith, x.state)) (omega (arith, x.state)) (λ e. x.flag)

  linked : {m : Msg} {h c : ℕ} → Linked S h c → 1 ≤ c → c ≤ 3 → Role S m h
  linked {h = h} x l u = low h (omega (arith, x.state)) (omega (arith, x.state)) (λ e. x.flag)

  joining : {m : Msg} {h : ℕ} → (S.core h).state ≡ JOINING → Role S m h
  joining {h = h} x = low h (omega arith) (omega arith) (λ e. absurd (omega arith))

  leaving : {m : Msg} {q t p z : ℕ} → Plain S q LEAVING p → S.succ q ≡ t → Plain S t INSIDE z → Role S m q
  leaving x e y = record { some = omega (arith, x.state); most = omega (arith, x.state); four = λ _. rw e y.state; flag = λ f. absurd (omega (arith, x.flag)) }

  served : {m : Msg} {a t p : ℕ} → Flagged S t a p → ((S.core a).state ≡ INSIDE) ⊎ ((p : ℕ) × (m ≡ join_point a t p)) → Role S m t
  served x k = record { some = omega (arith, x.state); most = omega (arith, x.state); four = λ e. absurd (omega (arith, x.state)); flag = λ f. rw x.pred k }

  roles : (m : Msg) → Loc S m → All (Role S m) (owners m)
  roles (lookup x y v k hops) l = tt
  roles (join x y a) l = (joining l.0, tt)
  roles (join_retry x a) l = (joining l.0, tt)
  roles (join_point a t p) l = (joining l.0, (served l.2 (inr (p, refl)), tt))
  roles (new_succ a t p) l = (plain l.0 (omega arith) (omega arith), (served l.2 (inl l.0.state), tt))
  roles (new_succ_ack a t p) l = (plain l.0 (omega arith) (omega arith), (served l.2 (inl l.0.state), tt))
  roles (join_done a t) l = (linked l (omega arith) (omega arith), tt)
  roles (leave_req q y) l = (linked l.0 (omega arith) (omega arith), tt)
  roles (leave_retry x q) l = (linked l.0 (omega arith) (omega arith), tt)
  roles (leave_grant q t) l = (linked l.0 (omega arith) (omega arith), (plain l.2 (omega arith) (omega arith), tt))
  roles (leave_point q t p) l = (leaving l.0 l.3 l.4, (plain l.4 (omega arith) (omega arith), tt))
  roles (update_succ q t p) l = (leaving l.0 l.3 l.4, (plain l.4 (omega arith) (omega arith), tt))
  roles (stop_forward q t p) l = (leaving l.0 l.3 l.4, (plain l.4 (omega arith) (omega arith), tt))
  roles (leave_done q t) l = (linked l (omega arith) (omega arith), tt)

pub record Held (S : Hubs) (ms : List Msg) (h : ℕ) : Type 0 where
  pub msg : Msg
  pub waits : Mem msg ms
  pub role : Role S msg h

module _ {n : ℕ} {id : ℕ → ℕ} {c : ℕ} {S : Hubs} {g : List ℕ} {R : List Msg} (i : Inv n id c S g R) where
  pub carriers_by : (h : ℕ) → 1 ≤ carriers R h → Held S R h
  carriers_by h l =
      let k = carrier R h l in
      record { msg = k.msg; waits = k.waits; role = all_mem (Role S k.msg) (owners k.msg) (roles S i.flags k.msg (i.loc k.msg k.waits)) h k.owns }

-- a hub that is not idle is held
pub carried : {n : ℕ} {id : ℕ → ℕ} {c : ℕ} {S : Hubs} {ms : List Msg} → Inv n id c S [] ms → (h : ℕ) → (Idle S h → ⊥) → Held S ms h
carried {S = S} {ms = ms} i h f = go (dec_le 1 (S.core h).lock)
  where
    go : Dec (1 ≤ (S.core h).lock) → Held S ms h
    go (yes l) = carriers_by i h (omega (arith, i.count h))
    go (no l) = absurd (f (i.idle h (omega arith)))

module _ {n : ℕ} {id : ℕ → ℕ} {c : ℕ} {S : Hubs} {ms : List Msg} (i : Inv n id c S [] ms) where
  -- there is no state above 4
  pub state_le : (h : ℕ) → (S.core h).state ≤ LEAVING
  state_le h = go (dec_le (S.core h).state LEAVING)
    where
      go : Dec ((S.core h).state ≤ LEAVING) → (S.core h).state ≤ LEAVING
      go (yes l) = l
      go (no l) = (carried i h (λ z. elim z [ inl e ↦ omega arith | inr e ↦ omega (arith, e.state) ])).role.most

  -- an outside hub is free
  pub outside_free : (h : ℕ) → (S.core h).state ≡ OUTSIDE → (S.core h).lock ≡ 0
  outside_free h e = go (dec_le 1 (S.core h).lock)
    where
      go : Dec (1 ≤ (S.core h).lock) → (S.core h).lock ≡ 0
      go (no l) = omega arith
      go (yes l) = absurd (omega (arith, (carriers_by i h (omega (arith, i.count h))).role.some))

  -- the newcomer before a flagged hub is on its way in, or in
  pub newcomer : (h : ℕ) → (S.core h).flag ≡ 1 → JOINING ≤ (S.core (S.core h).pred).state
  newcomer h f = go (k.role.flag f)
    where
      idle : Idle S h → ⊥
      idle (inl z) = elim (i.flags h) [ inl e ↦ omega arith | inr e ↦ omega arith ]
      idle (inr z) = omega (arith, z.flag)

      k : Held S ms h
      k = carried i h idle

      go : ((S.core (S.core h).pred).state ≡ INSIDE) ⊎ ((p : ℕ) × (k.msg ≡ join_point (S.core h).pred h p)) → JOINING ≤ (S.core (S.core h).pred).state
      go (inl e) = omega arith
      go (inr e) =
          let l = i.loc (join_point (S.core h).pred h e.0) (subst (λ m. Mem m ms) e.1 k.waits) in
          omega (arith, l.0)

-- the message that closes a link has locked its receiver, which is in the ring
pub record Shut (S : Hubs) (m : Msg) : Type 0 where
  pub low : INSIDE ≤ (S.core (to m)).state
  pub high : (S.core (to m)).state ≤ LEAVING
  pub owned : Mem (to m) (owners m)

pub shut : {S : Hubs} (m : Msg) → Loc S m → T (closes m) → Shut S m
shut (new_succ_ack a t p) l k = record { low = omega (arith, l.2.state); high = omega (arith, l.2.state); owned = inr (inl refl) }
shut (join_done a t) l k = record { low = omega (arith, l.state); high = omega (arith, l.state); owned = inl refl }
shut (stop_forward q t p) l k = record { low = omega (arith, l.0.state); high = omega (arith, l.0.state); owned = inl refl }
shut (leave_done q t) l k = record { low = omega (arith, l.state); high = omega (arith, l.state); owned = inl refl }
shut (lookup x y v i hops) l k = absurd k
shut (join x y a) l k = absurd k
shut (join_retry x a) l k = absurd k
shut (join_point a t p) l k = absurd k
shut (new_succ a t p) l k = absurd k
shut (leave_req q y) l k = absurd k
shut (leave_retry x q) l k = absurd k
shut (leave_grant q t) l k = absurd k
shut (leave_point q t p) l k = absurd k
shut (update_succ q t p) l k = absurd k

-- A question, or a request to leave, finds its receiver in the ring.
module _ {n : ℕ} {id : ℕ → ℕ} {c : ℕ} {S : Hubs} (s : List Msg) (m : Msg) (t : List Msg) (j : Inv n id c S [] (s ++ (m ∷ t))) (cl : Clear m s) (a : T (asks m)) where
  back_in : Back S (from m) (to m) t → (S.core (to m)).state ≡ INSIDE
  back_in b = rw b.pred at (go (k.role.flag b.flag))
    where
      idle : Idle S (from m) → ⊥
      idle (inl z) = elim (j.flags (from m)) [ inl f ↦ omega (arith, b.flag) | inr f ↦ omega arith ]
      idle (inr z) = omega (arith, z.flag, b.flag)

      k : Held S (s ++ (m ∷ t)) (from m)
      k = carried j (from m) idle

      h : ℕ
      h = (S.core (from m)).pred

      none : (p : ℕ) → k.msg ≡ join_point h (from m) p → Mem k.msg s ⊎ ((k.msg ≡ m) ⊎ Mem k.msg t) → ⊥
      none p e (inl x) = all_mem (λ u. from u ≡ from m → to u ≡ to m → ⊥) s cl k.msg x (ap from e) (ap to e ∙ b.pred)
      none p e (inr (inl x)) = subst (λ u. T (asks u)) (sym x ∙ e) a
      none p e (inr (inr x)) = b.entered p (subst (λ u. Mem u t) (e ∙ ap (λ y. join_point y (from m) p) b.pred) x)

      go : ((S.core h).state ≡ INSIDE) ⊎ ((p : ℕ) × (k.msg ≡ join_point h (from m) p)) → (S.core h).state ≡ INSIDE
      go (inl e) = e
      go (inr e) = absurd (none e.0 e.1 (mem_split k.msg s (m ∷ t) k.waits))

  closed_in : (k : Closed (from m) (to m) t) → Shut S k.last
  closed_in k = shut k.last (j.loc k.last (mem_right k.last s (m ∷ t) (inr k.waits))) k.is

  pub reach : (INSIDE ≤ (S.core (to m)).state) × ((S.core (to m)).state ≤ LEAVING)
  reach = go (fifo_mid S s m t j.fifo a)
    where
      go : Closed (from m) (to m) t ⊎ (Open S (from m) (to m) ⊎ Back S (from m) (to m) t) → (INSIDE ≤ (S.core (to m)).state) × ((S.core (to m)).state ≤ LEAVING)
      go (inl k) = let x = closed_in k in (rw k.dst at x.low, rw k.dst at x.high)
      go (inr (inl k)) = let f = j.fwd (from m) k.low k.high in (rw k.at at f.low, rw k.at at f.high)
      go (inr (inr k)) = let e = back_in k in omega arith

  -- a free receiver is the sender's succ, if the sender has no newcomer before it
  pub straight : (S.core (to m)).lock ≡ 0 → (S.core (from m)).flag ≡ 0 → Open S (from m) (to m)
  straight e f = go (fifo_mid S s m t j.fifo a)
    where
      go : Closed (from m) (to m) t ⊎ (Open S (from m) (to m) ⊎ Back S (from m) (to m) t) → Open S (from m) (to m)
      go (inr (inl k)) = k
      go (inr (inr k)) = absurd (omega (arith, k.flag))
      go (inl k) = absurd
          (omega (
            arith,
            j.count (to m),
            carriers_mem k.last (s ++ (m ∷ t)) (to m) (mem_right k.last s (m ∷ t) (inr k.waits)),
            times_in (owners k.last) (to m) (subst (λ y. Mem y (owners k.last)) k.dst (closed_in k).owned),
          ))
