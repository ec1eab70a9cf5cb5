-- The deliveries of a leave, but for LEAVEPOINT, which alters the ledger.
use Rattle.std.specs.Prelude.{◌≡◌, refl, ◌⊎◌, ◌≢◌, List, [], ◌∷◌, ◌++◌, ℕ, ◌≤◌, ◌<◌}
use Rattle.std.proofs.Common.{sym, ◌∙◌, ap, inl, inr, arith}
use Rattle.std.proofs.Math.Decide.{dec_le}
use Rattle.lists.specs.Members.{mem_mid, by_row, ind_same, ind_ne}
use Rattle.atomicity.specs.Invariant.{Hubs, locking, free, turned, departed, Msg, Linked, Loc, Idle, Fwd, Open, Inv}
use Rattle.atomicity.specs.Invariant.{leave_req, leave_retry, leave_grant, leave_point, update_succ, stop_forward, leave_done}
use Rattle.atomicity.specs.Frame.{points_at, plain_at, linked_at}
use Rattle.atomicity.specs.OneStep.{closed_by, no_join, Clear, take_out, apart_same, apart_more, locked, distinct}
use Rattle.atomicity.specs.Roles.{carried, straight}
use Rattle.atomicity.specs.Calm.{Rewritten, points_row, fwd_same, Serves, calm, busy, sent}
use Rattle.atomicity.specs.Joins.{release}
use Rattle.protocol.specs.Names.{INSIDE, LEAVING, WANTING_TO_LEAVE}

module _ (n : ℕ) (id : ℕ → ℕ) (small : (h : ℕ) → id h < n) (c : ℕ) (S S' : Hubs) (s t : List Msg) where
  -- LEAVEREQ at a free hub
  pub leave_req_lem : (q b : ℕ) → Clear (leave_req q b) s → Inv n id c S [] (s ++ (leave_req q b ∷ t)) → (S.core b).lock ≡ 0
      → Rewritten S S' b (locking (S.core b) (S.core b).state) (S.succ b) → ((h : ℕ) → S'.led h ≡ S.led h)
      → Inv n id c S' [] ((s ++ t) ++ (leave_grant q b ∷ []))
  leave_req_lem q b cl j z w ls =
      calm {is = b ∷ q ∷ []} i w ls (record {
        apart = apart_more i b z;
        lock = omega arith;
        here = omega (arith, ind_same b);
        there = λ h ne. omega (arith, ind_ne b h (λ e. ne (sym e)));
        frame_core = λ o. absurd (o.0 refl);
        frame_self = λ o. absurd (o.0 refl);
        frame_succ = λ l u o. refl;
        frame_stay = λ l u o. (l, u);
        idle = (busy _ b w.core refl, (busy _ q offq (locked i q (inl refl)), tt));
        fresh = (
          (
            linked_at q WANTING_TO_LEAVE offq L.0 (points_row w _ q refl (λ l u. (l, u))),
            w.offs q nq ∙ o.at,
            record { state = rw w.core B.state; flag = rw w.core B.flag; pred = rw w.core (known (f.knows lq)) },
          ),
          tt,
        );
        fwd = λ l u. fwd_same i w l u (λ e x. x);
        served = λ h e l u x. x;
        flags = i.flags b;
        member = record { out = (i.member b).out; inside = (i.member b).inside };
        next = i.next b;
        below = i.below b;
        onward = λ l u. inr (l, u, refl);
        back = λ f. inr (f, refl);
        nojoin = no_join (leave_grant q b) (λ e. omega arith);
        fifo = ((λ e. absurd e), tt);
      })
    where
      i : Inv n id c S (q ∷ []) (s ++ t)
      i = take_out s (leave_req q b) t cl j

      L : Loc S (leave_req q b)
      L = j.loc (leave_req q b) (mem_mid s (leave_req q b) t)

      nq : q ≢ b
      nq e = omega (arith, locked i q (inl refl), ap (λ x. (S.core x).lock) e)

      offq : S'.core q ≡ S.core q
      offq = w.off q nq

      lq : S.led q ≡ 1
      lq = (i.member q).inside (omega (arith, L.0.state)) (omega (arith, L.0.state))

      o : Open S q b
      o = straight s (leave_req q b) t j cl tt z L.0.flag

      f : Fwd S q
      f = i.fwd q o.low o.high

      B : Linked S b INSIDE
      B = elim (i.idle b z) [ inl e ↦ absurd (omega (arith, rw o.at at f.low)) | inr x ↦ x ]

      known : ((S.core (S.succ q)).pred ≡ q) ⊎ (((S.core (S.succ q)).flag ≡ 1) × ((S.core (S.succ q)).oldpred ≡ q)) → (S.core b).pred ≡ q
      known (inl e) = rw o.at at e
      known (inr e) = absurd (omega (arith, B.flag, rw o.at at e.0))

  -- LEAVEREQ at a hub that is locked
  pub leave_req_busy : (q b : ℕ) → Clear (leave_req q b) s → Inv n id c S [] (s ++ (leave_req q b ∷ t))
      → Inv n id c S [] ((s ++ t) ++ (leave_retry b q ∷ []))
  leave_req_busy q b cl j = sent (take_out s (leave_req q b) t cl j) (record {
    same = λ h. omega arith;
    fresh = (j.loc (leave_req q b) (mem_mid s (leave_req q b) t), tt);
    nojoin = no_join (leave_retry b q) (λ e. omega arith);
    fifo = ((λ e. absurd e), tt);
  })

  pub leave_retry_lem : (x q : ℕ) → Clear (leave_retry x q) s → Inv n id c S [] (s ++ (leave_retry x q ∷ t))
      → Rewritten S S' q (free (S.core q) INSIDE) (S.succ q) → ((h : ℕ) → S'.led h ≡ S.led h)
      → Inv n id c S' [] ((s ++ t) ++ [])
  leave_retry_lem x q cl j w ls =
      calm {is = q ∷ []} i w ls (record {
        apart = apart_same i;
        lock = omega arith;
        here = omega (arith, ind_same q, locked i q (inl refl));
        there = λ h ne. omega (arith, ind_ne q h (λ e. ne (sym e)));
        frame_core = λ o. absurd (o.0 refl);
        frame_self = λ o. absurd (o.0 refl);
        frame_succ = λ l u o. refl;
        frame_stay = λ l u o. omega arith;
        idle = ((λ e. inr (record { state = rw w.core; flag = rw w.core L.flag; back = rw w.core (points_row w _ q refl (λ l u. omega arith) L.back) })), tt);
        fresh = tt;
        fwd = λ l u. fwd_same i w (omega (arith, L.state)) (omega (arith, L.state)) (λ e. serve q);
        served = λ h e l u. serve h;
        flags = inl L.flag;
        member = record { out = λ e. absurd (omega arith); inside = λ l u. (i.member q).inside (omega (arith, L.state)) (omega (arith, L.state)) };
        next = λ l. i.next q (omega (arith, L.state));
        below = λ l. i.below q (omega (arith, L.state));
        onward = λ l u. inr (omega arith, omega arith, refl);
        back = λ f. absurd (omega (arith, L.flag));
        nojoin = λ a t p m. m;
        fifo = tt;
      })
    where
      i : Inv n id c S (q ∷ []) (s ++ t)
      i = take_out s (leave_retry x q) t cl j

      L : Linked S q WANTING_TO_LEAVE
      L = (j.loc (leave_retry x q) (mem_mid s (leave_retry x q) t)).0

      serve : (h : ℕ) → Serves (S.core q) (S.led h) h → Serves (free (S.core q) INSIDE) (S.led h) h
      serve h x = (omega arith, omega arith, x.2)

  pub leave_grant_lem : (q b : ℕ) → Clear (leave_grant q b) s → Inv n id c S [] (s ++ (leave_grant q b ∷ t))
      → Rewritten S S' q (turned (S.core q) LEAVING) (S.succ q) → ((h : ℕ) → S'.led h ≡ S.led h)
      → Inv n id c S' [] ((s ++ t) ++ (leave_point q b (S.core q).pred ∷ []))
  leave_grant_lem q b cl j w ls =
      calm {is = q ∷ b ∷ []} i w ls (record {
        apart = apart_same i;
        lock = i.one q;
        here = omega arith;
        there = λ h ne. omega arith;
        frame_core = λ o. absurd (o.0 refl);
        frame_self = λ o. absurd (o.0 refl);
        frame_succ = λ l u o. refl;
        frame_stay = λ l u o. absurd (o.1.0 L.1);
        idle = (busy _ q w.core (locked i q (inl refl)), (busy _ b offb (locked i b (inr (inl refl))), tt));
        fresh = (
          (
            record { state = rw w.core; flag = rw w.core L.0.flag; pred = rw w.core },
            ls q ∙ (i.member q).inside (omega (arith, L.0.state)) (omega (arith, L.0.state)),
            points_at _ q (w.off _ np) (w.offs _ np) L.0.back,
            w.succ ∙ L.1,
            plain_at b INSIDE q offb L.2,
          ),
          tt,
        );
        fwd = λ l u. rw (L.1, offb) (omega (arith, L.2.state), omega (arith, L.2.state), λ _. inl L.2.pred);
        served = λ h e l u x. (omega arith, omega arith, x.2);
        flags = inl L.0.flag;
        member = record { out = λ e. absurd (omega arith); inside = λ l u. absurd (omega arith) };
        next = λ l. i.next q (omega (arith, L.0.state));
        below = λ l. i.below q (omega (arith, L.0.state));
        onward = λ l u. inr (omega arith, omega arith, refl);
        back = λ f. absurd (omega (arith, L.0.flag));
        nojoin = no_join (leave_point q b (S.core q).pred) (λ e. omega arith);
        fifo = ((λ e. absurd e), tt);
      })
    where
      i : Inv n id c S (q ∷ b ∷ []) (s ++ t)
      i = take_out s (leave_grant q b) t cl j

      L : Loc S (leave_grant q b)
      L = j.loc (leave_grant q b) (mem_mid s (leave_grant q b) t)

      offb : S'.core b ≡ S.core b
      offb = w.off b (λ e. distinct i (sym e))

      np : (S.core q).pred ≢ q
      np e = distinct i (sym L.0.back.at ∙ ap S.succ e ∙ L.1)

  pub update_succ_lem : (q b p : ℕ) → Clear (update_succ q b p) s → Inv n id c S [] (s ++ (update_succ q b p ∷ t))
      → Rewritten S S' p (S.core p) b → ((h : ℕ) → S'.led h ≡ S.led h)
      → Inv n id c S' [] ((s ++ t) ++ (stop_forward q b p ∷ []))
  update_succ_lem q b p cl j w ls =
      calm {is = q ∷ b ∷ []} i w ls (record {
        apart = apart_same i;
        lock = i.one p;
        here = omega arith;
        there = λ h ne. omega arith;
        frame_core = λ o. refl;
        frame_self = λ o x e. o.1.0 (sym e);
        frame_succ = λ l u o. absurd (o.0 L.2.at);
        frame_stay = λ l u o. (l, u);
        idle = (busy _ q (all q) (locked i q (inl refl)), (busy _ b (all b) (locked i b (inr (inl refl))), tt));
        fresh = (
          (
            plain_at q LEAVING p (all q) L.0,
            ls q ∙ L.1,
            record { low = rw w.core L.2.low; high = rw w.core L.2.high; at = w.succ },
            w.offs q (λ e. omega (arith, L.0.state, L.2.high, ap (λ x. (S.core x).state) e)) ∙ L.3,
            plain_at b INSIDE p (all b) L.4,
          ),
          tt,
        );
        fwd = λ l u. rw (all b) (omega (arith, L.4.state), omega (arith, L.4.state), λ _. inl L.4.pred);
        served = λ h e l u x. x;
        flags = i.flags p;
        member = i.member p;
        next = i.next p;
        below = i.below p;
        onward = λ l u. inl (closed_by (stop_forward q b p) tt p (S.succ p) refl (sym L.2.at));
        back = λ f. inr (f, refl);
        nojoin = no_join (stop_forward q b p) (λ e. omega arith);
        fifo = ((λ e. absurd e), tt);
      })
    where
      i : Inv n id c S (q ∷ b ∷ []) (s ++ t)
      i = take_out s (update_succ q b p) t cl j

      L : Loc S (update_succ q b p)
      L = j.loc (update_succ q b p) (mem_mid s (update_succ q b p) t)

      all : (h : ℕ) → S'.core h ≡ S.core h
      all = by_row p w.core w.off

  pub stop_forward_lem : (q b p : ℕ) → Clear (stop_forward q b p) s → Inv n id c S [] (s ++ (stop_forward q b p ∷ t))
      → Rewritten S S' q (departed (S.core q)) 255 → ((h : ℕ) → S'.led h ≡ S.led h)
      → Inv n id c S' [] ((s ++ t) ++ (leave_done q b ∷ []))
  stop_forward_lem q b p cl j w ls =
      calm {is = q ∷ b ∷ []} i w ls (record {
        apart = apart_same i;
        lock = omega arith;
        here = omega (arith, ind_same q, locked i q (inl refl));
        there = λ h ne. omega (arith, ind_ne q h (λ e. ne (sym e)));
        frame_core = λ o. absurd (o.0 refl);
        frame_self = λ o. absurd (o.0 refl);
        frame_succ = λ l u o. absurd (o.1.0 L.3);
        frame_stay = λ l u o. absurd (omega (arith, L.0.state));
        idle = ((λ e. inl (rw w.core)), (busy _ b offb (locked i b (inr (inl refl))), tt));
        fresh = (
          record { state = rw offb L.4.state; flag = rw offb L.4.flag; back = rw (offb, L.4.pred) (points_at p b (w.off p np) (w.offs p np) L.2) },
          tt,
        );
        fwd = λ l u. absurd (omega arith);
        served = λ h e l u x. absurd (alone h e l u x (dec_le (S.core h).state WANTING_TO_LEAVE));
        flags = inl L.0.flag;
        member = record { out = λ e. L.1; inside = λ l u. absurd (omega arith) };
        next = λ l e. absurd (omega arith);
        below = λ l. absurd (omega arith);
        onward = λ l u. inl (closed_by (leave_done q b) tt q (S.succ q) refl (sym L.3));
        back = λ f. absurd (omega (arith, L.0.flag));
        nojoin = no_join (leave_done q b) (λ e. omega arith);
        fifo = ((λ e. absurd e), tt);
      })
    where
      i : Inv n id c S (q ∷ b ∷ []) (s ++ t)
      i = take_out s (stop_forward q b p) t cl j

      L : Loc S (stop_forward q b p)
      L = j.loc (stop_forward q b p) (mem_mid s (stop_forward q b p) t)

      offb : S'.core b ≡ S.core b
      offb = w.off b (λ e. distinct i (sym e))

      np : p ≢ q
      np e = omega (arith, L.0.state, L.2.high, ap (λ x. (S.core x).state) e)

      -- nobody points to q any more
      alone : (h : ℕ) → S.succ h ≡ q → INSIDE ≤ (S.core h).state → (S.core h).state ≤ LEAVING → Serves (S.core q) (S.led h) h → Dec ((S.core h).state ≤ WANTING_TO_LEAVE) → ⊥
      alone h e l u x (yes k) = go (x.2 ((i.member h).inside l k))
        where
          go : ((S.core q).pred ≡ h) ⊎ (((S.core q).flag ≡ 1) × ((S.core q).oldpred ≡ h)) → ⊥
          go (inl y) = distinct i (sym e ∙ ap S.succ (sym y ∙ L.0.pred) ∙ L.2.at)
          go (inr y) = omega (arith, L.0.flag)
      alone h e l u x (no k) =
          omega (arith, L.0.state, ap (λ y. (S.core y).state) e, (carried j h idle).role.four (omega arith))
        where
          idle : Idle S h → ⊥
          idle (inl z) = omega arith
          idle (inr z) = omega (arith, z.state)

  pub leave_done_lem : (q b : ℕ) → Clear (leave_done q b) s → Inv n id c S [] (s ++ (leave_done q b ∷ t))
      → Rewritten S S' b (free (S.core b) (S.core b).state) (S.succ b) → ((h : ℕ) → S'.led h ≡ S.led h)
      → Inv n id c S' [] ((s ++ t) ++ [])
  leave_done_lem q b cl j w ls =
      release (take_out s (leave_done q b) t cl j) w ls (j.loc (leave_done q b) (mem_mid s (leave_done q b) t))
