-- The two deliveries that alter the ledger: JOIN at a free owner, and LEAVEPOINT.
use Rattle.std.specs.Prelude.{◌≡◌, refl, ◌⊎◌, ◌≢◌, List, [], ◌∷◌, ◌++◌, ℕ, ◌≤◌, ◌<◌}
use Rattle.std.proofs.Common.{sym, ◌∙◌, ap, inl, inr, arith}
use Rattle.std.proofs.Math.Decide.{ℕ_discrete}
use Rattle.clockwise.specs.Laws.{In}
use Rattle.lists.specs.Basics.{Mem}
use Rattle.lists.specs.Members.{mem_split, mem_mid, by_row, ind_same, ind_ne}
use Rattle.atomicity.specs.Neighbours.{PredL, enter_at, enter_before, enter_other, leave_before, leave_other}
use Rattle.atomicity.specs.Invariant.{Hubs, between, flagged, Msg, erase, from, to, Linked, Loc, Member, Way, Inv}
use Rattle.atomicity.specs.Invariant.{join, join_point}
use Rattle.atomicity.specs.Invariant.{leave_point, update_succ}
use Rattle.atomicity.specs.Frame.{plain_at}
use Rattle.atomicity.specs.OneStep.{closed_grow, no_join, Clear, take_out, change, apart_same, apart_more, locked, distinct}
use Rattle.atomicity.specs.Calm.{Rewritten, points_row, fwd_same, Serves, busy}
use Rattle.protocol.specs.Names.{INSIDE, LEAVING}

module _ (n : ℕ) (id : ℕ → ℕ) (small : (h : ℕ) → id h < n) (c : ℕ) (inj : (a b : ℕ) → a < c → b < c → id a ≡ id b → a ≡ b)
    (S S' : Hubs) (s t : List Msg) where
  -- JOIN at the owner b, which is free and in the ring
  pub join_enter : (x b a : ℕ) → Clear (join x b a) s → Inv n id c S [] (s ++ (join x b a ∷ t))
      → (S.core b).lock ≡ 0 → INSIDE ≤ (S.core b).state → In n (id (S.core b).pred) (id b) (id a)
      → Rewritten S S' b (flagged (S.core b) a) (S.succ b) → S'.led a ≡ 1 → ((h : ℕ) → h ≢ a → S'.led h ≡ S.led h)
      → Inv n id c S' [] ((s ++ t) ++ (join_point a b (S.core b).pred ∷ []))
  join_enter x b a cl j z lb own w la off = change {is = b ∷ a ∷ []} {r = b} i (record {
    off = w.off;
    offs = w.offs;
    ledup = ledup;
    apart = apart_more i b z;
    lock_r = rw w.core (omega arith);
    balance = by_row b (rw w.core (omega (arith, ind_same b))) (λ h ne. rw (w.off h ne) (omega (arith, ind_ne b h (λ e. ne (sym e)))));
    keeps = record {
      core = λ h o. w.off h o.0;
      led = λ h o. off h o.1.0;
      succ = by_row b (λ l u o. w.succ) (λ h ne l u o. w.offs h ne);
      stay = by_row b (λ l u o. rw w.core (l, u)) (λ h ne l u o. rw (w.off h ne) (l, u));
      self = λ h o y. rw (w.offs h o.0) y;
    };
    idle = (busy _ b w.core refl, (busy _ a offa (locked i a (inl refl)), tt));
    fresh = (
      (
        rw offa L.0,
        la,
        record { state = rw w.core B.state; flag = rw w.core; pred = rw w.core; oldpred = rw w.core },
        points_row w p b refl (λ l u. (l, u)) B.back,
      ),
      tt,
    );
    fwd_r = λ l u.
        let k = fwd_same i w lb (omega (arith, B.state)) (λ e. serve b) in
        record { low = rw w.succ k.0; high = rw w.succ k.1; knows = λ y. rw w.succ (k.2 (ledup b lb y)) };
    fwd_to = λ h ne e l u f.
        let es : S'.succ h ≡ b = w.offs h ne ∙ e in
        let k = serve h (rw e at f.low, rw e at f.high, rw e at f.knows) in
        record { low = rw (es, w.core) k.0; high = rw (es, w.core) k.1; knows = λ y. rw (es, w.core) (k.2 (ledup h l y)) };
    flags_r = rw w.core (inr (refl, B.state));
    member = by_row b
        (rw w.core (record { out = λ e. absurd (omega (arith, B.state)); inside = λ l u. off b (λ e. nb (sym e)) ∙ lbb }))
        (λ h ne. rw (w.off h ne) (member h (ℕ_discrete h a)));
    next = by_row b (λ l e. rw w.core before) (λ h ne l e. other h ne (rw (w.off h ne) at l) e);
    entry = λ a' t' p' m. entry a' t' p' (mem_split (join_point a' t' p') (s ++ t) (join_point a b p ∷ []) m);
    way_r = way;
    joins = λ a' t' p'. elim [ inl e ↦ ap from e | inr m ↦ absurd m ];
    fifo = ((λ e. absurd e), tt);
    below_r = λ l. i.below b (omega arith);
  })
    where
      p : ℕ
      p = (S.core b).pred

      i : Inv n id c S (a ∷ []) (s ++ t)
      i = take_out s (join x b a) t cl j

      L : Loc S (join x b a)
      L = j.loc (join x b a) (mem_mid s (join x b a) t)

      B : Linked S b INSIDE
      B = elim (i.idle b z) [ inl e ↦ absurd (omega arith) | inr y ↦ y ]

      lbb : S.led b ≡ 1
      lbb = (i.member b).inside (omega (arith, B.state)) (omega (arith, B.state))

      nb : a ≢ b
      nb e = omega (arith, L.0, ap (λ y. (S.core y).state) e)

      np : p ≢ a
      np e = omega (arith, L.0, B.back.low, ap (λ y. (S.core y).state) e)

      ca : a < c
      ca = i.below a (omega (arith, L.0))

      offa : S'.core a ≡ S.core a
      offa = w.off a nb

      ledup : (h : ℕ) → INSIDE ≤ (S.core h).state → S'.led h ≡ 1 → S.led h ≡ 1
      ledup h l e = sym (off h (λ y. omega (arith, L.0, ap (λ k. (S.core k).state) y))) ∙ e

      serve : (h : ℕ) → Serves (S.core b) (S.led h) h → Serves (flagged (S.core b) a) (S.led h) h
      serve h y = (y.0, y.1, λ m. inr (refl, elim (y.2 m) [ inl k ↦ k | inr k ↦ absurd (omega (arith, B.flag)) ]))

      member : (h : ℕ) → Dec (h ≡ a) → Member (S.core h) (S'.led h)
      member h (yes e) = record { out = λ y. absurd (omega (arith, L.0, ap (λ k. (S.core k).state) e)); inside = λ l u. absurd (omega (arith, L.0, ap (λ k. (S.core k).state) e)) }
      member h (no e) = rw (off h e) (i.member h)

      pb : PredL n id S.led p b
      pb = i.next b lb lbb

      na : id a ≢ id b
      na e = nb (inj a b ca (i.below b (omega arith)) e)

      npa : id p ≢ id a
      npa e = np (inj p a (i.below p (omega (arith, B.back.low))) ca e)

      before : PredL n id S'.led a b
      before = enter_before n id small L.1 la off lbb pb own na npa

      other : (h : ℕ) → h ≢ b → INSIDE ≤ (S.core h).state → S'.led h ≡ 1 → PredL n id S'.led (S'.core h).pred h
      other h ne l e =
          let lh = ledup h l e in
          rw (w.off h ne) (enter_other n id small L.1 la off lbb pb own na npa ne lh (i.next h l lh))

      entry : (a' t' p' : ℕ) → Mem (join_point a' t' p') (s ++ t) ⊎ Mem (join_point a' t' p') (join_point a b p ∷ []) → PredL n id S'.led p' a'
      entry a' t' p' (inl m) =
          let k = i.loc (join_point a' t' p') m in
          enter_other n id small L.1 la off lbb pb own na npa (λ e. omega (arith, k.0, B.state, ap (λ y. (S.core y).state) e)) k.1 (i.entry a' t' p' m)
      entry a' t' p' (inr (inl e)) =
          let ea : a' ≡ a = ap to e in
          let ep : p' ≡ p = ap (λ y. (erase y).a) e in
          rw (ea, ep) (enter_at n id small L.1 la off lbb pb own na npa)
      entry a' t' p' (inr (inr m)) = absurd m

      way : (y : ℕ) (u : List Msg) → Way S b y u → Way S' b y (u ++ (join_point a b p ∷ []))
      way y u (inl k) = inl (closed_grow (join_point a b p ∷ []) k)
      way y u (inr (inl k)) = inr (inl (record { low = rw w.core k.low; high = rw w.core k.high; at = w.succ ∙ k.at }))
      way y u (inr (inr k)) = absurd (omega (arith, B.flag, k.flag))

  pub leave_point_lem : (q b p : ℕ) → Clear (leave_point q b p) s → Inv n id c S [] (s ++ (leave_point q b p ∷ t))
      → Rewritten S S' b (between (S.core b) (S.core b).state p) (S.succ b) → S'.led q ≡ 0 → ((h : ℕ) → h ≢ q → S'.led h ≡ S.led h)
      → Inv n id c S' [] ((s ++ t) ++ (update_succ q b p ∷ []))
  leave_point_lem q b p cl j w lq off = change {is = q ∷ b ∷ []} {r = b} i (record {
    off = w.off;
    offs = w.offs;
    ledup = λ h l. ledup h;
    apart = apart_same i;
    lock_r = rw w.core (i.one b);
    balance = by_row b (rw w.core (omega arith)) (λ h ne. rw (w.off h ne) (omega arith));
    keeps = record {
      core = λ h o. w.off h o.1.0;
      led = λ h o. off h o.0;
      succ = by_row b (λ l u o. w.succ) (λ h ne l u o. w.offs h ne);
      stay = by_row b (λ l u o. rw w.core (l, u)) (λ h ne l u o. rw (w.off h ne) (l, u));
      self = λ h o y. rw (w.offs h o.1.0) y;
    };
    idle = (busy _ q offq (locked i q (inl refl)), (busy _ b w.core (locked i b (inr (inl refl))), tt));
    fresh = (
      (
        plain_at q LEAVING p offq L.0,
        lq,
        points_row w p q refl (λ l u. (l, u)) L.2,
        w.offs q (distinct i) ∙ L.3,
        record { state = rw w.core L.4.state; flag = rw w.core L.4.flag; pred = rw w.core },
      ),
      tt,
    );
    fwd_r = λ l u.
        let k = fwd_same i w (omega (arith, L.4.state)) (omega (arith, L.4.state)) loop in
        record { low = rw w.succ k.0; high = rw w.succ k.1; knows = λ y. rw w.succ (k.2 (ledup b y)) };
    fwd_to = λ h ne e l u f.
        let es : S'.succ h ≡ b = w.offs h ne ∙ e in
        record {
          low = rw (es, w.core) (omega (arith, L.4.state));
          high = rw (es, w.core) (omega (arith, L.4.state));
          knows = λ y. absurd (gone h y (rw e at (f.knows (ledup h y))));
        };
    flags_r = rw w.core (inl L.4.flag);
    member = by_row b
        (rw (w.core, off b (λ e. distinct i (sym e))) (record { out = (i.member b).out; inside = (i.member b).inside }))
        (λ h ne. rw (w.off h ne) (member h (ℕ_discrete h q)));
    next = by_row b (λ l e. rw w.core (leave_before n id small L.1 lb lq off pq qb (distinct i)))
        (λ h ne l e. rw (w.off h ne) (leave_other n id small L.1 lb lq off pq qb (distinct i) ne (ledup h e) (i.next h (rw (w.off h ne) at l) (ledup h e))));
    entry = λ a' t' p' m. entry a' t' p' (mem_split (join_point a' t' p') (s ++ t) (update_succ q b p ∷ []) m);
    way_r = way;
    joins = λ a' t' p' m. absurd (no_join (update_succ q b p) (λ e. omega arith) a' t' p' m);
    fifo = ((λ e. absurd e), tt);
    below_r = λ l. i.below b (omega (arith, L.4.state));
  })
    where
      i : Inv n id c S (q ∷ b ∷ []) (s ++ t)
      i = take_out s (leave_point q b p) t cl j

      L : Loc S (leave_point q b p)
      L = j.loc (leave_point q b p) (mem_mid s (leave_point q b p) t)

      offq : S'.core q ≡ S.core q
      offq = w.off q (distinct i)

      lb : S.led b ≡ 1
      lb = (i.member b).inside (omega (arith, L.4.state)) (omega (arith, L.4.state))

      pq : PredL n id S.led p q
      pq = rw L.0.pred at (i.next q (omega (arith, L.0.state)) L.1)

      qb : PredL n id S.led q b
      qb = rw L.4.pred at (i.next b (omega (arith, L.4.state)) lb)

      ledup : (h : ℕ) → S'.led h ≡ 1 → S.led h ≡ 1
      ledup h e = elim (ℕ_discrete h q) [ yes y ↦ absurd (omega (arith, lq, ap S'.led y)) | no y ↦ sym (off h y) ∙ e ]

      -- only q knew b as its succ
      gone : (h : ℕ) → S'.led h ≡ 1 → ((S.core b).pred ≡ h) ⊎ (((S.core b).flag ≡ 1) × ((S.core b).oldpred ≡ h)) → ⊥
      gone h y (inl e) = omega (arith, lq, ap S'.led (sym L.4.pred ∙ e))
      gone h y (inr e) = omega (arith, L.4.flag)

      loop : S.succ b ≡ b → Serves (S.core b) (S.led b) b → Serves (between (S.core b) (S.core b).state p) (S.led b) b
      loop e y = absurd (elim (y.2 lb) [ inl k ↦ distinct i (sym L.4.pred ∙ k) | inr k ↦ omega (arith, L.4.flag) ])

      member : (h : ℕ) → Dec (h ≡ q) → Member (S.core h) (S'.led h)
      member h (yes e) = record { out = λ y. rw e lq; inside = λ l u. absurd (omega (arith, L.0.state, ap (λ k. (S.core k).state) e)) }
      member h (no e) = rw (off h e) (i.member h)

      entry : (a' t' p' : ℕ) → Mem (join_point a' t' p') (s ++ t) ⊎ Mem (join_point a' t' p') (update_succ q b p ∷ []) → PredL n id S'.led p' a'
      entry a' t' p' (inl m) =
          let k = i.loc (join_point a' t' p') m in
          leave_other n id small L.1 lb lq off pq qb (distinct i) (λ e. omega (arith, k.0, L.4.state, ap (λ y. (S.core y).state) e)) k.1 (i.entry a' t' p' m)
      entry a' t' p' (inr m) = absurd (no_join (update_succ q b p) (λ e. omega arith) a' t' p' m)

      way : (y : ℕ) (u : List Msg) → Way S b y u → Way S' b y (u ++ (update_succ q b p ∷ []))
      way y u (inl k) = inl (closed_grow (update_succ q b p ∷ []) k)
      way y u (inr (inl k)) = inr (inl (record { low = rw w.core k.low; high = rw w.core k.high; at = w.succ ∙ k.at }))
      way y u (inr (inr k)) = absurd (omega (arith, L.4.flag, k.flag))
