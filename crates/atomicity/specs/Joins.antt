-- The deliveries of a join.
use Rattle.std.specs.Prelude.{◌≡◌, refl, ◌⊎◌, ◌≢◌, List, [], ◌∷◌, ◌++◌, ℕ, ◌<◌}
use Rattle.std.proofs.Common.{sym, ◌∙◌, ap, inl, inr, arith}
use Rattle.lists.specs.Members.{mem_mid, by_row, ind_same, ind_ne}
use Rattle.atomicity.specs.Neighbours.{pred_other}
use Rattle.atomicity.specs.Invariant.{Hubs, free, between, acked, Msg, Points, Linked, Loc, Inv}
use Rattle.atomicity.specs.Invariant.{join_retry, join_point, new_succ, new_succ_ack, join_done}
use Rattle.atomicity.specs.Frame.{points_at, plain_at, flagged_at}
use Rattle.atomicity.specs.OneStep.{closed_by, no_join, Clear, take_out, apart_same, locked, distinct}
use Rattle.atomicity.specs.Calm.{Rewritten, points_row, fwd_same, Serves, calm, busy}
use Rattle.protocol.specs.Names.{INSIDE, OUTSIDE}

-- a hub in the ring is set free: the end of a join, and of a leave
pub release : {n : ℕ} {id : ℕ → ℕ} {c : ℕ} {S S' : Hubs} {R : List Msg} {a : ℕ} → Inv n id c S (a ∷ []) R
    → Rewritten S S' a (free (S.core a) (S.core a).state) (S.succ a) → ((h : ℕ) → S'.led h ≡ S.led h) → Linked S a INSIDE → Inv n id c S' [] (R ++ [])
release {a = a} i w ls L =
    calm {is = a ∷ []} i w ls (record {
      apart = apart_same i;
      lock = omega arith;
      here = omega (arith, ind_same a, locked i a (inl refl));
      there = λ h ne. omega (arith, ind_ne a h (λ e. ne (sym e)));
      frame_core = λ o. absurd (o.0 refl);
      frame_self = λ o. absurd (o.0 refl);
      frame_succ = λ l u o. refl;
      frame_stay = λ l u o. (l, u);
      idle = ((λ e. inr (record { state = rw w.core L.state; flag = rw w.core L.flag; back = rw w.core (points_row w _ a refl (λ l u. (l, u)) L.back) })), tt);
      fresh = tt;
      fwd = λ l u. fwd_same i w l u (λ e x. x);
      served = λ h e l u x. x;
      flags = i.flags a;
      member = record { out = (i.member a).out; inside = (i.member a).inside };
      next = i.next a;
      below = i.below a;
      onward = λ l u. inr (l, u, refl);
      back = λ f. inr (f, refl);
      nojoin = λ a t p m. m;
      fifo = tt;
    })

module _ (n : ℕ) (id : ℕ → ℕ) (small : (h : ℕ) → id h < n) (c : ℕ) (S S' : Hubs) (s t : List Msg) where
  pub new_succ_lem : (a b p : ℕ) → Clear (new_succ a b p) s → Inv n id c S [] (s ++ (new_succ a b p ∷ t))
      → Rewritten S S' p (S.core p) a → ((h : ℕ) → S'.led h ≡ S.led h)
      → Inv n id c S' [] ((s ++ t) ++ (new_succ_ack a b p ∷ []))
  new_succ_lem a b p cl j w ls =
      calm {is = a ∷ b ∷ []} i w ls (record {
        apart = apart_same i;
        lock = i.one p;
        here = omega arith;
        there = λ h ne. omega arith;
        frame_core = λ o. refl;
        frame_self = λ o x e. o.0 (sym e);
        frame_succ = λ l u o. absurd (o.1.0 pt.at);
        frame_stay = λ l u o. (l, u);
        idle = (busy (S.core a) a (all a) (locked i a (inl refl)), (busy (S.core b) b (all b) (locked i b (inr (inl refl))), tt));
        fresh = (
          (
            plain_at a INSIDE p (all a) L.0,
            w.offs a (λ e. np (sym e)) ∙ L.1,
            flagged_at b a p (all b) L.2,
            record { low = rw w.core pt.low; high = rw w.core pt.high; at = w.succ },
          ),
          tt,
        );
        fwd = λ l u. rw (all a) (omega (arith, L.0.state), omega (arith, L.0.state), λ _. inl L.0.pred);
        served = λ h e l u x. x;
        flags = i.flags p;
        member = i.member p;
        next = i.next p;
        below = i.below p;
        onward = λ l u. inl (closed_by (new_succ_ack a b p) tt p (S.succ p) refl (sym pt.at));
        back = λ f. inr (f, refl);
        nojoin = no_join (new_succ_ack a b p) (λ e. omega arith);
        fifo = ((λ e. absurd e), tt);
      })
    where
      i : Inv n id c S (a ∷ b ∷ []) (s ++ t)
      i = take_out s (new_succ a b p) t cl j

      L : Loc S (new_succ a b p)
      L = j.loc (new_succ a b p) (mem_mid s (new_succ a b p) t)

      pt : Points S p b
      pt = L.3

      all : (h : ℕ) → S'.core h ≡ S.core h
      all = by_row p w.core w.off

      np : p ≢ a
      np = pred_other n id small
          (rw L.0.pred at (i.next a (omega (arith, L.0.state)) ((i.member a).inside (omega (arith, L.0.state)) (omega (arith, L.0.state)))))
          ((i.member b).inside (omega (arith, L.2.state)) (omega (arith, L.2.state))) (λ e. distinct i (sym e))

  pub join_retry_lem : (x a : ℕ) → Clear (join_retry x a) s → Inv n id c S [] (s ++ (join_retry x a ∷ t))
      → Rewritten S S' a (free (S.core a) OUTSIDE) (S.succ a) → ((h : ℕ) → S'.led h ≡ S.led h)
      → Inv n id c S' [] ((s ++ t) ++ [])
  join_retry_lem x a cl j w ls =
      calm {is = a ∷ []} i w ls (record {
        apart = apart_same i;
        lock = omega arith;
        here = omega (arith, ind_same a, locked i a (inl refl));
        there = λ h ne. omega (arith, ind_ne a h (λ e. ne (sym e)));
        frame_core = λ o. absurd (o.0 refl);
        frame_self = λ o. absurd (o.0 refl);
        frame_succ = λ l u o. refl;
        frame_stay = λ l u o. absurd (omega (arith, L.0));
        idle = ((λ e. inl (rw w.core)), tt);
        fresh = tt;
        fwd = λ l u. absurd (omega arith);
        served = λ h e l u x. absurd (omega (arith, x.0, L.0));
        flags = inl flag;
        member = record { out = λ e. L.1; inside = λ l u. absurd (omega arith) };
        next = λ l e. absurd (omega arith);
        below = λ l. absurd (omega arith);
        onward = λ l u. absurd (omega (arith, L.0));
        back = λ f. absurd (omega (arith, flag));
        nojoin = λ a t p m. m;
        fifo = tt;
      })
    where
      i : Inv n id c S (a ∷ []) (s ++ t)
      i = take_out s (join_retry x a) t cl j

      L : Loc S (join_retry x a)
      L = j.loc (join_retry x a) (mem_mid s (join_retry x a) t)

      flag : (S.core a).flag ≡ 0
      flag = elim (i.flags a) [ inl e ↦ e | inr k ↦ absurd (omega (arith, L.0)) ]

  pub join_point_lem : (a b p : ℕ) → Clear (join_point a b p) s → Inv n id c S [] (s ++ (join_point a b p ∷ t))
      → Rewritten S S' a (between (S.core a) 2 p) b
      → ((h : ℕ) → S'.led h ≡ S.led h)
      → Inv n id c S' [] ((s ++ t) ++ (new_succ a b p ∷ []))
  join_point_lem a b p cl j w ls =
      calm {is = a ∷ b ∷ []} i w ls (record {
        apart = apart_same i;
        lock = i.one a;
        here = omega arith;
        there = λ h ne. omega arith;
        frame_core = λ o. absurd (o.0 refl);
        frame_self = λ o. absurd (o.0 refl);
        frame_succ = λ l u o. absurd (omega (arith, L.0));
        frame_stay = λ l u o. absurd (omega (arith, L.0));
        idle = (busy _ a w.core (locked i a (inl refl)), (busy _ b offb (locked i b (inr (inl refl))), tt));
        fresh = (
          (
            record { state = rw w.core; flag = rw w.core flag; pred = rw w.core },
            w.succ,
            flagged_at b a p offb L.2,
            points_at p b (w.off p np) (w.offs p np) L.3,
          ),
          tt,
        );
        fwd = λ l u. rw offb (omega (arith, L.2.state), omega (arith, L.2.state), λ _. inl L.2.pred);
        served = λ h e l u x. absurd (omega (arith, x.0, L.0));
        flags = inl flag;
        member = record { out = λ e. absurd (omega arith); inside = λ l u. L.1 };
        next = λ l e. j.entry a b p (mem_mid s (join_point a b p) t);
        below = λ l. i.below a (omega (arith, L.0));
        onward = λ l u. absurd (omega (arith, L.0));
        back = λ f. absurd (omega (arith, flag));
        nojoin = no_join (new_succ a b p) (λ e. omega arith);
        fifo = ((λ e. absurd e), tt);
      })
    where
      i : Inv n id c S (a ∷ b ∷ []) (s ++ t)
      i = take_out s (join_point a b p) t cl j

      L : Loc S (join_point a b p)
      L = j.loc (join_point a b p) (mem_mid s (join_point a b p) t)

      flag : (S.core a).flag ≡ 0
      flag = elim (i.flags a) [ inl e ↦ e | inr k ↦ absurd (omega (arith, L.0)) ]

      offb : S'.core b ≡ S.core b
      offb = w.off b (λ e. distinct i (sym e))

      np : p ≢ a
      np e = omega (arith, L.0, L.3.low, ap (λ x. (S.core x).state) e)

  pub new_succ_ack_lem : (a b p : ℕ) → Clear (new_succ_ack a b p) s → Inv n id c S [] (s ++ (new_succ_ack a b p ∷ t))
      → Rewritten S S' b (acked (S.core b)) (S.succ b)
      → ((h : ℕ) → S'.led h ≡ S.led h)
      → Inv n id c S' [] ((s ++ t) ++ (join_done a b ∷ []))
  new_succ_ack_lem a b p cl j w ls =
      calm {is = a ∷ b ∷ []} i w ls (record {
        apart = apart_same i;
        lock = omega arith;
        here = omega (arith, ind_same b, locked i b (inr (inl refl)));
        there = λ h ne. omega (arith, ind_ne b h (λ e. ne (sym e)));
        frame_core = λ o. absurd (o.1.0 refl);
        frame_self = λ o. absurd (o.1.0 refl);
        frame_succ = λ l u o. refl;
        frame_stay = λ l u o. (l, u);
        idle = (
          busy _ a offa (locked i a (inl refl)),
          ((λ e. inr (record { state = rw w.core L.2.state; flag = rw w.core; back = rw (w.core, L.2.pred) pa })), tt),
        );
        fresh = (linked, tt);
        fwd = λ l u. fwd_same i w l u (serve b);
        served = λ h e l u x. serve h e x;
        flags = inl refl;
        member = record { out = (i.member b).out; inside = (i.member b).inside };
        next = i.next b;
        below = i.below b;
        onward = λ l u. inr (l, u, refl);
        back = λ f. inl (closed_by (join_done a b) tt b (S.core b).pred refl (sym L.2.pred));
        nojoin = no_join (join_done a b) (λ e. omega arith);
        fifo = ((λ e. absurd e), tt);
      })
    where
      i : Inv n id c S (a ∷ b ∷ []) (s ++ t)
      i = take_out s (new_succ_ack a b p) t cl j

      L : Loc S (new_succ_ack a b p)
      L = j.loc (new_succ_ack a b p) (mem_mid s (new_succ_ack a b p) t)

      offa : S'.core a ≡ S.core a
      offa = w.off a (distinct i)

      pa : Points S' a b
      pa = record { low = rw offa (omega (arith, L.0.state)); high = rw offa (omega (arith, L.0.state)); at = w.offs a (distinct i) ∙ L.1 }

      linked : Linked S' a INSIDE
      linked = record { state = rw offa L.0.state; flag = rw offa L.0.flag; back = rw (offa, L.0.pred) (points_row w p a refl (λ l u. (l, u)) L.3) }

      serve : (h : ℕ) → S.succ h ≡ b → Serves (S.core b) (S.led h) h → Serves (acked (S.core b)) (S.led h) h
      serve h e x = (x.0, x.1, λ m. go (x.2 m))
        where
          go : ((S.core b).pred ≡ h) ⊎ (((S.core b).flag ≡ 1) × ((S.core b).oldpred ≡ h)) → ((S.core b).pred ≡ h) ⊎ ((◌≡◌ {A = ℕ} 0 1) × (255 ≡ h))
          go (inl k) = inl k
          go (inr k) = absurd (distinct i (sym L.3.at ∙ ap S.succ (sym L.2.oldpred ∙ k.1) ∙ e))

  pub join_done_lem : (a b : ℕ) → Clear (join_done a b) s → Inv n id c S [] (s ++ (join_done a b ∷ t))
      → Rewritten S S' a (free (S.core a) (S.core a).state) (S.succ a) → ((h : ℕ) → S'.led h ≡ S.led h)
      → Inv n id c S' [] ((s ++ t) ++ [])
  join_done_lem a b cl j w ls = release i w ls L
    where
      i : Inv n id c S (a ∷ []) (s ++ t)
      i = take_out s (join_done a b) t cl j

      L : Linked S a INSIDE
      L = j.loc (join_done a b) (mem_mid s (join_done a b) t)
