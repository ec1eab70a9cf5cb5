-- The commands ask, join and leave: refused, or all is good afterwards. Assumes nothing.
use Rattle.std.specs.Prelude.{◌≡◌, ◌⊎◌, ◌≢◌, Bool, List, [], ◌∷◌, ◌++◌, map, ℕ, ◌+◌, ◌≤◌, ◌<◌, T, nat_lt, nat_eq, set}
use Rattle.std.proofs.Math.Path.{refl}
use Rattle.std.proofs.Common.{sym, ◌∙◌, ap, subst, inl, arith, ltb→lt, eqb→eq}
use Rattle.std.proofs.Math.Logic.{inr}
use Rattle.std.proofs.Math.Bool.{true}
use Rattle.std.proofs.lemmas.List.{map-append}
use Rattle.std.proofs.Math.Dec.{T_not}
use Rattle.std.proofs.Math.ListN.{length-set}
use Rattle.clockwise.specs.Laws.{In}
use Rattle.lists.specs.Basics.{require, Mem, times, ind}
use Rattle.lists.specs.Choice.{tested}
use Rattle.lists.specs.Members.{mem_split, ind_cases, ind_same, ind_ne}
use Rattle.lists.specs.Tests.{and_left, and_right, →eqb}
use Rattle.protocol.specs.declared.Row.{Row}
use Rattle.protocol.specs.declared.Answer.TheVariants.{Quiet, Found}
use Rattle.protocol.specs.declared.Decision.TheVariants.{Send}
use Rattle.protocol.specs.declared.refusal.Refusal.{Refusal}
use Rattle.std.specs.Prelude.{Ok}
use Rattle.protocol.specs.Names.{INSIDE, JOINING, OUTSIDE, WANTING_TO_LEAVE}
use Rattle.protocol.specs.Record.{round, State, count, row}
use Rattle.protocol.specs.Step as step
use Rattle.protocol.specs.Step.{Result, refused, conclude, asking}
use Rattle.protocol.specs.Membership.{mark}
use Rattle.layout.specs.Asks.{ring_states}
use Rattle.atomicity.specs.Neighbours.{owner_of}
use Rattle.atomicity.specs.Invariant.{Hubs, locking, Msg, erase, Linked, Inv}
use Rattle.atomicity.specs.Invariant.{lookup, join, leave_req}
use Rattle.atomicity.specs.OneStep.{no_join, apart_more}
use Rattle.atomicity.specs.Roles.{outside_free}
use Rattle.atomicity.specs.Calm.{Rewritten, points_row, fwd_same, Serves, calm, busy, sent as calm_sent}
use Rattle.atomicity.specs.Good.{core_of, hubs, rewritten, kept_names, waits, asks, total, total_append, Numbers, nums, Holds, Good, Fine, fine_accepted, fine_refused, onward_fine}

-- the rows
module _ {n : ℕ} {id : ℕ → ℕ} {c : ℕ} {S S' : Hubs} {ms : List Msg} (i : Inv n id c S [] ms) (ls : (h : ℕ) → S'.led h ≡ S.led h) where
  enter_row : (x y : ℕ) → x < c → (S.core x).state ≡ OUTSIDE → Rewritten S S' x (locking (S.core x) JOINING) (S.succ x) → Inv n id c S' [] (ms ++ (join x y x ∷ []))
  enter_row x y lx z w =
      calm {is = x ∷ []} i w ls (record {
        apart = apart_more i x lk;
        lock = omega arith;
        here = omega (arith, ind_same x, lk);
        there = λ h ne. omega (arith, ind_ne x h (λ e. ne (sym e)));
        frame_core = λ o. absurd (o.0 refl);
        frame_self = λ o. absurd (o.0 refl);
        frame_succ = λ l u o. refl;
        frame_stay = λ l u o. absurd (omega arith);
        idle = (busy _ x w.core refl, tt);
        fresh = ((rw w.core, ls x ∙ (i.member x).out z), tt);
        fwd = λ l u. absurd (omega arith);
        served = λ h e l u k. absurd (omega (arith, k.0));
        flags = inl flag;
        member = record { out = λ e. absurd (omega arith); inside = λ l u. absurd (omega arith) };
        next = λ l e. absurd (omega arith);
        below = λ l. lx;
        onward = λ l u. absurd (omega arith);
        back = λ f. absurd (omega (arith, flag));
        nojoin = no_join (join x y x) (λ e. omega arith);
        fifo = ((λ e. absurd e), tt);
      })
    where
      lk : (S.core x).lock ≡ 0
      lk = outside_free i x z

      flag : (S.core x).flag ≡ 0
      flag = elim (i.flags x) [ inl e ↦ e | inr e ↦ absurd (omega arith) ]

  leave_row : (x : ℕ) → INSIDE ≤ (S.core x).state → (S.core x).lock ≡ 0 → S.succ x ≢ x → Rewritten S S' x (locking (S.core x) WANTING_TO_LEAVE) (S.succ x)
      → Inv n id c S' [] (ms ++ (leave_req x (S.succ x) ∷ []))
  leave_row x l2 z ne w =
      calm {is = x ∷ []} i w ls (record {
        apart = apart_more i x z;
        lock = omega arith;
        here = omega (arith, ind_same x);
        there = λ h ne. omega (arith, ind_ne x h (λ e. ne (sym e)));
        frame_core = λ o. absurd (o.0 refl);
        frame_self = λ o. absurd (o.0 refl);
        frame_succ = λ l u o. refl;
        frame_stay = λ l u o. omega arith;
        idle = (busy _ x w.core refl, tt);
        fresh = (
          (
            record { state = rw w.core; flag = rw w.core B.flag; back = rw w.core (points_row w _ x refl (λ l u. omega arith) B.back) },
            rw w.succ ne,
          ),
          tt,
        );
        fwd = λ l u. fwd_same i w l2 (omega (arith, B.state)) (λ e. serve x);
        served = λ h e l u. serve h;
        flags = inl B.flag;
        member = record { out = λ e. absurd (omega arith); inside = λ l u. (i.member x).inside l2 (omega (arith, B.state)) };
        next = λ l. i.next x l2;
        below = λ l. i.below x (omega arith);
        onward = λ l u. inr (omega arith, omega arith, refl);
        back = λ f. absurd (omega (arith, B.flag));
        nojoin = no_join (leave_req x (S.succ x)) (λ e. omega arith);
        fifo = ((λ e. inr (inl (record { low = rw w.core (omega arith); high = rw w.core (omega arith); at = w.succ }))), tt);
      })
    where
      B : Linked S x INSIDE
      B = elim (i.idle x z) [ inl e ↦ absurd (omega arith) | inr k ↦ k ]

      serve : (h : ℕ) → Serves (S.core x) (S.led h) h → Serves (locking (S.core x) WANTING_TO_LEAVE) (S.led h) h
      serve h k = (omega arith, omega arith, k.2)

module _ (id : ℕ → ℕ) (small : (h : ℕ) → id h < round) (c : ℕ) (s : State) (members ks : List ℕ) (G : Good id c s members ks) where
  abbrev H : Holds id c s.rows s.asked members ks G.ms
  H = G.holds

  abbrev Right : ℕ → Result → Type 0
  Right q r = Fine id c members ks q true r

  test : (q : ℕ) (b : Bool) (k : Refusal) (r : Result) → (T b → Right q r) → Right q (require b (refused k) r)
  test q b k r f = tested (Right q) b (refused k) r (fine_refused id c members ks q k) f

  numbers_more : (u : Msg) → Numbers c u → (x : Msg) → Mem x (G.ms ++ (u ∷ [])) → Numbers c x
  numbers_more u nu x k = go (mem_split x G.ms (u ∷ []) k)
    where
      go : Mem x G.ms ⊎ Mem x (u ∷ []) → Numbers c x
      go (inl i) = H.numbers x i
      go (inr (inl e)) = subst (Numbers c) (sym e) nu
      go (inr (inr i)) = absurd i

  same_more : (u : Msg) → s.messages ++ (erase u ∷ []) ≡ map erase (G.ms ++ (u ∷ []))
  same_more u = ap (λ z. z ++ (erase u ∷ [])) G.same ∙ sym (map-append erase G.ms (u ∷ []))

  -- hub x's row is changed to v and a message that is no question is put last
  put : (x : ℕ) (v : Row) (u : Msg) → v.identifier ≡ (row s x).identifier
      → Inv round id c (hubs (set s.rows x v) (mark members)) [] (G.ms ++ (u ∷ []))
      → ((k : ℕ) → waits k u ≡ 0) → asks u ≡ 0 → Numbers c u
      → Right s.asked (conclude s x (Ok (Send v (erase u) Quiet)))
  unfolding conclude
  put x v u e i tk ln nu = fine_accepted id c members ks s.asked true Quiet _ (record {
    named = tt;
    asked = refl;
    good = record {
      ms = G.ms ++ (u ∷ []);
      same = same_more u;
      holds = record {
        inv = i;
        size = length-set s.rows x v ∙ H.size;
        names = kept_names s.rows x v id e H.names;
        once = λ k. omega (arith, tk k, total_append (waits k) G.ms (u ∷ []), H.once k);
        later = λ k l. omega (arith, tk k, total_append (waits k) G.ms (u ∷ []), H.later k l);
        sum = omega (arith, total_append asks G.ms (u ∷ []), H.sum);
        numbers = numbers_more u nu;
      };
    };
  })

  below : (x : ℕ) → T (nat_lt x (count s)) → x < c
  below x t = omega (arith, ltb→lt x (count s) t, H.size)

  written : (x : ℕ) (v : Row) → T (nat_lt x (count s)) → Rewritten (hubs s.rows (mark members)) (hubs (set s.rows x v) (mark members)) x (core_of v) v.succ
  written x v t = rewritten s.rows (mark members) (mark members) x v (ltb→lt x (count s) t)

  pub join_fine : (x y : ℕ) → Right s.asked (step.join s x y)
  unfolding step.join
  join_fine x y =
      test s.asked _ _ _ λ t4. test s.asked _ _ _ λ t6. test s.asked _ _ _ λ t5. test s.asked _ _ _ λ t11.
      let tx = and_left (nat_lt x (count s)) (nat_lt y (count s)) t4 in
      let ty = and_right (nat_lt x (count s)) (nat_lt y (count s)) t4 in
      put x _ (join x y x) refl
      (enter_row H.inv (λ h. refl) x y (below x tx) (eqb→eq _ 0 t6) (written x _ tx))
      (λ k. refl) refl (nums (join x y x) (below x tx) (below y ty) (λ e. omega arith))

  pub leave_fine : (x : ℕ) → Right s.asked (step.leave s x)
  unfolding step.leave
  leave_fine x =
      test s.asked _ _ _ λ t4. test s.asked _ _ _ λ t5. test s.asked _ _ _ λ t7. test s.asked _ _ _ λ t8. test s.asked _ _ _ λ t11.
      let r = ring_states (row s x) t5 in
      put x _ (leave_req x (row s x).succ) refl
      (leave_row H.inv (λ h. refl) x r.0 (eqb→eq _ 0 t7) (λ e. T_not (nat_eq (row s x).succ x) t8 (→eqb _ _ e)) (written x _ t4))
      (λ k. refl) refl
      (nums (leave_req x (row s x).succ) (below x t4) (H.inv.below (row s x).succ (omega (arith, (H.inv.fwd x r.0 r.1).low))) (λ e. omega arith))

  -- a new ticket is nobody's yet
  fits : (k : ℕ) → ((s.asked ≡ k) × (ind s.asked k ≡ 1)) ⊎ ((s.asked ≢ k) × (ind s.asked k ≡ 0))
      → ind s.asked k + (times ks k + total (waits k) G.ms) ≤ 1
  fits k (inl w) = omega (arith, H.later k (omega (arith, w.0)))
  fits k (inr w) = omega (arith, H.once k)

  range : (x v : ℕ) → In round (row s (row s x).pred).identifier (row s x).identifier v → In round (id (row s x).pred) (id x) v
  range x v i =
      subst (λ z. In round z (id x) v) (H.names (row s x).pred)
      (subst (λ z. In round (row s (row s x).pred).identifier z v) (H.names x) i)

  pub ask_fine : (x v : ℕ) → v < round → Right (s.asked + 1) (step.ask s x v)
  unfolding step.ask asking
  ask_fine x v lv =
      test (s.asked + 1) _ _ _ λ t4. test (s.asked + 1) _ _ _ λ t5. test (s.asked + 1) _ _ _ λ t12.
      let r = ring_states (row s x) t5 in
      onward_fine (Right (s.asked + 1)) (asking s x v) _ (row s x) v
      (test (s.asked + 1) _ _ _ λ t11.
      fine_accepted id c members ks (s.asked + 1) true Quiet _ (record {
        named = tt;
        asked = refl;
        good = record {
          ms = G.ms ++ (new ∷ []);
          same = same_more new;
          holds = record {
            inv = calm_sent H.inv (record {
              same = λ h. refl;
              fresh = (tt, tt);
              nojoin = no_join new (λ e. omega arith);
              fifo = ((λ e. inr (inl (record { low = r.0; high = r.1; at = refl }))), tt);
            });
            size = H.size;
            names = H.names;
            once = λ k. omega (arith, fits k (ind_cases s.asked k), total_append (waits k) G.ms (new ∷ []));
            later = λ k l. omega (arith, H.later k (omega arith), ind_ne s.asked k (λ e. omega arith), total_append (waits k) G.ms (new ∷ []));
            sum = omega (arith, total_append asks G.ms (new ∷ []), H.sum);
            numbers = numbers_more new (record {
              src = below x t4;
              dst = H.inv.below (row s x).succ (omega (arith, (H.inv.fwd x r.0 r.1).low));
              point = λ e. lv;
            });
          };
        };
      }))
      (λ ne own.
      let led1 : mark members x ≡ 1 = (H.inv.member x).inside r.0 (omega (arith, r.1)) in
      fine_accepted id c members ks (s.asked + 1) true (Found x v s.asked 0) _ (record {
        named = (lv, owner_of round id small v lv led1 (H.inv.next x r.0 led1) (range x v own));
        asked = refl;
        good = record {
          ms = G.ms;
          same = G.same;
          holds = record {
            inv = H.inv;
            size = H.size;
            names = H.names;
            once = λ k. omega (arith, fits k (ind_cases s.asked k));
            later = λ k l. omega (arith, H.later k (omega arith), ind_ne s.asked k (λ e. omega arith));
            sum = omega (arith, H.sum);
            numbers = H.numbers;
          };
        };
      }))
    where
      new : Msg
      new = lookup x (row s x).succ v s.asked 0
