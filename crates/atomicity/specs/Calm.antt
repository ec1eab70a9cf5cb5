-- Steps that leave the ledger as it is: those that change no row, and those that change one.
use Rattle.std.specs.Prelude.{◌≡◌, ◌⊎◌, ◌≢◌, List, [], ◌++◌, ℕ, ◌+◌, ◌≤◌, ◌<◌}
use Rattle.std.proofs.Common.{sym, ◌∙◌, ap, inl, inr, arith}
use Rattle.std.proofs.Math.Decide.{ℕ_discrete}
use Rattle.lists.specs.Basics.{Mem, All, times}
use Rattle.lists.specs.Members.{mem_split, all_mem, Off, by_row}
use Rattle.atomicity.specs.Neighbours.{PredL, predl_ext}
use Rattle.atomicity.specs.Invariant.{Core, Hubs, Msg, carriers, Points, Loc, Idle, Fwd, Flags, Member, Closed, Back, Way, Fifo, Inv, join_point}
use Rattle.atomicity.specs.Frame.{Keeps, points_at}
use Rattle.atomicity.specs.OneStep.{carriers_append, closed_grow, closed_late, no_join_grow, way_add, change}
use Rattle.protocol.specs.Names.{INSIDE, JOINING, LEAVING, WANTING_TO_LEAVE}

-- S' is S with the row of r made v and s
pub record Rewritten (S S' : Hubs) (r : ℕ) (v : Core) (s : ℕ) : Type 0 where
  pub core : S'.core r ≡ v
  pub succ : S'.succ r ≡ s
  pub off : (h : ℕ) → h ≢ r → S'.core h ≡ S.core h
  pub offs : (h : ℕ) → h ≢ r → S'.succ h ≡ S.succ h

module _ {S S' : Hubs} {r : ℕ} {v : Core} {s : ℕ} (w : Rewritten S S' r v s) where
  -- r's succ is left as it is, and r stays in the ring: whoever pointed to h does so still
  pub points_row : (p h : ℕ) → s ≡ S.succ r → (INSIDE ≤ (S.core r).state → (S.core r).state ≤ WANTING_TO_LEAVE → (INSIDE ≤ v.state) × (v.state ≤ WANTING_TO_LEAVE)) → Points S p h → Points S' p h
  points_row p h e f = go (ℕ_discrete p r)
    where
      go : Dec (p ≡ r) → Points S p h → Points S' p h
      go (no ne) x = points_at p h (w.off p ne) (w.offs p ne) x
      go (yes y) x =
          let k = f (rw y at x.low) (rw y at x.high) in
          record { low = rw (y, w.core) k.0; high = rw (y, w.core) k.1; at = rw y (w.succ ∙ e ∙ sym (ap S.succ y) ∙ x.at) }

-- r's row as those that point to it need it
abbrev pub Serves : Core → ℕ → ℕ → Type 0
Serves v l h = (INSIDE ≤ v.state) × (v.state ≤ LEAVING) × (l ≡ 1 → (v.pred ≡ h) ⊎ ((v.flag ≡ 1) × (v.oldpred ≡ h)))

pub record Calm (n : ℕ) (id : ℕ → ℕ) (c : ℕ) (S S' : Hubs) (g is : List ℕ) (R new : List Msg) (r : ℕ) (v : Core) (s : ℕ) : Type 0 where
  -- locks
  pub apart : (h : ℕ) → times is h + carriers R h ≤ 1
  pub lock : v.lock ≤ 1
  pub here : v.lock + times g r ≡ (S.core r).lock + carriers new r
  pub there : (h : ℕ) → h ≢ r → times g h ≡ carriers new h
  -- the frame, at r
  pub frame_core : Off is r → v ≡ S.core r
  pub frame_self : Off is r → S.succ r ≢ r → s ≢ r
  pub frame_succ : INSIDE ≤ (S.core r).state → (S.core r).state ≤ LEAVING → Off is (S.succ r) → s ≡ S.succ r
  pub frame_stay : INSIDE ≤ (S.core r).state → (S.core r).state ≤ WANTING_TO_LEAVE → Off is (S.succ r) → (INSIDE ≤ v.state) × (v.state ≤ WANTING_TO_LEAVE)
  -- the participants
  pub idle : All (λ h. (S'.core h).lock ≡ 0 → Idle S' h) is
  pub fresh : All (Loc S') new
  -- r's row
  pub fwd : INSIDE ≤ v.state → v.state ≤ LEAVING → Serves (S'.core s) (S.led r) r
  pub served : (h : ℕ) → S.succ h ≡ r → INSIDE ≤ (S.core h).state → (S.core h).state ≤ LEAVING → Serves (S.core r) (S.led h) h → Serves v (S.led h) h
  pub flags : Flags v
  pub member : Member v (S.led r)
  pub next : INSIDE ≤ v.state → S.led r ≡ 1 → PredL n id S.led v.pred r
  pub below : JOINING ≤ v.state → r < c
  -- the links
  pub onward : INSIDE ≤ (S.core r).state → (S.core r).state ≤ LEAVING → Closed r (S.succ r) new ⊎ ((INSIDE ≤ v.state) × (v.state ≤ LEAVING) × (s ≡ S.succ r))
  pub back : (S.core r).flag ≡ 1 → Closed r (S.core r).pred new ⊎ ((v.flag ≡ 1) × (v.pred ≡ (S.core r).pred))
  pub nojoin : (a t p : ℕ) → Mem (join_point a t p) new → ⊥
  pub fifo : Fifo S' new

module _ {n : ℕ} {id : ℕ → ℕ} {c : ℕ} {S S' : Hubs} {g is : List ℕ} {R new : List Msg} {r : ℕ} {v : Core} {s : ℕ}
    (i : Inv n id c S g R) (w : Rewritten S S' r v s) (ls : (h : ℕ) → S'.led h ≡ S.led h) (d : Calm n id c S S' g is R new r v s) where
  calm_keeps : Keeps S S' is
  calm_keeps = record {
    core = by_row r (λ o. w.core ∙ d.frame_core o) (λ h ne o. w.off h ne);
    led = λ h o. ls h;
    succ = by_row r (λ l u o. w.succ ∙ d.frame_succ l u o) (λ h ne l u o. w.offs h ne);
    stay = by_row r (λ l u o. rw w.core (d.frame_stay l u o)) (λ h ne l u o. rw (w.off h ne) (l, u));
    self = by_row r (λ o x. rw w.succ (d.frame_self o x)) (λ h ne o x. rw (w.offs h ne) x);
  }

  pub calm : Inv n id c S' [] (R ++ new)
  calm = change {is = is} {r = r} i (record {
    off = w.off;
    offs = w.offs;
    ledup = λ h l e. sym (ls h) ∙ e;
    apart = d.apart;
    lock_r = rw w.core d.lock;
    balance = by_row r (rw w.core d.here) (λ h ne. rw (w.off h ne) (omega (arith, d.there h ne)));
    keeps = calm_keeps;
    idle = d.idle;
    fresh = d.fresh;
    fwd_r = λ l u. fwd_r (d.fwd (rw w.core at l) (rw w.core at u));
    fwd_to = fwd_to;
    flags_r = rw w.core d.flags;
    member = by_row r (rw (w.core, ls r) d.member) (λ h ne. rw (w.off h ne, ls h) (i.member h));
    next = by_row r (λ l e. predl_ext ls (rw w.core (d.next (rw w.core at l) (sym (ls r) ∙ e))))
        (λ h ne l e. predl_ext ls (rw (w.off h ne) (i.next h (rw (w.off h ne) at l) (sym (ls h) ∙ e))));
    entry = λ a t p m. entry a t p (mem_split (join_point a t p) R new m);
    way_r = way;
    joins = λ a t p m. absurd (d.nojoin a t p m);
    fifo = d.fifo;
    below_r = λ l. d.below (rw w.core at l);
  })
    where
      fwd_r : Serves (S'.core s) (S.led r) r → Fwd S' r
      fwd_r k = record { low = rw w.succ k.0; high = rw w.succ k.1; knows = rw (w.succ, ls r) k.2 }

      open_r : (y : ℕ) (u : List Msg) → S.succ r ≡ y → Closed r (S.succ r) new ⊎ ((INSIDE ≤ v.state) × (v.state ≤ LEAVING) × (s ≡ S.succ r)) → Way S' r y (u ++ new)
      open_r y u e (inl k) = inl (closed_late u (rw e at k))
      open_r y u e (inr k) = inr (inl (record { low = rw w.core k.0; high = rw w.core k.1; at = w.succ ∙ k.2 ∙ e }))

      back_r : (y : ℕ) (u : List Msg) → Back S r y u → Closed r (S.core r).pred new ⊎ ((v.flag ≡ 1) × (v.pred ≡ (S.core r).pred)) → Way S' r y (u ++ new)
      back_r y u b (inl k) = inl (closed_late u (rw b.pred at k))
      back_r y u b (inr k) = inr (inr (record
          { flag = rw w.core k.0; pred = rw w.core (k.1 ∙ b.pred); entered = no_join_grow r y u new d.nojoin b.entered }))

      way : (y : ℕ) (u : List Msg) → Way S r y u → Way S' r y (u ++ new)
      way y u (inl k) = inl (closed_grow new k)
      way y u (inr (inl k)) = open_r y u k.at (d.onward k.low k.high)
      way y u (inr (inr k)) = back_r y u k (d.back k.flag)

      entry : (a t p : ℕ) → Mem (join_point a t p) R ⊎ Mem (join_point a t p) new → PredL n id S'.led p a
      entry a t p (inl m) = predl_ext ls (i.entry a t p m)
      entry a t p (inr m) = absurd (d.nojoin a t p m)

      fwd_to : (h : ℕ) → h ≢ r → S.succ h ≡ r → INSIDE ≤ (S.core h).state → (S.core h).state ≤ LEAVING → Fwd S h → Fwd S' h
      fwd_to h ne e l u f =
          let es : S'.succ h ≡ r = w.offs h ne ∙ e in
          let ec : S'.core (S'.succ h) ≡ v = rw es w.core in
          let k = d.served h e l u (rw e at f.low, rw e at f.high, rw e at f.knows) in
          record { low = rw ec k.0; high = rw ec k.1; knows = rw (ec, ls h) k.2 }

-- r's succ is left as it is, and serves r if it did
pub fwd_same : {n : ℕ} {id : ℕ → ℕ} {c : ℕ} {S S' : Hubs} {g : List ℕ} {R : List Msg} {r : ℕ} {v : Core}
    → Inv n id c S g R → Rewritten S S' r v (S.succ r) → INSIDE ≤ (S.core r).state → (S.core r).state ≤ LEAVING
    → (S.succ r ≡ r → Serves (S.core r) (S.led r) r → Serves v (S.led r) r) → Serves (S'.core (S.succ r)) (S.led r) r
fwd_same {S = S} {S' = S'} {r = r} {v = v} i w l u f = go (ℕ_discrete (S.succ r) r) (i.fwd r l u)
  where
    go : Dec (S.succ r ≡ r) → Fwd S r → Serves (S'.core (S.succ r)) (S.led r) r
    go (no e) k = rw (w.off (S.succ r) e) (k.low, k.high, k.knows)
    go (yes e) k = rw (e, w.core) (f e (rw e at k.low, rw e at k.high, rw e at k.knows))

-- a hub whose lock is taken is not idle
pub busy : {S' : Hubs} (x : Core) (h : ℕ) → S'.core h ≡ x → x.lock ≡ 1 → (S'.core h).lock ≡ 0 → Idle S' h
busy x h e l k = absurd (omega (arith, ap (λ y. y.lock) e))

-- a step that changes no row
pub record Sent (S : Hubs) (g : List ℕ) (new : List Msg) : Type 0 where
  pub same : (h : ℕ) → times g h ≡ carriers new h
  pub fresh : All (Loc S) new
  pub nojoin : (a t p : ℕ) → Mem (join_point a t p) new → ⊥
  pub fifo : Fifo S new

pub sent : {n : ℕ} {id : ℕ → ℕ} {c : ℕ} {S : Hubs} {g : List ℕ} {R new : List Msg} → Inv n id c S g R → Sent S g new → Inv n id c S [] (R ++ new)
sent {n} {id} {c} {S} {g} {R} {new} i d = record {
  one = i.one;
  count = λ h. omega (arith, d.same h, i.count h, carriers_append R new h);
  idle = i.idle;
  loc = λ m k. loc m (mem_split m R new k);
  fwd = i.fwd;
  flags = i.flags;
  member = i.member;
  next = i.next;
  entry = λ a t p m. entry a t p (mem_split (join_point a t p) R new m);
  fifo = way_add S S new (λ x y v. way x y v) d.fifo R i.fifo;
  below = i.below;
}
  where
    loc : (m : Msg) → Mem m R ⊎ Mem m new → Loc S m
    loc m (inl k) = i.loc m k
    loc m (inr k) = all_mem (Loc S) new d.fresh m k

    entry : (a t p : ℕ) → Mem (join_point a t p) R ⊎ Mem (join_point a t p) new → PredL n id S.led p a
    entry a t p (inl m) = i.entry a t p m
    entry a t p (inr m) = absurd (d.nojoin a t p m)

    way : (x y : ℕ) (v : List Msg) → Way S x y v → Way S x y (v ++ new)
    way x y v (inl k) = inl (closed_grow new k)
    way x y v (inr (inl k)) = inr (inl k)
    way x y v (inr (inr k)) = inr (inr (record { flag = k.flag; pred = k.pred; entered = no_join_grow x y v new d.nojoin k.entered }))
