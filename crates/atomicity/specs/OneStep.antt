-- One step: a message is taken out, one hub's row is changed, a message is put last. What a step has to show, and that the
-- invariant then holds again.
use Rattle.std.specs.Prelude.{◌≡◌, refl, ◌⊎◌, ◌≢◌, List, [], ◌∷◌, ◌++◌, ℕ, ◌+◌, ◌≤◌, ◌<◌, T}
use Rattle.std.proofs.Common.{sym, ◌∙◌, ap, subst, inl, inr, arith}
use Rattle.std.proofs.Math.Decide.{ℕ_discrete}
use Rattle.lists.specs.Basics.{Mem, All, times, ind}
use Rattle.lists.specs.Members.{mem_split, mem_left, mem_right, mem_put, all_mem, Off, off_or_in, off_of, times_in, times_off, by_row, ind_cases, ind_same}
use Rattle.atomicity.specs.Neighbours.{PredL}
use Rattle.atomicity.specs.Invariant.{Hubs, Msg, erase, from, to, owners, carriers, Loc, Idle, Fwd, Flags, Member, asks, closes, Closed, Way, Fifo, Inv, join_point}
use Rattle.atomicity.specs.Frame.{Keeps, keep_idle, frame}
use Rattle.protocol.specs.Names.{INSIDE, JOINING, LEAVING, JOINPOINT}

-- counting

pub carriers_append : (s t : List Msg) (h : ℕ) → carriers (s ++ t) h ≡ carriers s h + carriers t h
carriers_append [] t h = omega arith
carriers_append (m ∷ s) t h = omega (arith, carriers_append s t h)

pub carriers_mid : (s : List Msg) (m : Msg) (t : List Msg) (h : ℕ) → carriers (s ++ (m ∷ t)) h ≡ times (owners m) h + carriers (s ++ t) h
carriers_mid s m t h = omega (arith, carriers_append s (m ∷ t) h, carriers_append s t h)

pub carriers_mem : (m : Msg) (s : List Msg) (h : ℕ) → Mem m s → times (owners m) h ≤ carriers s h
carriers_mem m (x ∷ s) h (inl e) = omega (arith, ap (λ y. times (owners y) h) e)
carriers_mem m (x ∷ s) h (inr i) = omega (arith, carriers_mem m s h i)
carriers_mem m [] h i = absurd i

-- a lock that is taken is carried by some message
pub record Carrier (ms : List Msg) (h : ℕ) : Type 0 where
  pub msg : Msg
  pub waits : Mem msg ms
  pub owns : Mem h (owners msg)

pub carrier : (ms : List Msg) (h : ℕ) → 1 ≤ carriers ms h → Carrier ms h
carrier [] h l = absurd (omega arith)
carrier (m ∷ ms) h l = go (off_or_in (owners m) h) (λ k. carrier ms h k)
  where
    go : Off (owners m) h ⊎ Mem h (owners m) → (1 ≤ carriers ms h → Carrier ms h) → Carrier (m ∷ ms) h
    go (inr i) f = record { msg = m; waits = inl refl; owns = i }
    go (inl o) f =
        let c = f (omega (arith, times_off (owners m) h o)) in
        record { msg = c.msg; waits = inr c.waits; owns = c.owns }

-- taking a message out

-- no earlier message on m's link
abbrev pub Clear : Msg → List Msg → Type 0
Clear m l = All (λ u. from u ≡ from m → to u ≡ to m → ⊥) l

way_take : (S : Hubs) (x y : ℕ) (s : List Msg) (m : Msg) (t : List Msg) → (x ≡ from m → y ≡ to m → ⊥) → Way S x y (s ++ (m ∷ t)) → Way S x y (s ++ t)
way_take S x y s m t ne (inl c) = inl (record { last = c.last; waits = go (mem_split c.last s (m ∷ t) c.waits); is = c.is; src = c.src; dst = c.dst })
  where
    go : Mem c.last s ⊎ ((c.last ≡ m) ⊎ Mem c.last t) → Mem c.last (s ++ t)
    go (inl i) = mem_left c.last s t i
    go (inr (inl e)) = absurd (ne (sym c.src ∙ ap from e) (sym c.dst ∙ ap to e))
    go (inr (inr i)) = mem_right c.last s t i
way_take S x y s m t ne (inr (inl o)) = inr (inl o)
way_take S x y s m t ne (inr (inr b)) = inr (inr (record { flag = b.flag; pred = b.pred; entered = λ p i. b.entered p (mem_put (join_point y x p) s m t i) }))

fifo_take : (S : Hubs) (s : List Msg) (m : Msg) (t : List Msg) → Clear m s → Fifo S (s ++ (m ∷ t)) → Fifo S (s ++ t)
fifo_take S [] m t c f = f.1
fifo_take S (u ∷ s) m t c f = ((λ a. way_take S (from u) (to u) s m t c.0 (f.0 a)), fifo_take S s m t c.1 f.1)

-- the way of the message that is taken out
pub fifo_mid : (S : Hubs) (s : List Msg) (m : Msg) (t : List Msg) → Fifo S (s ++ (m ∷ t)) → T (asks m) → Way S (from m) (to m) t
fifo_mid S [] m t f a = f.0 a
fifo_mid S (u ∷ s) m t f a = fifo_mid S s m t f.1 a

pub way_add : (S S' : Hubs) (new : List Msg) → ((x y : ℕ) (v : List Msg) → Way S x y v → Way S' x y (v ++ new)) → Fifo S' new → (s : List Msg) → Fifo S s → Fifo S' (s ++ new)
way_add S S' new w f [] g = f
way_add S S' new w f (u ∷ s) g = ((λ a. w (from u) (to u) s (g.0 a)), way_add S S' new w f s g.1)

-- what stays when messages are put last
pub closed_grow : {x y : ℕ} {v : List Msg} (new : List Msg) → Closed x y v → Closed x y (v ++ new)
closed_grow {v = v} new k = record { last = k.last; waits = mem_left k.last v new k.waits; is = k.is; src = k.src; dst = k.dst }

pub no_join_grow : (x y : ℕ) (v new : List Msg) → ((a t p : ℕ) → Mem (join_point a t p) new → ⊥) → ((p : ℕ) → Mem (join_point y x p) v → ⊥)
    → (p : ℕ) → Mem (join_point y x p) (v ++ new) → ⊥
no_join_grow x y v new none old p m = go (mem_split (join_point y x p) v new m)
  where
    go : Mem (join_point y x p) v ⊎ Mem (join_point y x p) new → ⊥
    go (inl m) = old p m
    go (inr m) = none y x p m

-- one message that is no JOINPOINT
pub no_join : (m : Msg) → (erase m).kind ≢ JOINPOINT → (a t p : ℕ) → Mem (join_point a t p) (m ∷ []) → ⊥
no_join m k a t p (inl e) = k (ap (λ x. (erase x).kind) (sym e))
no_join m k a t p (inr e) = e

pub closed_late : {x y : ℕ} {new : List Msg} (v : List Msg) → Closed x y new → Closed x y (v ++ new)
closed_late {new = new} v k = record { last = k.last; waits = mem_right k.last v new k.waits; is = k.is; src = k.src; dst = k.dst }

-- the one message sent closes its link
pub closed_by : (m : Msg) → T (closes m) → (x y : ℕ) → from m ≡ x → to m ≡ y → Closed x y (m ∷ [])
closed_by m k x y e f = record { last = m; waits = inl refl; is = k; src = e; dst = f }

module _ {n : ℕ} {id : ℕ → ℕ} {c : ℕ} where
  pub take_out : {S : Hubs} (s : List Msg) (m : Msg) (t : List Msg) → Clear m s → Inv n id c S [] (s ++ (m ∷ t)) → Inv n id c S (owners m) (s ++ t)
  take_out {S} s m t cl i = record {
    one = i.one;
    count = λ h. omega (arith, i.count h, carriers_mid s m t h);
    idle = i.idle;
    loc = λ u k. i.loc u (mem_put u s m t k);
    fwd = i.fwd;
    flags = i.flags;
    member = i.member;
    next = i.next;
    entry = λ a b p k. i.entry a b p (mem_put (join_point a b p) s m t k);
    fifo = fifo_take S s m t cl i.fifo;
    below = i.below;
  }

  pub apart_same : {S : Hubs} {g : List ℕ} {R : List Msg} → Inv n id c S g R → (h : ℕ) → times g h + carriers R h ≤ 1
  apart_same i h = omega (arith, i.count h, i.one h)

  -- with a free hub that the step locks
  pub apart_more : {S : Hubs} {g : List ℕ} {R : List Msg} → Inv n id c S g R → (t : ℕ) → (S.core t).lock ≡ 0 → (h : ℕ) → times (t ∷ g) h + carriers R h ≤ 1
  apart_more {S} {g} {R} i t e h = go (ind_cases t h)
    where
      go : ((t ≡ h) × (ind t h ≡ 1)) ⊎ ((t ≢ h) × (ind t h ≡ 0)) → times (t ∷ g) h + carriers R h ≤ 1
      go (inl w) = omega (arith, i.count h, ap (λ x. (S.core x).lock) w.0)
      go (inr w) = omega (arith, i.count h, i.one h)

  pub locked : {S : Hubs} {g : List ℕ} {R : List Msg} → Inv n id c S g R → (h : ℕ) → Mem h g → (S.core h).lock ≡ 1
  locked {g = g} i h m = omega (arith, i.count h, i.one h, times_in g h m)

  pub distinct : {S : Hubs} {a t : ℕ} {R : List Msg} → Inv n id c S (a ∷ t ∷ []) R → a ≢ t
  distinct {a = a} {t = t} i e = omega (arith, apart_same i t, ind_same t, ap (λ x. ind x t) e)

-- What a step shows. r is the hub whose row it changes, R are the other messages, g the hubs whose locks the delivered
-- message carried, is those and the hub that the step locks, new what it sends.
pub record Change (n : ℕ) (id : ℕ → ℕ) (c : ℕ) (S S' : Hubs) (g is : List ℕ) (R new : List Msg) (r : ℕ) : Type 0 where
  pub off : (h : ℕ) → h ≢ r → S'.core h ≡ S.core h
  pub offs : (h : ℕ) → h ≢ r → S'.succ h ≡ S.succ h
  pub ledup : (h : ℕ) → INSIDE ≤ (S.core h).state → S'.led h ≡ 1 → S.led h ≡ 1
  pub apart : (h : ℕ) → times is h + carriers R h ≤ 1
  pub lock_r : (S'.core r).lock ≤ 1
  pub balance : (h : ℕ) → (S'.core h).lock + times g h ≡ (S.core h).lock + carriers new h
  pub keeps : Keeps S S' is
  pub idle : All (λ h. (S'.core h).lock ≡ 0 → Idle S' h) is
  pub fresh : All (Loc S') new
  pub fwd_r : INSIDE ≤ (S'.core r).state → (S'.core r).state ≤ LEAVING → Fwd S' r
  pub fwd_to : (h : ℕ) → h ≢ r → S.succ h ≡ r → INSIDE ≤ (S.core h).state → (S.core h).state ≤ LEAVING → Fwd S h → Fwd S' h
  pub flags_r : Flags (S'.core r)
  pub member : (h : ℕ) → Member (S'.core h) (S'.led h)
  pub next : (h : ℕ) → INSIDE ≤ (S'.core h).state → S'.led h ≡ 1 → PredL n id S'.led (S'.core h).pred h
  pub entry : (a t p : ℕ) → Mem (join_point a t p) (R ++ new) → PredL n id S'.led p a
  pub way_r : (y : ℕ) (v : List Msg) → Way S r y v → Way S' r y (v ++ new)
  pub joins : (a t p : ℕ) → Mem (join_point a t p) new → t ≡ r
  pub fifo : Fifo S' new
  pub below_r : JOINING ≤ (S'.core r).state → r < c

module _ {n : ℕ} {id : ℕ → ℕ} {c : ℕ} {S S' : Hubs} {g is : List ℕ} {R new : List Msg} {r : ℕ} (i : Inv n id c S g R) (d : Change n id c S S' g is R new r) where
  others : (m : Msg) → Mem m R → All (Off is) (owners m)
  others m k = go (owners m) (λ h. carriers_mem m R h k)
    where
      go : (l : List ℕ) → ((h : ℕ) → times l h ≤ carriers R h) → All (Off is) l
      go [] f = tt
      go (x ∷ l) f = (
        off_of is x (omega (arith, d.apart x, f x, times_in (x ∷ l) x (inl refl))),
        go l (λ h. omega (arith, f h)),
      )

  fwd_all : (h : ℕ) → INSIDE ≤ (S'.core h).state → (S'.core h).state ≤ LEAVING → Fwd S' h
  fwd_all = by_row r d.fwd_r λ h ne l u.
      let e = d.off h ne in
      let l' : INSIDE ≤ (S.core h).state = rw e at l in
      let u' : (S.core h).state ≤ LEAVING = rw e at u in
      go h ne l' u' (ℕ_discrete (S.succ h) r) (i.fwd h l' u')
    where
      go : (h : ℕ) → h ≢ r → INSIDE ≤ (S.core h).state → (S.core h).state ≤ LEAVING → Dec (S.succ h ≡ r) → Fwd S h → Fwd S' h
      go h ne l u (yes e) f = d.fwd_to h ne e l u f
      go h ne l u (no e) f =
          let es = d.offs h ne in
          let ec : S'.core (S'.succ h) ≡ S.core (S.succ h) = rw es (d.off (S.succ h) e) in
          record {
            low = rw ec f.low;
            high = rw ec f.high;
            knows = rw ec (λ x. f.knows (d.ledup h l x));
          }

  way_all : (x y : ℕ) (v : List Msg) → Way S x y v → Way S' x y (v ++ new)
  way_all x y v = go (ℕ_discrete x r)
    where
      go : Dec (x ≡ r) → Way S x y v → Way S' x y (v ++ new)
      go (yes e) w = subst (λ z. Way S' z y (v ++ new)) (sym e) (d.way_r y v (subst (λ z. Way S z y v) e w))
      go (no e) (inl k) = inl (closed_grow new k)
      go (no e) (inr (inl k)) =
          let ec = d.off x e in
          inr (inl (record { low = rw ec k.low; high = rw ec k.high; at = d.offs x e ∙ k.at }))
      go (no e) (inr (inr k)) =
          let ec = d.off x e in
          inr (inr (record { flag = rw ec k.flag; pred = rw ec k.pred; entered = λ p m. absurd (ent p (mem_split (join_point y x p) v new m)) }))
        where
          ent : (p : ℕ) → Mem (join_point y x p) v ⊎ Mem (join_point y x p) new → ⊥
          ent p (inl m) = k.entered p m
          ent p (inr m) = e (d.joins y x p m)

  pub change : Inv n id c S' [] (R ++ new)
  change = record {
    one = by_row r d.lock_r (λ h ne. rw (d.off h ne) (i.one h));
    count = λ h. omega (arith, d.balance h, i.count h, carriers_append R new h);
    idle = λ h e. idle' h e (off_or_in is h);
    loc = λ m k. loc' m (mem_split m R new k);
    fwd = fwd_all;
    flags = by_row r d.flags_r (λ h ne. rw (d.off h ne) (i.flags h));
    member = d.member;
    next = d.next;
    entry = d.entry;
    fifo = way_add S S' new way_all d.fifo R i.fifo;
    below = by_row r d.below_r (λ h ne l. i.below h (rw (d.off h ne) at l));
  }
    where
      idle' : (h : ℕ) → (S'.core h).lock ≡ 0 → Off is h ⊎ Mem h is → Idle S' h
      idle' h e (inl o) = keep_idle d.keeps h o (i.idle h (sym (ap (λ x. x.lock) (d.keeps.core h o)) ∙ e))
      idle' h e (inr m) = all_mem (λ h. (S'.core h).lock ≡ 0 → Idle S' h) is d.idle h m e

      loc' : (m : Msg) → Mem m R ⊎ Mem m new → Loc S' m
      loc' m (inl k) = frame d.keeps m (others m k) (i.loc m k)
      loc' m (inr k) = all_mem (Loc S') new d.fresh m k
