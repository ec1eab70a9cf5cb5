-- A step has to do with the hubs `is`: those whose locks its message carried or that it locks. What it must leave alone
-- at all others, and that the condition of every other message then still holds.
use Rattle.std.specs.Prelude.{◌≡◌, ◌≢◌, List, ℕ, ◌≤◌}
use Rattle.std.proofs.Common.{sym, ◌∙◌, ap, subst, inl, inr, arith}
use Rattle.lists.specs.Basics.{All}
use Rattle.lists.specs.Members.{Off}
use Rattle.atomicity.specs.Invariant.{Hubs, Msg, owners, Points, Plain, Flagged, Linked, Loc, Idle}
use Rattle.atomicity.specs.Invariant.{lookup, join, join_retry, join_point, new_succ, new_succ_ack, join_done}
use Rattle.atomicity.specs.Invariant.{leave_req, leave_retry, leave_grant, leave_point, update_succ, stop_forward, leave_done}
use Rattle.protocol.specs.Names.{INSIDE, LEAVING, WANTING_TO_LEAVE, JOINING}

-- the parts of a message's condition, at rows that are the same in both states
module _ {S S' : Hubs} where
  pub points_at : (p h : ℕ) → S'.core p ≡ S.core p → S'.succ p ≡ S.succ p → Points S p h → Points S' p h
  points_at p h e f x = record { low = rw e x.low; high = rw e x.high; at = f ∙ x.at }

  pub plain_at : (h c p : ℕ) → S'.core h ≡ S.core h → Plain S h c p → Plain S' h c p
  plain_at h c p e x = record { state = rw e x.state; flag = rw e x.flag; pred = rw e x.pred }

  pub flagged_at : (t a p : ℕ) → S'.core t ≡ S.core t → Flagged S t a p → Flagged S' t a p
  flagged_at t a p e x = record { state = rw e x.state; flag = rw e x.flag; pred = rw e x.pred; oldpred = rw e x.oldpred }

  -- h's row the same, and p, h's pred, points to it still
  pub linked_at : (h c : ℕ) → S'.core h ≡ S.core h → Linked S h c → (Points S (S.core h).pred h → Points S' (S.core h).pred h) → Linked S' h c
  linked_at h c e x f = record { state = rw e x.state; flag = rw e x.flag; back = rw e (f x.back) }

pub record Keeps (S S' : Hubs) (is : List ℕ) : Type 0 where
  pub core : (h : ℕ) → Off is h → S'.core h ≡ S.core h
  pub led : (h : ℕ) → Off is h → S'.led h ≡ S.led h
  pub succ : (p : ℕ) → INSIDE ≤ (S.core p).state → (S.core p).state ≤ LEAVING → Off is (S.succ p) → S'.succ p ≡ S.succ p
  pub stay : (p : ℕ) → INSIDE ≤ (S.core p).state → (S.core p).state ≤ WANTING_TO_LEAVE → Off is (S.succ p) → (INSIDE ≤ (S'.core p).state) × ((S'.core p).state ≤ WANTING_TO_LEAVE)
  pub self : (h : ℕ) → Off is h → S.succ h ≢ h → S'.succ h ≢ h

module _ {S S' : Hubs} {is : List ℕ} (k : Keeps S S' is) where
  pub keep_succ : (q t : ℕ) → Off is t → INSIDE ≤ (S.core q).state → (S.core q).state ≤ LEAVING → S.succ q ≡ t → S'.succ q ≡ t
  keep_succ q t o l u e = k.succ q l u (subst (Off is) (sym e) o) ∙ e

  pub keep_points : (p h : ℕ) → Off is h → Points S p h → Points S' p h
  keep_points p h o x =
      let s = k.stay p x.low x.high (subst (Off is) (sym x.at) o) in
      record { low = s.0; high = s.1; at = keep_succ p h o x.low (omega (arith, x.high)) x.at }

  pub keep_plain : (h c p : ℕ) → Off is h → Plain S h c p → Plain S' h c p
  keep_plain h c p o x = plain_at h c p (k.core h o) x

  pub keep_flagged : (t a p : ℕ) → Off is t → Flagged S t a p → Flagged S' t a p
  keep_flagged t a p o x = flagged_at t a p (k.core t o) x

  pub keep_linked : (h c : ℕ) → Off is h → Linked S h c → Linked S' h c
  keep_linked h c o x = linked_at h c (k.core h o) x (keep_points (S.core h).pred h o)

  pub keep_idle : (h : ℕ) → Off is h → Idle S h → Idle S' h
  keep_idle h o (inl e) = inl (ap (λ r. r.state) (k.core h o) ∙ e)
  keep_idle h o (inr x) = inr (keep_linked h INSIDE o x)

  st_keep : (h c : ℕ) → Off is h → (S.core h).state ≡ c → (S'.core h).state ≡ c
  st_keep h c o e = ap (λ r. r.state) (k.core h o) ∙ e

  -- the frame lemma: the condition of a message that has no hub of `is`
  pub frame : (m : Msg) → All (Off is) (owners m) → Loc S m → Loc S' m
  frame (lookup x y v i hops) o l = tt
  frame (join x y a) o l = (st_keep a JOINING o.0 l.0, k.led a o.0 ∙ l.1)
  frame (join_retry x a) o l = (st_keep a JOINING o.0 l.0, k.led a o.0 ∙ l.1)
  frame (join_point a t p) o l = (
    st_keep a JOINING o.0 l.0,
    k.led a o.0 ∙ l.1,
    keep_flagged t a p o.1.0 l.2,
    keep_points p t o.1.0 l.3,
  )
  frame (new_succ a t p) o l = (
    keep_plain a INSIDE p o.0 l.0,
    keep_succ a t o.1.0 (omega (arith, l.0.state)) (omega (arith, l.0.state)) l.1,
    keep_flagged t a p o.1.0 l.2,
    keep_points p t o.1.0 l.3,
  )
  frame (new_succ_ack a t p) o l = (
    keep_plain a INSIDE p o.0 l.0,
    keep_succ a t o.1.0 (omega (arith, l.0.state)) (omega (arith, l.0.state)) l.1,
    keep_flagged t a p o.1.0 l.2,
    keep_points p a o.0 l.3,
  )
  frame (join_done a t) o l = keep_linked a INSIDE o.0 l
  frame (leave_req q y) o l = (keep_linked q WANTING_TO_LEAVE o.0 l.0, k.self q o.0 l.1)
  frame (leave_retry x q) o l = (keep_linked q WANTING_TO_LEAVE o.0 l.0, k.self q o.0 l.1)
  frame (leave_grant q t) o l = (
    keep_linked q WANTING_TO_LEAVE o.0 l.0,
    keep_succ q t o.1.0 (omega (arith, l.0.state)) (omega (arith, l.0.state)) l.1,
    keep_plain t INSIDE q o.1.0 l.2,
  )
  frame (leave_point q t p) o l = (
    keep_plain q LEAVING p o.0 l.0,
    k.led q o.0 ∙ l.1,
    keep_points p q o.0 l.2,
    keep_succ q t o.1.0 (omega (arith, l.0.state)) (omega (arith, l.0.state)) l.3,
    keep_plain t INSIDE q o.1.0 l.4,
  )
  frame (update_succ q t p) o l = (
    keep_plain q LEAVING p o.0 l.0,
    k.led q o.0 ∙ l.1,
    keep_points p q o.0 l.2,
    keep_succ q t o.1.0 (omega (arith, l.0.state)) (omega (arith, l.0.state)) l.3,
    keep_plain t INSIDE p o.1.0 l.4,
  )
  frame (stop_forward q t p) o l = (
    keep_plain q LEAVING p o.0 l.0,
    k.led q o.0 ∙ l.1,
    keep_points p t o.1.0 l.2,
    keep_succ q t o.1.0 (omega (arith, l.0.state)) (omega (arith, l.0.state)) l.3,
    keep_plain t INSIDE p o.1.0 l.4,
  )
  frame (leave_done q t) o l = keep_linked t INSIDE o.0 l
