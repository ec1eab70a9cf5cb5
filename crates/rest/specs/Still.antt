-- The invariant where no message waits: no lock is taken, every hub is outside or inside, and succ and pred go along the ledger. Assumes nothing.
use Rattle.std.specs.Prelude.{◌≡◌, ◌⊎◌, ℕ, ◌≤◌, ◌<◌}
use Rattle.std.proofs.Common.{sym, subst, inl, inr, arith}
use Rattle.std.proofs.Math.Path.{refl}
use Rattle.std.proofs.Math.Decide.{ℕ_discrete}
use mathlib.Core.List.{[]}
use Rattle.clockwise.specs.Laws.{In, in_whole, cover}
use Rattle.protocol.specs.Names.{OUTSIDE, INSIDE}
use Rattle.atomicity.specs.Neighbours.{Owner, PredL, owner_of}
use Rattle.atomicity.specs.Invariant.{Hubs, Linked, Idle, Fwd, Inv}
use Rattle.rest.specs.Arcs.{after, after_lt, in_after, nearer_end}

module _ (n : ℕ) (id : ℕ → ℕ) (small : (h : ℕ) → id h < n) {c : ℕ} {S : Hubs} (I : Inv n id c S [] []) where
  pub free : (h : ℕ) → (S.core h).lock ≡ 0
  free h = omega (arith, I.count h)

  idle : (h : ℕ) → Idle S h
  idle h = I.idle h (free h)

  pub in_or_out : (h : ℕ) → ((S.core h).state ≡ OUTSIDE) ⊎ ((S.core h).state ≡ INSIDE)
  in_or_out h = elim (idle h) [ inl e ↦ inl e | inr x ↦ inr x.state ]

  pub unflagged : (h : ℕ) → (S.core h).flag ≡ 0
  unflagged h = elim (I.flags h) [ inl e ↦ e | inr e ↦ elim (idle h) [ inl z ↦ absurd (omega arith) | inr x ↦ x.flag ] ]

  -- who is in the ring is linked, and who is linked is a member; a member is in the ring
  linked : (h : ℕ) → INSIDE ≤ (S.core h).state → Linked S h INSIDE
  linked h l = elim (idle h) [ inl e ↦ absurd (omega arith) | inr x ↦ x ]

  pub member_of : (h : ℕ) → INSIDE ≤ (S.core h).state → S.led h ≡ 1
  member_of h l = (I.member h).inside l (omega (arith, (linked h l).state))

  pub inside : (h : ℕ) → S.led h ≡ 1 → (S.core h).state ≡ INSIDE
  inside h e = elim (in_or_out h) [ inl z ↦ absurd (omega (arith, (I.member h).out z)) | inr z ↦ z ]

  -- a member's pred, and its succ
  module _ (h : ℕ) (lh : S.led h ≡ 1) where
    here : INSIDE ≤ (S.core h).state
    here = omega (arith, inside h lh)

    pub pred_next : PredL n id S.led (S.core h).pred h
    pred_next = I.next h here lh

    pub succ_pred : S.succ (S.core h).pred ≡ h
    succ_pred = (linked h here).back.at

    forward : Fwd S h
    forward = I.fwd h here (omega (arith, inside h lh))

    pub succ_member : S.led (S.succ h) ≡ 1
    succ_member = member_of (S.succ h) forward.low

    pub pred_succ : (S.core (S.succ h)).pred ≡ h
    pred_succ = elim (forward.knows lh) [ inl e ↦ e | inr w ↦ absurd (omega (arith, w.0, unflagged (S.succ h))) ]

    pub succ_next : PredL n id S.led h (S.succ h)
    succ_next = subst (λ p. PredL n id S.led p (S.succ h)) pred_succ (I.next (S.succ h) forward.low succ_member)

    -- succ is the ledger's owner of the number after the hub's own
    pub succ_owner : 2 ≤ n → Owner n id S.led (after n (id h)) (S.succ h)
    succ_owner l =
        owner_of n id small (after n (id h)) (after_lt n (id h) (omega arith)) succ_member succ_next
        (in_after n (id h) (id (S.succ h)) (small h) (small (S.succ h)) l)

  -- the ledger's owner of a number has it in its range
  pub owner_covers : (v k : ℕ) → v < n → Owner n id S.led v k → In n (id (S.core k).pred) (id k) v
  owner_covers v k lv o = go (ℕ_discrete (id k) (id p)) (cover n (id k) (id p) (id k) v (small k) (small p) (small k) lv (in_whole n (id k) (id k) v refl))
    where
      p : ℕ
      p = (S.core k).pred

      go : Dec (id k ≡ id p) → In n (id k) (id p) v ⊎ In n (id p) (id k) v → In n (id p) (id k) v
      go _ (inr i) = i
      go (yes e) (inl i) = in_whole n (id p) (id k) v (sym e)
      go (no e) (inl i) = absurd (omega (arith, nearer_end n (id k) (id p) v (small k) (small p) lv e i, o.least p (pred_next k o.member).member))
