-- The ledger, a set of hubs (led h is 1 for a member, 0 for the others), and what it is to be next on the circle.
-- n is the modulus, id the hubs' identifiers.
use Rattle.std.specs.Prelude.{◌≡◌, ◌⊎◌, ◌≢◌, ℕ, ◌≤◌, ◌<◌}
use Rattle.std.proofs.Common.{sym, ◌∙◌, ap, subst, inl, inr, arith}
use Rattle.std.proofs.Math.Decide.{dec_le, ℕ_discrete}
use Rattle.clockwise.specs.Clockwise.{dist}
use Rattle.clockwise.specs.Laws.{In, in_nearer, in_start, in_whole, cut_right, cut_left, cut_end, cover, first}

module _ (n : ℕ) (id : ℕ → ℕ) where
  -- h is a member, and no member is nearer to v
  pub record Owner (led : ℕ → ℕ) (v h : ℕ) : Type 0 where
    pub member : led h ≡ 1
    pub least : (m : ℕ) → led m ≡ 1 → dist n v (id h) ≤ dist n v (id m)

  -- p is a member, and of the members only h is in (p, h]
  pub record PredL (led : ℕ → ℕ) (p h : ℕ) : Type 0 where
    pub member : led p ≡ 1
    pub only : (m : ℕ) → led m ≡ 1 → In n (id p) (id h) (id m) → m ≡ h

-- the same ledger, said twice
pub predl_ext : {n : ℕ} {id : ℕ → ℕ} {led led' : ℕ → ℕ} {p h : ℕ} → ((x : ℕ) → led' x ≡ led x) → PredL n id led p h → PredL n id led' p h
predl_ext {p = p} e x = record { member = e p ∙ x.member; only = λ m l. x.only m (sym (e m) ∙ l) }

module _ (n : ℕ) (id : ℕ → ℕ) (small : (h : ℕ) → id h < n) where
  pub owner_of : {led : ℕ → ℕ} {p h : ℕ} (v : ℕ) → v < n → led h ≡ 1 → PredL n id led p h → In n (id p) (id h) v → Owner n id led v h
  owner_of {led} {p} {h} v hv lh pl i = record { member = lh; least = λ m lm. go m lm (dec_le (dist n v (id h)) (dist n v (id m))) }
    where
      go : (m : ℕ) → led m ≡ 1 → Dec (dist n v (id h) ≤ dist n v (id m)) → dist n v (id h) ≤ dist n v (id m)
      go m lm (yes l) = l
      go m lm (no l) =
          let e : m ≡ h = pl.only m lm (in_nearer n (id p) (id h) v (id m) (small p) (small h) hv (small m) i (omega arith)) in
          omega (arith, ap (λ x. dist n v (id x)) e)

  -- one number has one holder
  pub holder_one : {led : ℕ → ℕ} {p h q k : ℕ} (v : ℕ) → v < n → led h ≡ 1 → led k ≡ 1 → PredL n id led p h → PredL n id led q k
      → In n (id p) (id h) v → In n (id q) (id k) v → h ≡ k
  holder_one {led} {p} {h} {q} {k} v hv lh lk ph qk i j = go (dec_le (dist n v (id h)) (dist n v (id k)))
    where
      go : Dec (dist n v (id h) ≤ dist n v (id k)) → h ≡ k
      go (yes l) = qk.only h lh (in_nearer n (id q) (id k) v (id h) (small q) (small k) hv (small h) j l)
      go (no l) = sym (ph.only k lk (in_nearer n (id p) (id h) v (id k) (small p) (small h) hv (small k) i (omega arith)))

  -- one member is next after q
  pub next_one : {led : ℕ → ℕ} {q h t : ℕ} → led h ≡ 1 → led t ≡ 1 → PredL n id led q h → PredL n id led q t → h ≡ t
  next_one {led} {q} {h} {t} lh lt qh qt = go (first n (id q) (id h) (id t) (small q) (small h) (small t))
    where
      go : In n (id q) (id t) (id h) ⊎ In n (id q) (id h) (id t) → h ≡ t
      go (inl i) = qt.only h lh i
      go (inr i) = sym (qh.only t lt i)

  -- with another member about, a member's predecessor is not itself
  pub pred_other : {led : ℕ → ℕ} {p h t : ℕ} → PredL n id led p h → led t ≡ 1 → t ≢ h → p ≢ h
  pred_other {led} {p} {h} {t} ph lt ne e = ne (ph.only t lt (in_whole n (id p) (id h) (id t) (ap id e)))

  -- a enters between p and t
  module _ {led led' : ℕ → ℕ} {p t a : ℕ} (out : led a ≡ 0) (now : led' a ≡ 1) (off : (h : ℕ) → h ≢ a → led' h ≡ led h)
      (lt : led t ≡ 1) (pt : PredL n id led p t) (at : In n (id p) (id t) (id a)) (ne : id a ≢ id t) (nf : id p ≢ id a) where
    was : (m : ℕ) → led' m ≡ 1 → (m ≡ a) ⊎ (led m ≡ 1)
    was m h = elim (ℕ_discrete m a) [ yes e ↦ inl e | no e ↦ inr (sym (off m e) ∙ h) ]

    still : (m : ℕ) → led m ≡ 1 → led' m ≡ 1
    still m h = elim (ℕ_discrete m a) [ yes e ↦ ap led' e ∙ now | no e ↦ off m e ∙ h ]

    pub enter_at : PredL n id led' p a
    enter_at = record { member = still p pt.member; only = λ m lm i. go m i (was m lm) }
      where
        go : (m : ℕ) → In n (id p) (id a) (id m) → (m ≡ a) ⊎ (led m ≡ 1) → m ≡ a
        go m i (inl e) = e
        go m i (inr l) =
            let e : m ≡ t = pt.only m l (cut_left n (id p) (id t) (id a) (id m) nf at i) in
            absurd (ne (cut_end n (id p) (id t) (id a) (small p) (small t) (small a) nf at (subst (λ x. In n (id p) (id a) (id x)) e i)))

    pub enter_before : PredL n id led' a t
    enter_before = record { member = now; only = λ m lm i. go m i (was m lm) }
      where
        go : (m : ℕ) → In n (id a) (id t) (id m) → (m ≡ a) ⊎ (led m ≡ 1) → m ≡ t
        go m i (inl e) = absurd (ne (in_start n (id a) (id t) (small a) (subst (λ x. In n (id a) (id t) (id x)) e i)))
        go m i (inr l) = pt.only m l (cut_right n (id p) (id t) (id a) (id m) (small p) (small t) (small a) (small m) ne at i)

    pub enter_other : {q h : ℕ} → h ≢ t → led h ≡ 1 → PredL n id led q h → PredL n id led' q h
    enter_other {q} {h} ht lh qh = record { member = still q qh.member; only = λ m lm i. go m i (was m lm) }
      where
        go : (m : ℕ) → In n (id q) (id h) (id m) → (m ≡ a) ⊎ (led m ≡ 1) → m ≡ h
        go m i (inl e) = absurd (ht (holder_one (id a) (small a) lh lt qh pt (subst (λ x. In n (id q) (id h) (id x)) e i) at))
        go m i (inr l) = qh.only m l i

  -- q leaves from between p and t
  module _ {led led' : ℕ → ℕ} {p q t : ℕ} (lq : led q ≡ 1) (lt : led t ≡ 1) (now : led' q ≡ 0) (off : (h : ℕ) → h ≢ q → led' h ≡ led h)
      (pq : PredL n id led p q) (qt : PredL n id led q t) (ne : q ≢ t) where
    stayed : (m : ℕ) → led' m ≡ 1 → (m ≢ q) × (led m ≡ 1)
    stayed m h =
        elim (ℕ_discrete m q) [ yes e ↦ absurd (omega (arith, ap led' e)) | no e ↦ (e, sym (off m e) ∙ h) ]

    keep : (m : ℕ) → m ≢ q → led m ≡ 1 → led' m ≡ 1
    keep m e h = off m e ∙ h

    pub leave_before : PredL n id led' p t
    leave_before = record { member = keep p pne pq.member; only = λ m lm i. go m (stayed m lm) (cover n (id p) (id q) (id t) (id m) (small p) (small q) (small t) (small m) i) }
      where
        pne : p ≢ q
        pne e = ne (sym (pq.only t lt (in_whole n (id p) (id q) (id t) (ap id e))))

        go : (m : ℕ) → (m ≢ q) × (led m ≡ 1) → In n (id p) (id q) (id m) ⊎ In n (id q) (id t) (id m) → m ≡ t
        go m s (inl i) = absurd (s.0 (pq.only m s.1 i))
        go m s (inr i) = qt.only m s.1 i

    pub leave_other : {r h : ℕ} → h ≢ t → led h ≡ 1 → PredL n id led r h → PredL n id led' r h
    leave_other {r} {h} ht lh rh = record { member = keep r rne rh.member; only = λ m lm i. rh.only m (stayed m lm).1 i }
      where
        rne : r ≢ q
        rne e = ht (next_one lh lt (subst (λ x. PredL n id led x h) e rh) qt)
