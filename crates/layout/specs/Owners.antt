-- The owner of a number among members, as document 01 computes it: the member at the least clockwise distance. For every list of members.
-- Assumes nothing.
use Rattle.std.specs.Prelude.{◌≡◌, refl, ℕ, ◌≤◌, ◌<◌, nat_le, length, get_or}
use Rattle.std.proofs.Math.Path.{ap}
use Rattle.std.proofs.Common.{sym, ◌∙◌, subst, arith, leb→le}
use Rattle.std.proofs.Math.Logic.{inl, inr}
use mathlib.Core.List.{List, [], ◌∷◌}
use Rattle.std.proofs.Math.Dec.{nleb→lt}
use Rattle.clockwise.specs.Clockwise.{dist}
use Rattle.clockwise.specs.Laws.{dist_inj}
use Rattle.lists.specs.Basics.{Mem}
use Rattle.lists.specs.Choice.{choose}
use Rattle.protocol.specs.Record.{round}
use Rattle.protocol.specs.Membership.{Owner, nobody, node, nearer, owner_among}
use Rattle.protocol.specs.Cards.{hub_of}

-- h is the owner of v: a member, and none is nearer
pub record Owns (ids members : List ℕ) (v h : ℕ) : Type 0 where
  pub is : owner_among ids members v ≡ node h
  pub member : Mem h members
  pub least : (k : ℕ) → Mem k members → dist round v (get_or ids h 0) ≤ dist round v (get_or ids k 0)

module _ (ids : List ℕ) (v : ℕ) where
  abbrev far : ℕ → ℕ
  far h = dist round v (get_or ids h 0)

  -- one member more
  more : (x : ℕ) (members : List ℕ) (h : ℕ) → Owns ids members v h → (k : ℕ) × Owns ids (x ∷ members) v k
  unfolding owner_among nearer
  more x members h r =
      choose (λ z. nearer ids v x (owner_among ids members v) ≡ z → (k : ℕ) × Owns ids (x ∷ members) v k) (nat_le (far x) (far h)) (node x) (node h)
      (λ t e. (x, record { is = e; member = inl refl; least = λ k. near (leb→le _ _ t) k }))
      (λ t e. (h, record { is = e; member = inr r.member; least = λ k. keep (nleb→lt _ _ t) k }))
      (ap (nearer ids v x) r.is)
    where
      near : far x ≤ far h → (k : ℕ) → Mem k (x ∷ members) → far x ≤ far k
      near l k (inl e) = omega (arith, ap far e)
      near l k (inr i) = omega (arith, r.least k i)

      keep : far h < far x → (k : ℕ) → Mem k (x ∷ members) → far h ≤ far k
      keep l k (inl e) = omega (arith, ap far e)
      keep l k (inr i) = r.least k i

  -- members have an owner
  pub has_owner : (members : List ℕ) (m : ℕ) → Mem m members → (h : ℕ) × Owns ids members v h
  unfolding owner_among nearer
  has_owner [] m i = absurd i
  has_owner (x ∷ []) m i = (x, record { is = refl; member = inl refl; least = λ k. elim [ inl e ↦ omega (arith, ap far e) | inr z ↦ absurd z ] })
  has_owner (x ∷ y ∷ members) m i = let r = has_owner (y ∷ members) y (inl refl) in more x (y ∷ members) r.0 r.1

-- nobody is no hub
IsNode : Owner → Type 0
IsNode = elim [ nobody ↦ ⊥ | node h ↦ Unit {0} ]

-- So what is computed is a member, and none is nearer.
pub owns : (ids : List ℕ) (v : ℕ) (members : List ℕ) (h : ℕ) → owner_among ids members v ≡ node h → Owns ids members v h
unfolding owner_among hub_of IsNode
owns ids v [] h e = absurd (subst IsNode (sym e) tt)
owns ids v (x ∷ members) h e =
    let r = has_owner ids v (x ∷ members) x (inl refl) in
    subst (Owns ids (x ∷ members) v) (ap hub_of (sym r.1.is ∙ e)) r.1

-- The identifiers of a ring: of 32 bits, and no two hubs have the same.
pub record Names (ids : List ℕ) : Type 0 where
  pub small : (h : ℕ) → get_or ids h 0 < round
  pub apart : (a b : ℕ) → a < length ids → b < length ids → get_or ids a 0 ≡ get_or ids b 0 → a ≡ b

-- A member at the least distance is the owner.
pub owner_is : (ids members : List ℕ) → Names ids → ((h : ℕ) → Mem h members → h < length ids) → (v h : ℕ) → v < round → Mem h members
    → ((k : ℕ) → Mem k members → dist round v (get_or ids h 0) ≤ dist round v (get_or ids k 0)) → Owns ids members v h
owner_is ids members N below v h lv m least =
    let r = has_owner ids v members h m in
    let e : r.0 ≡ h =
    N.apart r.0 h (below r.0 r.1.member) (below h m)
    (dist_inj round v (get_or ids r.0 0) (get_or ids h 0) lv (N.small r.0) (N.small h)
    (omega (arith, least r.0 r.1.member, r.1.least h m))) in
    subst (Owns ids members v) e r.1

-- The same members in another list have the same owner.
pub owner_same : (ids members others : List ℕ) → Names ids → ((h : ℕ) → Mem h others → h < length ids)
    → ((h : ℕ) → Mem h members → Mem h others) → ((h : ℕ) → Mem h others → Mem h members)
    → (v h : ℕ) → v < round → Owns ids members v h → Owns ids others v h
owner_same ids members others N below to fro v h lv o = owner_is ids others N below v h lv (to h o.member) (λ k i. o.least k (fro k i))
