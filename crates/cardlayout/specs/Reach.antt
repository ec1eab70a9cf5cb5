-- How far a member's numbers reach back, among marked hubs: h owns v exactly where v is no farther from h than that. And who owns a number
-- after a hub is marked, or its mark is taken away. Assumes nothing.
use Rattle.std.specs.Prelude.{◌≡◌, refl, ◌⊎◌, ◌≢◌, List, ℕ, zero, suc, ◌+◌, ◌-◌, ◌≤◌, ◌<◌, nat_le, nat_eq, length, get_or, set}
use Rattle.std.proofs.Common.{sym, ◌∙◌, subst, inl, inr, add-one, arith, leb→le, length-set, get_or-set_same, get_or-set_other}
use Rattle.std.proofs.Math.Path.{ap}
use Rattle.std.proofs.Math.Decide.{dec_le, ℕ_discrete}
use Rattle.std.proofs.Math.Dec.{nleb→lt, eqb→eq, T_not}
use Rattle.clockwise.specs.Clockwise.{dist}
use Rattle.clockwise.specs.Laws.{dist_lt, dist_pos, tri}
use Rattle.lists.specs.Basics.{when◌then◌else◌, Mem}
use Rattle.lists.specs.Choice.{choose}
use Rattle.lists.specs.Tests.{→eqb}
use Rattle.protocol.specs.Record.{round}
use Rattle.protocol.specs.Cards.{marked, home}
use Rattle.layout.specs.Owners.{Owns, has_owner, Names, owner_is}
use Rattle.cardlayout.specs.Marks.{home_is, Marked, mem_marked, marked_mem}

-- the greatest number of 32 bits
abbrev pub top : ℕ
top = 4294967295

-- How far b's numbers reach back if a comes before it: one less than the distance; all the way round where a is b.
unfoldable pub gap : ℕ → ℕ → ℕ
gap a b = when nat_eq a b then top else dist round a b - 1

-- The least of top and f 0, f 1, .., n of them.
unfoldable pub least : (ℕ → ℕ) → ℕ → ℕ
least f zero = top
least f (suc n) = when nat_le (least f n) (f n) then least f n else f n

pub least_none : (f : ℕ → ℕ) → least f 0 ≡ top
unfolding least
least_none f = refl

pub least_more : (f : ℕ → ℕ) (i : ℕ) → least f (i + 1) ≡ (when nat_le (least f i) (f i) then least f i else f i)
unfolding least
least_more f i = ap (least f) (add-one i)

pub least_says : (f : ℕ → ℕ) (n x : ℕ) → x ≤ least f n → (x ≤ top) × ((i : ℕ) → i < n → x ≤ f i)
unfolding least
least_says f zero x = λ l. (l, λ i h. absurd (omega arith))
least_says f (suc n) x =
    choose (λ z. x ≤ z → (x ≤ top) × ((i : ℕ) → i < suc n → x ≤ f i)) (nat_le (least f n) (f n)) (least f n) (f n)
    (λ t l. let r = least_says f n x l in (r.0, λ i h. go i h r.1 (omega (arith, leb→le (least f n) (f n) t))))
    (λ t l. let r = least_says f n x (omega (arith, nleb→lt (least f n) (f n) t)) in (r.0, λ i h. go i h r.1 l))
  where
    go : (i : ℕ) → i < suc n → ((i : ℕ) → i < n → x ≤ f i) → x ≤ f n → x ≤ f i
    go i h r l = elim (dec_le n i) [ yes k ↦ (let e : i ≡ n = omega arith in omega (arith, ap f e)) | no k ↦ r i (omega arith) ]

pub says_least : (f : ℕ → ℕ) (n x : ℕ) → x ≤ top → ((i : ℕ) → i < n → x ≤ f i) → x ≤ least f n
unfolding least
says_least f zero x l g = l
says_least f (suc n) x l g =
    choose (λ z. x ≤ z) (nat_le (least f n) (f n)) (least f n) (f n) (λ _. says_least f n x l (λ i h. g i (omega arith))) (λ _. g n (omega arith))

-- What a hub's reach is the least of: the gap to each marked hub, and top for the others.
unfoldable pub gap_to : List ℕ → List ℕ → ℕ → ℕ → ℕ
gap_to ids marks h m = when nat_eq (get_or marks m 0) 1 then gap (get_or ids m 0) (get_or ids h 0) else top

unfoldable pub reach : List ℕ → List ℕ → ℕ → ℕ
reach ids marks h = least (gap_to ids marks h) (length marks)

-- Between two numbers: h is no farther from v than m, exactly where v is within the gap before h.
module _ (v h m : ℕ) (lv : v < round) (lh : h < round) (lm : m < round) where
  pub within_gap : dist round v h ≤ dist round v m → dist round v h ≤ gap m h
  unfolding gap
  within_gap l = choose (λ z. dist round v h ≤ z) (nat_eq m h) top (dist round m h - 1)
      (λ _. omega (arith, dist_lt round v h lv))
      (λ t. go (λ e. T_not (nat_eq m h) t (→eqb m h e)) (tri round v m h lv lm lh))
    where
      go : m ≢ h → (dist round v m + dist round m h ≡ dist round v h) ⊎ (dist round v m + dist round m h ≡ dist round v h + round) → dist round v h ≤ dist round m h - 1
      go ne (inl e) = omega (arith, dist_pos round m h lm lh ne)
      go ne (inr e) = omega (arith, dist_lt round v m lv)

  pub gap_within : dist round v h ≤ gap m h → dist round v h ≤ dist round v m
  unfolding gap
  gap_within = choose (λ z. dist round v h ≤ z → dist round v h ≤ dist round v m) (nat_eq m h) top (dist round m h - 1)
      (λ t _. let e = eqb→eq m h t in omega (arith, ap (dist round v) e))
      (λ t l. go (λ e. T_not (nat_eq m h) t (→eqb m h e)) l (tri round v m h lv lm lh))
    where
      go : m ≢ h → dist round v h ≤ dist round m h - 1 → (dist round v m + dist round m h ≡ dist round v h) ⊎ (dist round v m + dist round m h ≡ dist round v h + round) → dist round v h ≤ dist round v m
      go ne l (inl e) = omega (arith, dist_pos round m h lm lh ne)
      go ne l (inr e) = omega (arith, dist_lt round m h lm)

-- A ring's identifiers, marks of some of its hubs.
module _ (ids marks : List ℕ) (N : Names ids) (below : (h : ℕ) → Marked marks h → h < length ids) where
  abbrev id : ℕ → ℕ
  id h = get_or ids h 0

  abbrev members : List ℕ
  members = marked marks

  under : (h : ℕ) → Mem h members → h < length ids
  under h i = below h (mem_marked marks h i)

  -- h owns v where v is within its reach, and the other way round
  pub reach_owns : (h v : ℕ) → v < round → Marked marks h → dist round v (id h) ≤ reach ids marks h → Owns ids members v h
  unfolding reach gap_to
  reach_owns h v lv m l =
      owner_is ids members N under v h lv (marked_mem marks h m)
      (λ k i. let q = mem_marked marks k i in
      gap_within v (id h) (id k) lv (N.small h) (N.small k)
      (choose (λ z. dist round v (id h) ≤ z → dist round v (id h) ≤ gap (id k) (id h)) (nat_eq (get_or marks k 0) 1) (gap (id k) (id h)) top
      (λ _ p. p) (λ t _. absurd (T_not (nat_eq (get_or marks k 0) 1) t (→eqb _ 1 q.at)))
      ((least_says (gap_to ids marks h) (length marks) (dist round v (id h)) l).1 k q.below)))

  pub owns_reach : (h v : ℕ) → v < round → ((k : ℕ) → Marked marks k → dist round v (id h) ≤ dist round v (id k)) → dist round v (id h) ≤ reach ids marks h
  unfolding reach gap_to
  owns_reach h v lv o =
      says_least (gap_to ids marks h) (length marks) (dist round v (id h)) (omega (arith, dist_lt round v (id h) lv))
      (λ k l. choose (λ z. dist round v (id h) ≤ z) (nat_eq (get_or marks k 0) 1) (gap (id k) (id h)) top
      (λ t. within_gap v (id h) (id k) lv (N.small h) (N.small k) (o k (record { below = l; at = eqb→eq _ 1 t })))
      (λ _. omega (arith, dist_lt round v (id h) lv)))

  -- the owner among them, where there is one
  pub owner_of : (m v : ℕ) → Marked marks m → (o : ℕ) × Owns ids members v o
  owner_of m v k = has_owner ids v members m (marked_mem marks m k)

-- one mark changed
pub set_same : (marks : List ℕ) (h x : ℕ) → h < length marks → get_or (set marks h x) h 0 ≡ x
set_same marks h x l = get_or-set_same marks h x 0 l

module _ (marks : List ℕ) (h x m : ℕ) (ne : m ≢ h) where
  pub set_marked : Marked marks m → Marked (set marks h x) m
  set_marked k = record { below = omega (arith, k.below, length-set marks h x); at = get_or-set_other marks h m x 0 ne ∙ k.at }

  pub marked_set : Marked (set marks h x) m → Marked marks m
  marked_set k = record { below = omega (arith, k.below, length-set marks h x); at = sym (get_or-set_other marks h m x 0 ne) ∙ k.at }

pub set_on : (marks : List ℕ) (h : ℕ) → h < length marks → Marked (set marks h 1) h
set_on marks h l = record { below = omega (arith, length-set marks h 1); at = set_same marks h 1 l }

pub set_off : (marks : List ℕ) (h : ℕ) → Marked (set marks h 0) h → ⊥
set_off marks h k = omega (arith, k.at, set_same marks h 0 (omega (arith, k.below, length-set marks h 0)))

module _ (ids marks : List ℕ) (N : Names ids) (below : (h : ℕ) → Marked marks h → h < length ids) (h : ℕ) (lh : h < length ids) (lm : h < length marks) where
  abbrev name : ℕ → ℕ
  name k = get_or ids k 0

  pub below_on : (k : ℕ) → Marked (set marks h 1) k → k < length ids
  below_on k m = elim (ℕ_discrete k h) [ yes e ↦ omega (arith, e) | no e ↦ below k (marked_set marks h 1 k e m) ]

  pub below_off : (k : ℕ) → Marked (set marks h 0) k → k < length ids
  below_off k m = elim (ℕ_discrete k h) [ yes e ↦ omega (arith, e) | no e ↦ below k (marked_set marks h 0 k e m) ]

  -- h is marked: its numbers go to it, the others stay
  pub home_on : (v m : ℕ) → v < round → Marked marks m
      → home ids (marked (set marks h 1)) v ≡ (when nat_le (dist round v (name h)) (reach ids (set marks h 1) h) then h else home ids (marked marks) v)
  home_on v m lv k = choose (λ z. home ids (marked (set marks h 1)) v ≡ z) (nat_le (dist round v (name h)) (reach ids (set marks h 1) h)) h (home ids (marked marks) v)
      (λ t. home_is (reach_owns ids (set marks h 1) N below_on h v lv (set_on marks h lm) (leb→le _ _ t)))
      (λ t. let o = owner_of ids marks N below m v k in stays o.0 o.1 (nleb→lt _ _ t))
    where
      stays : (o : ℕ) → Owns ids (marked marks) v o → reach ids (set marks h 1) h < dist round v (name h) → home ids (marked (set marks h 1)) v ≡ home ids (marked marks) v
      stays o w l = home_is (owner_is ids (marked (set marks h 1)) N (λ x i. below_on x (mem_marked _ x i)) v o lv (marked_mem _ o mo) (λ x i. nearest x (mem_marked _ x i) (ℕ_discrete x h))) ∙ sym (home_is w)
        where
          old : (x : ℕ) → Marked marks x → dist round v (name o) ≤ dist round v (name x)
          old x i = w.least x (marked_mem marks x i)

          mo : Marked (set marks h 1) o
          mo = elim (ℕ_discrete o h) [ yes e ↦ subst (Marked (set marks h 1)) (sym e) (set_on marks h lm) | no e ↦ set_marked marks h 1 o e (mem_marked marks o w.member) ]

          closer : dist round v (name h) < dist round v (name o) → (x : ℕ) → Marked (set marks h 1) x → dist round v (name h) ≤ dist round v (name x)
          closer q x i = elim (ℕ_discrete x h) [ yes e ↦ omega (arith, ap (λ z. dist round v (name z)) e) | no e ↦ omega (arith, old x (marked_set marks h 1 x e i)) ]

          far : Dec (dist round v (name o) ≤ dist round v (name h)) → dist round v (name o) ≤ dist round v (name h)
          far (yes q) = q
          far (no q) = absurd (omega (arith, owns_reach ids (set marks h 1) N below_on h v lv (closer (omega arith))))

          nearest : (x : ℕ) → Marked (set marks h 1) x → Dec (x ≡ h) → dist round v (name o) ≤ dist round v (name x)
          nearest x i (yes e) = subst (λ z. dist round v (name o) ≤ dist round v (name z)) (sym e) (far (dec_le _ _))
          nearest x i (no e) = old x (marked_set marks h 1 x e i)

  -- the mark of h is taken away: its numbers go to whoever owns its own number then, the others stay
  pub home_off : (v m : ℕ) → v < round → Marked marks h → Marked (set marks h 0) m
      → home ids (marked (set marks h 0)) v
      ≡ (when nat_le (dist round v (name h)) (reach ids marks h) then home ids (marked (set marks h 0)) (name h) else home ids (marked marks) v)
  home_off v m lv kh k = choose (λ z. home ids (marked (set marks h 0)) v ≡ z) (nat_le (dist round v (name h)) (reach ids marks h)) (home ids (marked (set marks h 0)) (name h)) (home ids (marked marks) v)
      (λ t. let o = owner_of ids (set marks h 0) N below_off m (name h) k in goes o.0 o.1 (reach_owns ids marks N below h v lv kh (leb→le _ _ t)))
      (λ t. let o = owner_of ids marks N below h v kh in stays o.0 o.1 (nleb→lt _ _ t))
    where
      was : (x : ℕ) → Marked (set marks h 0) x → Marked marks x
      was x i = elim (ℕ_discrete x h) [ yes e ↦ absurd (set_off marks h (subst (Marked (set marks h 0)) e i)) | no e ↦ marked_set marks h 0 x e i ]

      goes : (o : ℕ) → Owns ids (marked (set marks h 0)) (name h) o → Owns ids (marked marks) v h → home ids (marked (set marks h 0)) v ≡ home ids (marked (set marks h 0)) (name h)
      goes o w u = home_is (owner_is ids (marked (set marks h 0)) N (λ x i. below_off x (mem_marked _ x i)) v o lv w.member nearest) ∙ sym (home_is w)
        where
          legs : (x : ℕ) → Mem x (marked (set marks h 0)) → dist round v (name h) + dist round (name h) (name x) ≡ dist round v (name x)
          legs x i = go (tri round v (name h) (name x) lv (N.small h) (N.small x)) (u.least x (marked_mem marks x (was x (mem_marked _ x i)))) (dist_lt round (name h) (name x) (N.small h))
            where
              go : (dist round v (name h) + dist round (name h) (name x) ≡ dist round v (name x)) ⊎ (dist round v (name h) + dist round (name h) (name x) ≡ dist round v (name x) + round)
                  → dist round v (name h) ≤ dist round v (name x) → dist round (name h) (name x) < round
                  → dist round v (name h) + dist round (name h) (name x) ≡ dist round v (name x)
              go (inl e) a b = e
              go (inr e) a b = absurd (omega arith)

          nearest : (x : ℕ) → Mem x (marked (set marks h 0)) → dist round v (name o) ≤ dist round v (name x)
          nearest x i = omega (arith, legs o w.member, legs x i, w.least x i)

      stays : (o : ℕ) → Owns ids (marked marks) v o → reach ids marks h < dist round v (name h) → home ids (marked (set marks h 0)) v ≡ home ids (marked marks) v
      stays o w l = home_is (owner_is ids (marked (set marks h 0)) N (λ x i. below_off x (mem_marked _ x i)) v o lv (marked_mem _ o mo) (λ x i. w.least x (marked_mem marks x (was x (mem_marked _ x i))))) ∙ sym (home_is w)
        where
          old : (x : ℕ) → Marked marks x → dist round v (name o) ≤ dist round v (name x)
          old x i = w.least x (marked_mem marks x i)

          oh : o ≢ h
          oh e = omega (arith, owns_reach ids marks N below h v lv (subst (λ z. (x : ℕ) → Marked marks x → dist round v (name z) ≤ dist round v (name x)) e old))

          mo : Marked (set marks h 0) o
          mo = set_marked marks h 0 o oh (mem_marked marks o w.member)
