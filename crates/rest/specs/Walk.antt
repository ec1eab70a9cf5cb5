-- Following succ, where succ leads from each member of the ledger to the next: the roll is the members, clockwise from the start. Assumes nothing.
use Rattle.std.specs.Prelude.{◌≡◌, ◌⊎◌, ◌≢◌, List, [], ◌∷◌, ◌≤◌, ◌<◌, nat_le, nat_eq, not, T, length}
use Rattle.std.proofs.Common.{sym, ◌∙◌, ap, subst, inl, inr, arith, eqb→eq, leb→le, le→leb, T_not}
use Rattle.std.proofs.Math.Path.{refl}
use Prim.Native.Nat.{ℕ, zero, suc}
use Rattle.std.proofs.Math.Decide.{dec_le, dec_lt}
use Rattle.clockwise.specs.Clockwise.{dist}
use Rattle.clockwise.specs.Laws.{In, dist_inj, dist_self}
use Rattle.lists.specs.Basics.{Mem, All}
use Rattle.lists.specs.Choice.{choose, passes}
use Rattle.lists.specs.Sums.{bit, total, total_lt, total_most}
use Rattle.lists.specs.Tests.{→eqb}
use Rattle.protocol.specs.Record.{none, State, row}
use Rattle.protocol.specs.Calls.{Traversal, complete, followed_by, roll}
use Rattle.atomicity.specs.Neighbours.{PredL}
use Rattle.rest.specs.Arcs.{further, in_leg, in_rest}
use Rattle.rest.specs.Rising.{Rising}

-- how far a hub is from the start
abbrev pub far : ℕ → (ℕ → ℕ) → ℕ → ℕ → ℕ
far n id start x = dist n (id start) (id x)

-- The roll from x on: x and then list, members only, ever further from the start, all of them that are no nearer than x, at most so many.
pub record Walked (n : ℕ) (id led : ℕ → ℕ) (start left x : ℕ) (t : Traversal) : Type 0 where
  pub list : List ℕ
  pub is : t ≡ complete (x ∷ list)
  pub members : All (λ m. led m ≡ 1) (x ∷ list)
  pub rising : Rising (far n id start) (x ∷ list)
  pub all : (m : ℕ) → led m ≡ 1 → far n id start x ≤ far n id start m → Mem m (x ∷ list)
  pub size : length (x ∷ list) ≤ left

module _ (n : ℕ) (id led : ℕ → ℕ) (c : ℕ) (s : State) (small : (h : ℕ) → id h < n) (inj : (a b : ℕ) → a < c → b < c → id a ≡ id b → a ≡ b)
    (below : (h : ℕ) → led h ≡ 1 → h < c) (few : c ≤ none)
    (member : (h : ℕ) → led h ≡ 1 → led (row s h).succ ≡ 1) (next : (h : ℕ) → led h ≡ 1 → PredL n id led h (row s h).succ)
    (start : ℕ) (ls : led start ≡ 1) where
  abbrev way : ℕ → ℕ
  way x = far n id start x

  -- how many hubs are no nearer than x: as many as can still follow
  abbrev counts : ℕ → ℕ → ℕ
  counts x i = bit (nat_le (way x) (way i))

  abbrev left_from : ℕ → ℕ
  left_from x = total (counts x) c

  itself : (x : ℕ) → counts x x ≡ 1
  itself x = passes (λ z. z ≡ 1) (nat_le (way x) (way x)) 1 0 (le→leb (way x) (way x) (omega arith)) refl

  fewer : (x y i : ℕ) → way x ≤ way y → counts y i ≤ counts x i
  fewer x y i l =
      choose (λ z. z ≤ counts x i) (nat_le (way y) (way i)) 1 0
      (λ t. omega (arith, passes (λ (z : ℕ). z ≡ 1) (nat_le (way x) (way i)) 1 0 (le→leb (way x) (way i) (omega (arith, leb→le (way y) (way i) t))) refl))
      (λ _. omega arith)

  nearer : (x y : ℕ) → way x < way y → counts y x ≡ 0
  nearer x y l = choose (λ z. z ≡ 0) (nat_le (way y) (way x)) 1 0 (λ t. absurd (omega (arith, leb→le (way y) (way x) t))) (λ _. refl)

  some_left : (x : ℕ) → led x ≡ 1 → 1 ≤ left_from x
  some_left x l =
      let k : total (λ _. 0) c < left_from x = total_lt (λ _. 0) (counts x) c x (below x l) (λ j b. omega arith) (omega (arith, itself x)) in omega arith

  fewer_left : (x y : ℕ) → led x ≡ 1 → way x < way y → left_from y < left_from x
  fewer_left x y l u = total_lt (counts y) (counts x) c x (below x l) (λ j b. fewer x y j (omega arith)) (omega (arith, nearer x y u, itself x))

  -- two members equally far are one
  same : (x m : ℕ) → led x ≡ 1 → led m ≡ 1 → way x ≡ way m → m ≡ x
  same x m lx lm e = sym (inj x m (below x lx) (below m lm) (dist_inj n (id start) (id x) (id m) (small start) (small x) (small m) e))

  -- the last hub of the roll: its succ is the start
  last : (left x : ℕ) → led x ≡ 1 → (row s x).succ ≡ start → Walked n id led start (suc left) x (complete (x ∷ []))
  last left x lx e = record {
    list = [];
    is = refl;
    members = (lx, tt);
    rising = (tt, tt);
    all = λ m lm u. inl (go m lm (dec_lt (way x) (way m)) u);
    size = omega arith;
  }
    where
      go : (m : ℕ) → led m ≡ 1 → Dec (way x < way m) → way x ≤ way m → m ≡ x
      go m lm (no k) u = same x m lx lm (omega arith)
      go m lm (yes k) u =
          let i : m ≡ (row s x).succ =
          (next x lx).only m lm (subst (λ z. In n (id x) (id z) (id m)) (sym e) (in_rest n (id start) (id x) (id m) (small start) (small x) (small m) k)) in
          absurd (omega (arith, ap way (i ∙ e), dist_self n (id start) (small start)))

  -- a hub that is followed by the roll of its succ
  module _ (left x : ℕ) (lx : led x ≡ 1) (ne : (row s x).succ ≢ start) where
    abbrev y : ℕ
    y = (row s x).succ

    passed : In n (id x) (id y) (id start) → ⊥
    passed i = ne (sym ((next x lx).only start ls i))

    onward : way x < way y
    onward = further n (id start) (id x) (id y) (small start) (small x) (small y) passed

    above : (l : List ℕ) → All (λ z. way y < way z) l → All (λ z. way x < way z) l
    above [] a = tt
    above (z ∷ l) a = (omega (arith, onward, a.0), above l a.1)

    -- no member lies between
    between : (m : ℕ) → led m ≡ 1 → way x ≤ way m → (m ≡ x) ⊎ (way y ≤ way m)
    between m lm u = go (dec_lt (way x) (way m)) (dec_le (way y) (way m))
      where
        go : Dec (way x < way m) → Dec (way y ≤ way m) → (m ≡ x) ⊎ (way y ≤ way m)
        go _ (yes k) = inr k
        go (no k) (no j) = inl (same x m lx lm (omega arith))
        go (yes k) (no j) =
            let i : m ≡ y = (next x lx).only m lm (in_leg n (id start) (id x) (id y) (small start) (small x) (small y) passed (id m) (small m) k (omega arith)) in
            inr (omega (arith, ap way i))

    before : (t : Traversal) → Walked n id led start left y t → Walked n id led start (suc left) x (followed_by x t)
    before t r = record {
      list = y ∷ r.list;
      is = ap (followed_by x) r.is;
      members = (lx, r.members);
      rising = ((onward, above r.list r.rising.0), r.rising);
      all = λ m lm u. elim (between m lm u) [ inl e ↦ inl e | inr k ↦ inr (r.all m lm k) ];
      size = omega (arith, r.size);
    }

  rolls : (left x : ℕ) → led x ≡ 1 → left_from x ≤ left → Walked n id led start left x (roll s start left x)
  unfolding roll
  rolls zero x lx k = absurd (omega (arith, some_left x lx))
  rolls (suc left) x lx k =
      choose (Walked n id led start (suc left) x) (nat_eq (row s x).succ start) _ _ (λ t. last left x lx (eqb→eq _ start t))
      (λ t. choose (Walked n id led start (suc left) x) (nat_eq (row s x).succ none) _ _
      (λ e. absurd (omega (arith, eqb→eq (row s x).succ none e, below (row s x).succ (member x lx))))
      (λ _. before left x lx (other t) _ (rolls left (row s x).succ (member x lx) (omega (arith, fewer_left x (row s x).succ lx (onward left x lx (other t)))))))
    where
      other : T (not (nat_eq (row s x).succ start)) → (row s x).succ ≢ start
      other t e = T_not (nat_eq (row s x).succ start) t (→eqb _ start e)

  pub roll_from : Walked n id led start c start (roll s start c start)
  roll_from = rolls c start ls (omega (arith, total_most (counts start) 1 c (λ i. choose (λ z. z ≤ 1) (nat_le (way start) (way i)) 1 0 (λ _. omega arith) (λ _. omega arith))))
