-- Do the machines differ? Cards are parted into groups, by one digit of four bits more in each pass. For every list of numbers f. Assumes nothing.
use Rattle.std.specs.Prelude.{◌≡◌, refl, ◌≢◌, Bool, true, false, ◌&&◌, List, get_or, length, set}
use Rattle.std.proofs.Math.Path.{sym, ap}
use Rattle.std.proofs.Common.{◌∙◌, ap₂, true≢false, add-one, length-set, ext_get_or, get_or-set_same, get_or-set_other}
use Prim.Native.Nat.{ℕ, zero, suc, ◌+◌, ◌-◌, ◌*◌, ◌/◌, ◌%◌, ◌^◌, ◌≤◌, ◌<◌}
use Rattle.std.proofs.Math.Decide.{dec_lt, ℕ_discrete}
use Rattle.std.proofs.Math.Numerals.{unary_clauses}
use native.Mathlib.Omega.{arith}
use Rattle.std.proofs.Common.{nat_eq}
use Rattle.std.proofs.Math.Dec.{eqb→eq, T_not}
use Rattle.lists.specs.Basics.{when◌then◌else◌, distinct, table}
use Rattle.lists.specs.Choice.{choose, passes}
use Rattle.lists.specs.Members.{filled}
use Rattle.lists.specs.Tests.{→eqb}
use Rattle.lists.specs.Merge.{merged, merged_each, each_merged, distinct_none}
use Rattle.card_checks.specs.Buckets.{unmet, unmet_yes, unmet_no, distinct_more, distinct_fails}

-- one more than the first place below n at which s is b, or 0
unfoldable pub first_in : (ℕ → ℕ) → ℕ → ℕ → ℕ
first_in s b zero = 0
first_in s b (suc n) = when nat_eq (first_in s b n) 0 then (when nat_eq (s n) b then suc n else 0) else first_in s b n

module _ (s : ℕ → ℕ) (b : ℕ) where
  -- what the first place says
  pub record First (n p : ℕ) : Type 0 where
    pub at : (q : ℕ) → p ≡ suc q → (q < n) × (s q ≡ b)
    pub none : p ≡ 0 → (j : ℕ) → j < n → s j ≢ b

  pub first_says : (n : ℕ) → First n (first_in s b n)
  unfolding first_in
  first_says zero = record { at = λ q e. absurd (omega arith); none = λ e j l. absurd (omega arith) }
  first_says (suc n) = go (first_says n)
    where
      go : First n (first_in s b n) → First (suc n) (when nat_eq (first_in s b n) 0 then (when nat_eq (s n) b then suc n else 0) else first_in s b n)
      go f =
          choose (First (suc n)) (nat_eq (first_in s b n) 0) (when nat_eq (s n) b then suc n else 0) (first_in s b n)
          (λ z. choose (First (suc n)) (nat_eq (s n) b) (suc n) 0
          (λ t. record { at = λ q e. (let i : q ≡ n = omega arith in (omega arith, ap s i ∙ eqb→eq _ b t)); none = λ e. absurd (omega arith) })
          (λ t. record {
            at = λ q e. absurd (omega arith);
            none = λ e j l. elim (ℕ_discrete j n) [
              | yes i ↦ (λ q. T_not (nat_eq (s n) b) t (→eqb (s n) b (sym (ap s i) ∙ q)))
              | no i ↦ f.none (eqb→eq _ 0 z) j (omega arith)
            ];
          }))
          (λ z. record { at = λ q e. (let r = f.at q e in (omega (arith, r.0), r.1)); none = λ e. absurd (T_not (nat_eq (first_in s b n) 0) z (→eqb _ 0 e)) })

  -- one place more
  pub first_other : (n : ℕ) → s n ≢ b → first_in s b (n + 1) ≡ first_in s b n
  unfolding first_in
  first_other n ne =
      ap (first_in s b) (add-one n)
      ∙ choose (λ z. z ≡ first_in s b n) (nat_eq (first_in s b n) 0) (when nat_eq (s n) b then suc n else 0) (first_in s b n)
      (λ z. choose (λ y. y ≡ first_in s b n) (nat_eq (s n) b) (suc n) 0 (λ t. absurd (ne (eqb→eq _ b t))) (λ _. sym (eqb→eq _ 0 z)))
      (λ _. refl)

  pub first_here : (n : ℕ) → s n ≡ b → first_in s b (n + 1) ≡ (when nat_eq (first_in s b n) 0 then n + 1 else first_in s b n)
  unfolding first_in
  first_here n e =
      ap (first_in s b) (add-one n)
      ∙ ap (λ z. when nat_eq (first_in s b n) 0 then z else first_in s b n) (passes (λ z. z ≡ n + 1) (nat_eq (s n) b) (suc n) 0 (→eqb (s n) b e) (sym (add-one n)))

  -- once it is found, it stays
  pub first_stays : (i n : ℕ) → i ≤ n → 0 < first_in s b i → first_in s b n ≡ first_in s b i
  unfolding first_in
  first_stays i zero l p = let e : i ≡ zero = omega arith in ap (first_in s b) (sym e)
  first_stays i (suc n) l p = go (ℕ_discrete i (suc n)) (λ k. first_stays i n k p)
    where
      go : Dec (i ≡ suc n) → (i ≤ n → first_in s b n ≡ first_in s b i) → first_in s b (suc n) ≡ first_in s b i
      go (yes e) h = ap (first_in s b) (sym e)
      go (no e) h =
          let q = h (omega arith) in
          choose (λ z. z ≡ first_in s b i) (nat_eq (first_in s b n) 0) (when nat_eq (s n) b then suc n else 0) (first_in s b n)
          (λ t. absurd (omega (arith, eqb→eq (first_in s b n) 0 t))) (λ _. q)

-- a place is at the first of its kind, or behind it
pub first_some : (s : ℕ → ℕ) (i n : ℕ) → i < n → 0 < first_in s (s i) n
first_some s i n l = go (dec_lt 0 (first_in s (s i) n))
  where
    go : Dec (0 < first_in s (s i) n) → 0 < first_in s (s i) n
    go (yes p) = p
    go (no p) = absurd ((first_says s (s i) n).none (omega arith) i l refl)

-- a place written with what it has
pub set_own : (l : List ℕ) (i d : ℕ) → i < length l → set l i (get_or l i d) ≡ l
set_own l i d h = ext_get_or d (set l i (get_or l i d)) l (length-set l i (get_or l i d))
    (λ j k. elim (ℕ_discrete j i) [
      | yes e ↦ ap (λ z. get_or (set l i (get_or l i d)) z d) e ∙ get_or-set_same l i (get_or l i d) d h ∙ sym (ap (λ z. get_or l z d) e)
      | no e ↦ get_or-set_other l i j (get_or l i d) d e
    ])

-- A slot for each group, from 0 to 512, and each digit.
abbrev pub slot_count : ℕ
slot_count = 8208

abbrev pub slot_of : List ℕ → List ℕ → ℕ → ℕ
slot_of rest groups j = get_or groups j 0 * 16 + get_or rest j 0 % 16

-- What a pass over m cards leaves, from what it found.
pub record Parted (m : ℕ) (rest groups rest' groups' : List ℕ) : Type 0 where
  pub groups_are : (j : ℕ) → j < m → get_or groups' j 0 ≡ first_in (slot_of rest groups) (slot_of rest groups j) m
  pub rest_are : (j : ℕ) → j < m → get_or rest' j 0 ≡ get_or rest j 0 / 16

-- After i of them.
pub record Parting (m i : ℕ) (rest groups rest' groups' slots : List ℕ) : Type 0 where
  pub groups_are : (j : ℕ) → j < i → get_or groups' j 0 ≡ first_in (slot_of rest groups) (slot_of rest groups j) m
  pub rest_are : (j : ℕ) → j < i → get_or rest' j 0 ≡ get_or rest j 0 / 16
  pub groups_were : (j : ℕ) → i ≤ j → get_or groups' j 0 ≡ get_or groups j 0
  pub rest_were : (j : ℕ) → i ≤ j → get_or rest' j 0 ≡ get_or rest j 0
  pub slots_are : (b : ℕ) → b < slot_count → get_or slots b 0 ≡ first_in (slot_of rest groups) b i

module _ (m : ℕ) (rest groups : List ℕ) where
  abbrev s : ℕ → ℕ
  s = slot_of rest groups

  pub parting_none : (slots : List ℕ) → ((b : ℕ) → b < slot_count → get_or slots b 0 ≡ 0) → Parting m 0 rest groups rest groups slots
  unfolding first_in
  parting_none slots z = record {
    groups_are = λ j l. absurd (omega arith);
    rest_are = λ j l. absurd (omega arith);
    groups_were = λ j l. refl;
    rest_were = λ j l. refl;
    slots_are = z;
  }

  -- the slot of card i is there
  pub slot_below : (i : ℕ) (rest' groups' slots : List ℕ) → Parting m i rest groups rest' groups' slots → i < m → ((j : ℕ) → j < m → get_or groups j 0 ≤ 512)
      → get_or groups' i 0 * 16 + get_or rest' i 0 % 16 < slot_count
  slot_below i rest' groups' slots P l few = omega (arith, P.groups_were i (omega arith), few i l)

  -- a value written at place i, and those behind it
  beyond : (l : List ℕ) (i v : ℕ) (g : ℕ → ℕ) → ((j : ℕ) → i ≤ j → get_or l j 0 ≡ g j) → (j : ℕ) → i + 1 ≤ j → get_or (set l i v) j 0 ≡ g j
  beyond l i v g h j k = get_or-set_other l i j v 0 (omega arith) ∙ h j (omega arith)

  pub parting_more : (i slot first : ℕ) (rest' groups' slots : List ℕ) → Parting m i rest groups rest' groups' slots → i < m
      → i < length rest' → i < length groups' → length slots ≡ slot_count → slot < slot_count
      → slot ≡ get_or groups' i 0 * 16 + get_or rest' i 0 % 16 → first ≡ (when nat_eq (get_or slots slot 0) 0 then i + 1 else get_or slots slot 0)
      → Parting m (i + 1) rest groups (set rest' i (get_or rest' i 0 / 16)) (set groups' i first) (set slots slot first)
  parting_more i slot first rest' groups' slots P l lr lg size ls es ef = record {
    groups_are = filled groups' i first 0 (λ j. first_in s (s j) m) lg (label ∙ sym stays) P.groups_are;
    rest_are = filled rest' i (get_or rest' i 0 / 16) 0 (λ j. get_or rest j 0 / 16) lr (ap (λ z. z / 16) (P.rest_were i (omega arith))) P.rest_are;
    groups_were = beyond groups' i first (λ j. get_or groups j 0) P.groups_were;
    rest_were = beyond rest' i (get_or rest' i 0 / 16) (λ j. get_or rest j 0) P.rest_were;
    slots_are = λ b k. elim (ℕ_discrete b slot) [
      | yes q ↦ ap (λ z. get_or (set slots slot first) z 0) q ∙ get_or-set_same slots slot first 0 (omega arith) ∙ label ∙ ap (λ z. first_in s z (i + 1)) (sym is ∙ sym q)
      | no q ↦ get_or-set_other slots slot b first 0 q ∙ P.slots_are b k ∙ sym (first_other s b i (λ e. q (sym e ∙ sym is)))
    ];
  }
    where
      is : slot ≡ s i
      is = es ∙ ap₂ (λ x y. x * 16 + y % 16) (P.groups_were i (omega arith)) (P.rest_were i (omega arith))

      label : first ≡ first_in s (s i) (i + 1)
      label =
          ef ∙ ap (λ z. when nat_eq z 0 then i + 1 else z) (P.slots_are slot ls ∙ ap (λ z. first_in s z i) is)
          ∙ sym (first_here s (s i) i refl)

      stays : first_in s (s i) m ≡ first_in s (s i) (i + 1)
      stays = first_stays s (s i) (i + 1) m (omega arith) (first_some s i (i + 1) (omega arith))

  pub parting_all : (i : ℕ) (rest' groups' slots : List ℕ) → Parting m i rest groups rest' groups' slots → i ≡ m → Parted m rest groups rest' groups'
  parting_all i rest' groups' slots P e = record { groups_are = λ j l. P.groups_are j (omega arith); rest_are = λ j l. P.rest_are j (omega arith) }

-- After a pass a group has the name of its first card, one more than its place.
pub record Led (m : ℕ) (groups : List ℕ) : Type 0 where
  pub head : (i : ℕ) → i < m → (q : ℕ) × (q < m) × (get_or groups i 0 ≡ suc q) × (get_or groups q 0 ≡ suc q)

module _ (m : ℕ) (rest groups rest' groups' : List ℕ) (P : Parted m rest groups rest' groups') where
  abbrev t : ℕ → ℕ
  t = slot_of rest groups

  -- the first card of a card's new group
  leader : (i : ℕ) → i < m → (q : ℕ) × (first_in t (t i) m ≡ suc q) × (q < m) × (t q ≡ t i)
  leader i l =
      let p = first_some t i m l in
      let e : first_in t (t i) m ≡ suc (first_in t (t i) m - 1) = omega arith in
      let r = (first_says t (t i) m).at (first_in t (t i) m - 1) e in
      (first_in t (t i) m - 1, e, r.0, r.1)

  pub parted_led : Led m groups'
  parted_led = record {
    head = λ i a. (let x = leader i a in
        (x.0, x.2, P.groups_are i a ∙ x.1, P.groups_are x.0 x.2 ∙ ap (λ z. first_in t z m) x.3 ∙ x.1));
  }

  pub slots_same : (i j : ℕ) → i < m → j < m → get_or groups' i 0 ≡ get_or groups' j 0 → t i ≡ t j
  slots_same i j a b e =
      let x = leader i a in
      let y = leader j b in
      let q : x.0 ≡ y.0 = omega (arith, x.1, y.1, P.groups_are i a, P.groups_are j b) in
      sym x.3 ∙ ap t q ∙ y.3

pub led_few : (m : ℕ) (groups : List ℕ) → Led m groups → (i : ℕ) → i < m → get_or groups i 0 ≤ m
led_few m groups L i l = let q = L.head i l in omega (arith, q.1, q.2)

-- Between the passes: two cards are of one group, with the same digits left, where their machines are the same; `left` digits are left.
pub record Grouped (f : ℕ → ℕ) (m left : ℕ) (rest groups : List ℕ) : Type 0 where
  pub same : (i j : ℕ) → i < m → j < m → f i ≡ f j → (get_or groups i 0 ≡ get_or groups j 0) × (get_or rest i 0 ≡ get_or rest j 0)
  pub apart : (i j : ℕ) → i < m → j < m → get_or groups i 0 ≡ get_or groups j 0 → get_or rest i 0 ≡ get_or rest j 0 → f i ≡ f j
  pub low : (i : ℕ) → i < m → get_or rest i 0 < 16 ^ left

-- At first a group is the cards whose machines have the same lowest nine bits, and these are its name.
pub grouped_start : (f : ℕ → ℕ) (m : ℕ) (rest groups : List ℕ) → ((i : ℕ) → i < m → get_or groups i 0 ≡ f i % 512) → ((i : ℕ) → i < m → get_or rest i 0 ≡ f i / 512)
    → ((i : ℕ) → i < m → f i < 4294967296) → Grouped f m 6 rest groups
grouped_start f m rest groups names rests small = record {
  same = λ i j a b e. (names i a ∙ ap (λ z. z % 512) e ∙ sym (names j b), rests i a ∙ ap (λ z. z / 512) e ∙ sym (rests j b));
  apart = λ i j a b e g. omega (arith, names i a, names j b, rests i a, rests j b);
  low = λ i a. omega (arith, rests i a, small i a);
}

pub grouped_next : (f : ℕ → ℕ) (m left : ℕ) (rest groups rest' groups' : List ℕ) → Grouped f m (suc left) rest groups → Parted m rest groups rest' groups' → Grouped f m left rest' groups'
grouped_next f m left rest groups rest' groups' G P = record {
  same = λ i j a b e. (let g = G.same i j a b e in (
    P.groups_are i a ∙ ap (λ z. first_in (slot_of rest groups) z m) (ap₂ (λ x y. x * 16 + y % 16) g.0 g.1) ∙ sym (P.groups_are j b),
    P.rest_are i a ∙ ap (λ z. z / 16) g.1 ∙ sym (P.rest_are j b),
  ));
  apart = λ i j a b e g. (let q = slots_same m rest groups rest' groups' P i j a b e in
      G.apart i j a b (omega (arith, q)) (omega (arith, q, P.rest_are i a, P.rest_are j b)));
  low = λ i a. (let l = simp unary_clauses at (G.low i a) in omega (arith, P.rest_are i a, l));
}

-- After the last pass each card leads its group just where the machines differ.
differ_all : (f : ℕ → ℕ) (n : ℕ) → ((i j : ℕ) → j < i → i < n → f j ≢ f i) → distinct (table n f) ≡ true
differ_all f zero h = distinct_none f
differ_all f (suc n) h =
    ap (λ z. distinct (table z f)) (sym (add-one n)) ∙ distinct_more f n
    ∙ ap (λ z. z && unmet f n) (differ_all f n (λ i j k l. h i j k (omega arith)))
    ∙ unmet_yes f n (λ j k. h n j k (omega arith))

meets : (f : ℕ → ℕ) (n i j : ℕ) → j < i → i < n → f j ≡ f i → distinct (table n f) ≡ false
meets f n i j k l e = distinct_fails f (i + 1) n (distinct_more f i ∙ ap (λ z. distinct (table i f) && z) (unmet_no f i j k e) ∙ and_no (distinct (table i f))) (omega arith)
  where
    and_no : (b : Bool) → (b && false) ≡ false
    and_no true = refl
    and_no false = refl

-- How many cards do not lead their groups, as the code tells it.
abbrev pub following : ℕ → List ℕ → ℕ
following m groups = merged m (λ i. when nat_eq (get_or groups i 0) (i + 1) then 0 else 1)

all_lead : (m : ℕ) (groups : List ℕ) → following m groups ≡ 0 → (i : ℕ) → i < m → get_or groups i 0 ≡ i + 1
all_lead m groups e i l =
    choose (λ z. z ≡ 0 → get_or groups i 0 ≡ i + 1) (nat_eq (get_or groups i 0) (i + 1)) 0 1 (λ t _. eqb→eq _ _ t) (λ _ q. absurd (omega (arith, q)))
    (merged_each (λ i. when nat_eq (get_or groups i 0) (i + 1) then 0 else 1) m e i l)

none_follows : (m : ℕ) (groups : List ℕ) → ((i : ℕ) → i < m → get_or groups i 0 ≡ i + 1) → following m groups ≡ 0
none_follows m groups h = each_merged _ m (λ i l. passes (λ (z : ℕ). z ≡ 0) (nat_eq (get_or groups i 0) (i + 1)) 0 1 (→eqb _ _ (h i l)) refl)

-- Where each card leads its group, after however many passes, the machines differ.
pub grouped_yes : (f : ℕ → ℕ) (m left : ℕ) (rest groups : List ℕ) → Grouped f m left rest groups → following m groups ≡ 0 → distinct (table m f) ≡ true
grouped_yes f m left rest groups G e =
    let h = all_lead m groups e in
    differ_all f m (λ i j k l q. (let g = G.same j i (omega arith) l q in omega (arith, g.0, h j (omega arith), h i l)))

-- And where they differ, each does after the last pass.
pub grouped_no : (f : ℕ → ℕ) (m : ℕ) (rest groups : List ℕ) → Grouped f m 0 rest groups → Led m groups → following m groups ≢ 0 → distinct (table m f) ≡ false
grouped_no f m rest groups G L ne = go (distinct (table m f)) refl
  where
    alike : (i j : ℕ) → i < m → j < m → get_or groups i 0 ≡ get_or groups j 0 → f i ≡ f j
    alike i j a b e = let x : get_or rest i 0 < 1 = G.low i a in let y : get_or rest j 0 < 1 = G.low j b in G.apart i j a b e (omega arith)

    -- the leader of a card's group is another card with its machine
    twice : (i : ℕ) → i < m → get_or groups i 0 ≢ i + 1 → distinct (table m f) ≡ false
    twice i l d = let h = L.head i l in
        elim (dec_lt h.0 i) [
          | yes k ↦ meets f m i h.0 k l (alike h.0 i h.1 l (h.3 ∙ sym h.2))
          | no k ↦ meets f m h.0 i (omega (arith, h.2)) h.1 (alike i h.0 l h.1 (h.2 ∙ sym h.3))
        ]

    leads_or : distinct (table m f) ≡ true → (i : ℕ) → i < m → Dec (get_or groups i 0 ≡ i + 1) → get_or groups i 0 ≡ i + 1
    leads_or d i l (yes e) = e
    leads_or d i l (no e) = absurd (true≢false (sym d ∙ twice i l e))

    go : (b : Bool) → distinct (table m f) ≡ b → b ≡ false
    go false d = refl
    go true d = absurd (ne (none_follows m groups (λ i l. leads_or d i l (ℕ_discrete (get_or groups i 0) (i + 1)))))
