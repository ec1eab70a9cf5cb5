-- Reaches out of the record: the gaps back to the preds of the members, where these are members too and go round the circle just once. Assumes nothing.
use Rattle.std.specs.Prelude.{◌≡◌, refl, Bool, not, ◌||◌, List, ℕ, ◌+◌, ◌%◌, ◌≤◌, ◌<◌, nat_eq, length, get_or}
use Rattle.std.proofs.Common.{sym, ◌∙◌, ap, ap₂, subst, mod-lt, arith, eqb→eq}
use Rattle.std.proofs.Math.Decide.{dec_lt}
use Rattle.std.proofs.Math.ListN.{get_or-eq_default}
use Rattle.lists.specs.Basics.{when◌then◌else◌}
use Rattle.lists.specs.Choice.{choose, passes}
use Rattle.lists.specs.Merge.{merged, merged_each, failure_test, when_test}
use Rattle.lists.specs.Tests.{→eqb}
use Rattle.protocol.specs.Record.{round, most_nodes, row_start}
use Rattle.layout.specs.Owners.{Names}
use Rattle.cardlayout.specs.Marks.{Marked}
use Rattle.cardlayout.specs.Reach.{gap, reach}
use Rattle.lists.specs.Sums.{total, total_cut}
use Rattle.cardlayout.specs.Circle.{once_round, gap_enough}
use Rattle.cardlayout.specs.Sound.{MarksForm}
use Rattle.card_checks.specs.Homes.{Copied, reach_same}

-- The pred of hub h, as a place in the tables (none is another place, and then no member's, or one whose gap is too wide).
abbrev pub pred_of : List ℕ → ℕ → ℕ
pred_of w h = get_or w (row_start h + 4) 0 % 64

-- How far h's numbers reach back if its pred comes before it.
abbrev pub gap_back : List ℕ → List ℕ → ℕ → ℕ
gap_back w names h = gap (get_or names (pred_of w h) 0) (get_or names h 0)

-- What a table of reaches is right about: each member of a ring of n hubs.
abbrev pub Reaches : List ℕ → List ℕ → ℕ → List ℕ → Type 0
Reaches names marks n reaches =
    (ids : List ℕ) → Names ids → Copied names ids → length ids ≡ n → MarksForm n marks → (h : ℕ) → Marked marks h → get_or reaches h 0 ≡ reach names marks h

-- 1 where the pred of a member is no member.
abbrev pub strange : List ℕ → List ℕ → ℕ → ℕ
strange w marks h = when nat_eq (get_or marks h 0) 1 then (when nat_eq (get_or marks (pred_of w h) 0) 1 then 0 else 1) else 0

-- as the code asks it: h is no member, or its pred is one
pub strange_test : (w marks : List ℕ) (h : ℕ) → nat_eq (strange w marks h) 0 ≡ (not (nat_eq (get_or marks h 0) 1) || nat_eq (get_or marks (pred_of w h) 0) 1)
strange_test w marks h =
    let own = nat_eq (get_or marks (pred_of w h) 0) 1 in
    let member = nat_eq (get_or marks h 0) 1 in
    when_test member (when own then 0 else 1) ∙ ap (λ z. not member || z) (failure_test own)

-- What h adds to the circle.
abbrev pub arc_back : List ℕ → List ℕ → List ℕ → ℕ → ℕ
arc_back w names marks h = when nat_eq (get_or marks h 0) 1 then gap_back w names h + 1 else 0

-- what a hub adds is at most once round
pub arc_few : (member : Bool) (far : ℕ) → far < round → (when member then far + 1 else 0) ≤ round
arc_few member far l = choose (λ z. z ≤ round) member (far + 1) 0 (λ _. omega arith) (λ _. omega arith)

pub preds_law : (ids names marks w reaches : List ℕ) (n : ℕ) → Names ids → Copied names ids → length ids ≡ n → MarksForm n marks → length marks ≡ most_nodes → n ≤ most_nodes
    → ((h : ℕ) → h < n → get_or reaches h 0 ≡ gap_back w names h) → merged n (strange w marks) ≡ 0 → total (arc_back w names marks) n ≡ round
    → (h : ℕ) → Marked marks h → get_or reaches h 0 ≡ reach names marks h
preds_law ids names marks w reaches n N C size M all few are none circle h k =
    are h (M.below h k)
    ∙ once_round ids marks N (λ x m. omega (arith, size, M.below x m)) M.some.0 M.some.1 (gap_back w names) enough
    (total_cut (arc_back w names marks) n (length marks) (omega arith) behind ∙ circle) h k
    ∙ sym (reach_same ids names marks C h)
  where
    -- a member's pred is one
    pred_marked : (x : ℕ) → Marked marks x → Marked marks (pred_of w x)
    pred_marked x m = record {
      below = omega (arith, mod-lt (get_or w (row_start x + 4) 0) {m = 64} (omega arith));
      at = choose (λ z. z ≡ 0 → get_or marks (pred_of w x) 0 ≡ 1) (nat_eq (get_or marks (pred_of w x) 0) 1) 0 1 (λ t _. eqb→eq _ 1 t) (λ _ q. absurd (omega (arith, q)))
          (sym (passes (λ z. z ≡ (when nat_eq (get_or marks (pred_of w x) 0) 1 then 0 else 1)) (nat_eq (get_or marks x 0) 1) _ 0 (→eqb _ 1 m.at) refl) ∙ merged_each (strange w marks) n none x (M.below x m));
    }

    enough : (x : ℕ) → Marked marks x → reach ids marks x ≤ gap_back w names x
    enough x m =
        subst (λ z. reach ids marks x ≤ z) (ap₂ gap (sym (C.at (pred_of w x))) (sym (C.at x))) (gap_enough ids marks x (pred_of w x) (pred_marked x m))

    behind : (x : ℕ) → n ≤ x → arc_back w names marks x ≡ 0
    behind x l =
        choose (λ z. z ≡ 0) (nat_eq (get_or marks x 0) 1) (gap_back w names x + 1) 0
        (λ t. absurd (go (dec_lt x (length marks)) (eqb→eq _ 1 t))) (λ _. refl)
      where
        go : Dec (x < length marks) → get_or marks x 0 ≡ 1 → ⊥
        go (yes b) e = omega (arith, M.below x (record { below = b; at = e }))
        go (no b) e = let z : get_or marks x 0 ≡ 0 = get_or-eq_default marks 0 (omega arith) in omega (arith, e)
