-- What the tests of the marks say. Assumes nothing.
use Rattle.std.specs.Prelude.{◌≡◌, refl, ◌⊎◌, ◌||◌, List, [], ◌∷◌, fold, ℕ, zero, suc, ◌+◌, ◌-◌, ◌≤◌, ◌<◌, nat_le, nat_lt, nat_eq, length, get_or, set, take, drop}
use Rattle.std.proofs.Common.{sym, ◌∙◌, ap, inl, inr, arith, length-drop, length-take, get_or-drop, get_or-take, take-add, drop-drop, drop_at, length-take-le}
use mathlib.Core.Bool.{Bool, true, false, not, ◌&&◌}
use Rattle.std.proofs.Math.Bool.{or-false}
use Rattle.std.proofs.Math.Decide.{dec_lt, ℕ_discrete}
use Rattle.std.specs.List.{enumerate_from}
use Rattle.std.proofs.Math.Nat.{zero-add}
use Rattle.std.proofs.Common.{eq-eqb, ne_eqb}
use Rattle.lists.specs.Basics.{when◌then◌else◌, Mem, every}
use Rattle.lists.specs.Blocks.{table_of}
use Rattle.lists.specs.Merge.{merged, merged_test, failure_test}
use Rattle.std.proofs.Math.Seq.{take-length}
use Rattle.lists.specs.Members.{mem_at, place}
use Rattle.lists.specs.Tests.{says_and, says_as, says_lt, says_le, says_eq, says_not, says_same, says_every, T_true, true_T}
use Rattle.wellformed.specs.Laws.{fold_every}
use Rattle.protocol.specs.Record.{most_nodes}
use Rattle.protocol.specs.Cards.{book_size, marks_in, marked, marks_ok}
use Rattle.cardlayout.specs.Marks.{Marked, mem_marked, marked_mem, some_member, member_some}
use Rattle.cardlayout.specs.Sound.{MarksForm, says_marks}

-- marks of 0 and 1: all are 0, or some hub is marked
none_or_some : (l : List ℕ) → ((x : ℕ) → Mem x l → x < 2) → ((x : ℕ) → Mem x l → x ≡ 0) ⊎ ((h : ℕ) × Marked l h)
none_or_some [] f = inl (λ x k. absurd k)
none_or_some (y ∷ l) f = go (ℕ_discrete y 1) (none_or_some l (λ x k. f x (inr k)))
  where
    go : Dec (y ≡ 1) → ((x : ℕ) → Mem x l → x ≡ 0) ⊎ ((h : ℕ) × Marked l h) → ((x : ℕ) → Mem x (y ∷ l) → x ≡ 0) ⊎ ((h : ℕ) × Marked (y ∷ l) h)
    go (yes e) _ = inr (0, record { below = omega arith; at = e })
    go (no e) (inr r) = inr (suc r.0, record { below = omega (arith, r.1.below); at = r.1.at })
    go (no e) (inl z) = inl (λ x. elim [ inl q ↦ omega (arith, f y (inl refl)) | inr k ↦ z x k ])

-- some hub is marked exactly where not all marks are 0
module _ (marks : List ℕ) (bits : (x : ℕ) → Mem x marks → x < 2) where
  pub some_marked : every (λ x. nat_eq x 0) marks ≡ false → (h : ℕ) × Marked marks h
  some_marked e = go (none_or_some marks bits)
    where
      go : ((x : ℕ) → Mem x marks → x ≡ 0) ⊎ ((h : ℕ) × Marked marks h) → (h : ℕ) × Marked marks h
      go (inr r) = r
      go (inl z) = absurd (mathlib.Core.Bool.true≢false (sym (T_true _ ((says_every (λ x. nat_eq x 0) (λ x. x ≡ 0) (λ x. says_eq x 0) marks).fro z)) ∙ e))

  pub not_zero : (h : ℕ) → Marked marks h → every (λ x. nat_eq x 0) marks ≡ false
  not_zero h m = go (every (λ x. nat_eq x 0) marks) refl
    where
      go : (b : Bool) → every (λ x. nat_eq x 0) marks ≡ b → b ≡ false
      go false e = refl
      go true e = absurd (omega (arith, m.at, (says_every (λ x. nat_eq x 0) (λ x. x ≡ 0) (λ x. says_eq x 0) marks).to (true_T _ e) (get_or marks h 0) (mem_at marks h 0 m.below)))

-- a test for the list's length: whether some hub is marked
pub any_law : (marks : List ℕ) → ((x : ℕ) → Mem x marks → x < 2) → nat_le 1 (length (marked marks)) ≡ not (every (λ x. nat_eq x 0) marks)
any_law marks bits =
    says_same (says_le 1 (length (marked marks)))
    (says_as (says_not (says_as (says_every (λ x. nat_eq x 0) (λ x. x ≡ 0) (λ x. says_eq x 0) marks) (λ z. z) (λ z. z)))
    (λ n. one (none_or_some marks bits) n) (λ l z. none l z))
  where
    one : ((x : ℕ) → Mem x marks → x ≡ 0) ⊎ ((h : ℕ) × Marked marks h) → ¬ ((x : ℕ) → Mem x marks → x ≡ 0) → 1 ≤ length (marked marks)
    one (inl z) n = absurd (n z)
    one (inr r) n = member_some (marked marks) r.0 (marked_mem marks r.0 r.1)

    none : 1 ≤ length (marked marks) → ¬ ((x : ℕ) → Mem x marks → x ≡ 0)
    none l z =
        let s = some_member (marked marks) l in
        let m = mem_marked marks s.0 s.1 in
        omega (arith, m.at, z (get_or marks s.0 0) (mem_at marks s.0 0 m.below))

-- The tests as the code makes them: each mark 0 or 1, not all 0, and 0 from n on.
pub marks_law : (n : ℕ) (marks : List ℕ) (a r z : Bool) → a ≡ every (λ x. nat_lt x 2) marks → r ≡ every (λ x. nat_eq x 0) marks
    → z ≡ every (λ x. nat_eq x 0) (drop n marks) → (a && not r && z) ≡ marks_ok n marks
marks_law n marks a r z ea er ez =
    ap (λ b. b && not r && z) ea ∙ ap (λ b. every (λ x. nat_lt x 2) marks && not b && z) er ∙ ap (λ b. every (λ x. nat_lt x 2) marks && not (every (λ x. nat_eq x 0) marks) && b) ez
    ∙ says_same
    (says_as (says_and (says_and (says_every (λ x. nat_lt x 2) (λ x. x < 2) (λ x. says_lt x 2) marks)
    (says_not (says_every (λ x. nat_eq x 0) (λ x. x ≡ 0) (λ x. says_eq x 0) marks)))
    (says_every (λ x. nat_eq x 0) (λ x. x ≡ 0) (λ x. says_eq x 0) (drop n marks)))
    (λ k. record { bits = k.0.0; some = one (none_or_some marks k.0.0) k.0.1; below = λ h m. under k.1 h m (dec_lt h n) })
    (λ f. ((f.bits, none f), λ x i. over f x i)))
    (says_marks n marks)
  where
    one : ((x : ℕ) → Mem x marks → x ≡ 0) ⊎ ((h : ℕ) × Marked marks h) → ¬ ((x : ℕ) → Mem x marks → x ≡ 0) → (h : ℕ) × Marked marks h
    one (inl z) k = absurd (k z)
    one (inr r) k = r

    under : ((x : ℕ) → Mem x (drop n marks) → x ≡ 0) → (h : ℕ) → Marked marks h → Dec (h < n) → h < n
    under g h m (yes l) = l
    under g h m (no l) =
        let e : n + (h - n) ≡ h = omega arith in
        absurd (omega (arith, m.at, g (get_or (drop n marks) (h - n) 0) (mem_at (drop n marks) (h - n) 0 (omega (arith, length-drop n marks, m.below))), get_or-drop n marks (h - n) 0, ap (λ i. get_or marks i 0) e))

    none : MarksForm n marks → ¬ ((x : ℕ) → Mem x marks → x ≡ 0)
    none f g = let s = f.some in omega (arith, s.1.at, g (get_or marks s.0 0) (mem_at marks s.0 0 s.1.below))

    over : MarksForm n marks → (x : ℕ) → Mem x (drop n marks) → x ≡ 0
    over f x i = go (ℕ_discrete x 1)
      where
        p : (j : ℕ) × (j < length (drop n marks)) × (get_or (drop n marks) j 0 ≡ x)
        p = place x (drop n marks) 0 i

        l : n + p.0 < length marks
        l = omega (arith, p.1, length-drop n marks)

        e : get_or marks (n + p.0) 0 ≡ x
        e = sym (get_or-drop n marks p.0 0) ∙ p.2

        go : Dec (x ≡ 1) → x ≡ 0
        go (yes q) = absurd (omega (arith, f.below (n + p.0) (record { below = l; at = e ∙ q })))
        go (no q) = omega (arith, e, f.bits (get_or marks (n + p.0) 0) (mem_at marks (n + p.0) 0 l))

-- the marks among the words
pub marks_size : (k : List ℕ) → book_size ≤ length k → length (marks_in k) ≡ most_nodes
marks_size k l = simp (length-take, length-drop) (omega arith)

pub mark_at : (k : List ℕ) (h : ℕ) → h < most_nodes → get_or (marks_in k) h 0 ≡ get_or k (1 + h) 0
mark_at k h l = get_or-take most_nodes (drop 1 k) h 0 l ∙ get_or-drop 1 k h 0

-- a part of a part
drop_take : (n m : ℕ) (l : List ℕ) → n ≤ length l → drop n (take (n + m) l) ≡ take m (drop n l)
drop_take n m l h = ap (drop n) (take-add n m l) ∙ drop_at (take n l) (take m (drop n l)) n (length-take-le n l h)

later_marks : (k : List ℕ) (n : ℕ) → n ≤ most_nodes → book_size ≤ length k → take (65 - (1 + n)) (drop (1 + n) k) ≡ drop n (marks_in k)
later_marks k n h l =
    let e : 65 - (1 + n) ≡ most_nodes - n = omega arith in
    let q : n + (most_nodes - n) ≡ most_nodes = omega arith in
    ap (λ z. take z (drop (1 + n) k)) e
    ∙ ap (take (most_nodes - n)) (sym (drop-drop n 1 k))
    ∙ sym (drop_take n (most_nodes - n) (drop 1 k) (simp length-drop (omega arith)))
    ∙ ap (λ z. drop n (take z (drop 1 k))) q

-- merged failures of a list's elements
pub merged_every : (q : ℕ → Bool) (l : List ℕ) (r : ℕ) → r ≡ merged (length l) (λ i. when q (get_or l i 0) then 0 else 1) → nat_eq r 0 ≡ every q l
merged_every q l r e =
    ap (λ z. nat_eq z 0) e
    ∙ merged_test _ q (λ i. get_or l i 0) (length l) (λ i h. failure_test (q (get_or l i 0)))
    ∙ ap (every q) (table_of l 0 (λ i. get_or l i 0) (length l) (omega arith) (λ i h. refl) ∙ take-length l)

pub marks_code : (k : List ℕ) (n : ℕ) → n ≤ most_nodes → book_size ≤ length k → (b r z : Bool)
    → b ≡ fold (λ ok x. ok && nat_lt x 2) true (marks_in k)
    → r ≡ every (λ x. nat_eq x 0) (marks_in k)
    → z ≡ every (λ x. nat_eq x 0) (take (65 - (1 + n)) (drop (1 + n) k))
    → (b && not r && z) ≡ marks_ok n (marks_in k)
marks_code k n h l b r z eb er ez =
    marks_law n (marks_in k) b r z (eb ∙ fold_every (λ x. nat_lt x 2) true (marks_in k)) er (ez ∙ ap (every (λ x. nat_eq x 0)) (later_marks k n h l))

-- a test for another mark than that of hub h, as the code makes it: the one of the node beside its place
abbrev pub besides : ℕ → Bool → ℕ × ℕ → Bool
besides h any p = any || not (nat_eq p.0 h) && not (nat_eq p.1 0)

one_more : (any z e : Bool) → ((any || not z) || not e) ≡ (any || not (z && e))
one_more true z e = refl
one_more false true e = refl
one_more false false e = refl

-- of the hubs from n on, where h is before them, and where it is hub n + k
others_past : (h n : ℕ) (any : Bool) (l : List ℕ) → h < n → fold (besides h) any (enumerate_from n l) ≡ (any || not (every (λ x. nat_eq x 0) l))
unfolding every
others_past h n any [] l = sym (or-false any)
others_past h n any (x ∷ xs) l =
    ap (λ z. fold (besides h) (any || not z && not (nat_eq x 0)) (enumerate_from (n + 1) xs)) (ne_eqb n h (λ e. omega arith))
    ∙ others_past h (n + 1) (any || not (nat_eq x 0)) xs (omega arith)
    ∙ one_more any (nat_eq x 0) (every (λ y. nat_eq y 0) xs)

others_from : (n k : ℕ) (any : Bool) (l : List ℕ) → fold (besides (n + k)) any (enumerate_from n l) ≡ (any || not (every (λ x. nat_eq x 0) (set l k 0)))
unfolding every
others_from n k any [] = sym (or-false any)
others_from n zero any (x ∷ xs) =
    ap (λ z. fold (besides (n + 0)) (any || not z && not (nat_eq x 0)) (enumerate_from (n + 1) xs)) (eq-eqb n (n + 0) (omega arith))
    ∙ ap (λ z. fold (besides (n + 0)) z (enumerate_from (n + 1) xs)) (or-false any)
    ∙ others_past (n + 0) (n + 1) any xs (omega arith)
others_from n (suc k) any (x ∷ xs) =
    let e : n + suc k ≡ (n + 1) + k = omega arith in
    ap (λ z. fold (besides (n + suc k)) (any || not z && not (nat_eq x 0)) (enumerate_from (n + 1) xs)) (ne_eqb n (n + suc k) (λ q. omega arith))
    ∙ ap (λ z. fold (besides z) (any || not (nat_eq x 0)) (enumerate_from (n + 1) xs)) e
    ∙ others_from (n + 1) k (any || not (nat_eq x 0)) xs
    ∙ one_more any (nat_eq x 0) (every (λ y. nat_eq y 0) (set xs k 0))

pub others_law : (marks : List ℕ) (h : ℕ) → fold (besides h) false (enumerate_from 0 marks) ≡ not (every (λ x. nat_eq x 0) (set marks h 0))
others_law marks h = ap (λ z. fold (besides z) false (enumerate_from 0 marks)) (sym (zero-add h)) ∙ others_from 0 h false marks
