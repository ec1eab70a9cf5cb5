-- Numbers merged by bitwise or, so that one look at the end says whether all of them are 0. Assumes nothing.
use Rattle.std.specs.Prelude.{◌≡◌, refl, ◌⊎◌, Bool, true, false, not, ◌&&◌, ◌||◌, List, [], ◌∷◌, ◌++◌, ℕ, zero, suc, ◌+◌, ◌<◌, T, nat_eq, length, get_or}
use Rattle.std.proofs.Common.{sym, ◌∙◌, ap, ap₂, inl, inr, add-one, arith}
use Rattle.std.proofs.Math.Decide.{ℕ_discrete}
use Rattle.std.specs.Int.Bits.{bit_or, or_add_and}
use Rattle.std.proofs.lemmas.Nat.{and_le_l, and_le_r}
use Rattle.std.proofs.Math.Seq.{take-length}
use Rattle.lists.specs.Basics.{when◌then◌else◌, Mem, every, distinct, table}
use Rattle.lists.specs.Members.{mem_split, mem_left, mem_right}
use Rattle.lists.specs.Tests.{and_true, says_and, says_as, says_eq, says_not, says_same, says_so, says_every, Distinct, says_distinct}
use Rattle.lists.specs.Blocks.{table_of}

-- two numbers merge to 0 when both are 0
or_parts : (a b : ℕ) → bit_or a b ≡ 0 → (a ≡ 0) × (b ≡ 0)
or_parts a b e = omega (arith, or_add_and a b, and_le_l a b, and_le_r a b)

pub or_test : (a b : ℕ) → nat_eq (bit_or a b) 0 ≡ (nat_eq a 0 && nat_eq b 0)
or_test a b =
    says_same (says_eq (bit_or a b) 0)
    (says_as (says_and (says_eq a 0) (says_eq b 0)) (λ k. ap₂ bit_or k.0 k.1) (or_parts a b))

-- f 0, f 1, .., n of them merged
unfoldable pub merged : ℕ → (ℕ → ℕ) → ℕ
merged zero f = 0
merged (suc n) f = bit_or (merged n f) (f n)

pub merged_none : (f : ℕ → ℕ) → merged 0 f ≡ 0
unfolding merged
merged_none f = refl

pub merged_more : (n : ℕ) (f : ℕ → ℕ) → merged (n + 1) f ≡ bit_or (merged n f) (f n)
unfolding merged
merged_more n f = rw add-one

-- every element of two lists, one after the other, of two tests at once, and of a list that is longer by one
pub every_append : {A : Type 0} (q : A → Bool) (l r : List A) → every q (l ++ r) ≡ (every q l && every q r)
every_append q l r =
    says_same (says_every q (λ x. T (q x)) (λ x. says_so (q x)) (l ++ r))
    (says_as (says_and (says_every q (λ x. T (q x)) (λ x. says_so (q x)) l) (says_every q (λ x. T (q x)) (λ x. says_so (q x)) r))
    (λ k x m. elim (mem_split x l r m) [ inl a ↦ k.0 x a | inr b ↦ k.1 x b ])
    (λ k. ((λ x m. k x (mem_left x l r m)), λ x m. k x (mem_right x l r m))))

every_and : {A : Type 0} (p q : A → Bool) (l : List A) → every (λ x. p x && q x) l ≡ (every p l && every q l)
every_and p q l =
    says_same (says_every (λ x. p x && q x) (λ x. T (p x) × T (q x)) (λ x. says_and (says_so (p x)) (says_so (q x))) l)
    (says_as (says_and (says_every p (λ x. T (p x)) (λ x. says_so (p x)) l) (says_every q (λ x. T (q x)) (λ x. says_so (q x)) l))
    (λ k x m. (k.0 x m, k.1 x m))
    (λ k. ((λ x m. (k x m).0), λ x m. (k x m).1)))

pub every_last : {A : Type 0} (q : A → Bool) (l : List A) (x : A) → every q (l ++ (x ∷ [])) ≡ (every q l && q x)
unfolding every
every_last q l x = every_append q l (x ∷ []) ∙ ap (λ z. every q l && z) (and_true (q x))

-- All are 0 exactly where every value of a table passes a test.
pub merged_test : {A : Type 0} (f : ℕ → ℕ) (q : A → Bool) (g : ℕ → A) (n : ℕ) → ((i : ℕ) → i < n → nat_eq (f i) 0 ≡ q (g i))
    → nat_eq (merged n f) 0 ≡ every q (table n g)
unfolding merged table every
merged_test f q g zero e = refl
merged_test f q g (suc n) e =
    or_test (merged n f) (f n) ∙ ap₂ (λ a b. a && b) (merged_test f q g n (λ i l. e i (omega arith))) (e n (omega arith)) ∙ sym (every_last q (table n g) (g n))

-- Merged they are 0 exactly where each is.
pub merged_each : (f : ℕ → ℕ) (n : ℕ) → merged n f ≡ 0 → (i : ℕ) → i < n → f i ≡ 0
unfolding merged
merged_each f zero e i l = absurd (omega arith)
merged_each f (suc n) e i l = let p = or_parts (merged n f) (f n) e in elim (ℕ_discrete i n) [ yes q ↦ ap f q ∙ p.1 | no q ↦ merged_each f n p.0 i (omega arith) ]

pub each_merged : (f : ℕ → ℕ) (n : ℕ) → ((i : ℕ) → i < n → f i ≡ 0) → merged n f ≡ 0
unfolding merged
each_merged f zero h = refl
each_merged f (suc n) h = ap₂ bit_or (each_merged f n (λ i l. h i (omega arith))) (h n (omega arith))

-- The words of a part are all 0.
pub merged_zero : (l : List ℕ) → nat_eq (merged (length l) (λ i. get_or l i 0)) 0 ≡ every (λ x. nat_eq x 0) l
merged_zero l =
    merged_test (λ i. get_or l i 0) (λ x. nat_eq x 0) (λ i. get_or l i 0) (length l) (λ i h. refl)
    ∙ ap (every (λ x. nat_eq x 0)) (table_of l 0 (λ i. get_or l i 0) (length l) (omega arith) (λ i h. refl) ∙ take-length l)

-- Two parts of one length, merged side by side: all words of both are 0.
merged_pair : (n : ℕ) (f g : ℕ → ℕ) → nat_eq (merged n (λ i. bit_or (f i) (g i))) 0 ≡ (nat_eq (merged n f) 0 && nat_eq (merged n g) 0)
unfolding merged
merged_pair zero f g = refl
merged_pair (suc n) f g =
    or_test (merged n (λ i. bit_or (f i) (g i))) (bit_or (f n) (g n))
    ∙ ap₂ (λ a b. a && b) (merged_pair n f g) (or_test (f n) (g n))
    ∙ cross (nat_eq (merged n f) 0) (nat_eq (merged n g) 0) (nat_eq (f n) 0) (nat_eq (g n) 0)
    ∙ sym (ap₂ (λ a b. a && b) (or_test (merged n f) (f n)) (or_test (merged n g) (g n)))
  where
    cross : (a b c d : Bool) → ((a && b) && (c && d)) ≡ ((a && c) && (b && d))
    cross a b c d =
        says_same (says_and (says_and (says_so a) (says_so b)) (says_and (says_so c) (says_so d)))
        (says_as (says_and (says_and (says_so a) (says_so c)) (says_and (says_so b) (says_so d))) (λ k. ((k.0.0, k.1.0), (k.0.1, k.1.1)))
        (λ k. ((k.0.0, k.1.0), (k.0.1, k.1.1))))

pub merged_zeros : (l r : List ℕ) → length l ≡ length r → nat_eq (merged (length l) (λ i. bit_or (get_or l i 0) (get_or r i 0))) 0 ≡ every (λ x. nat_eq x 0) (l ++ r)
merged_zeros l r e =
    merged_pair (length l) (λ i. get_or l i 0) (λ i. get_or r i 0)
    ∙ ap₂ (λ a b. a && b) (merged_zero l) (ap (λ n. nat_eq (merged n (λ i. get_or r i 0)) 0) e ∙ merged_zero r)
    ∙ sym (every_append (λ x. nat_eq x 0) l r)

-- A test that fails is 1, one that passes 0.
pub failure_test : (b : Bool) → nat_eq (when b then 0 else 1) 0 ≡ b
unfolding when◌then◌else◌
failure_test true = refl
failure_test false = refl

-- A number that counts only where a test passes.
pub when_test : (b : Bool) (x : ℕ) → nat_eq (when b then x else 0) 0 ≡ (not b || nat_eq x 0)
unfolding when◌then◌else◌
when_test true x = refl
when_test false x = refl

-- every value of a table, and of one that is longer by one
pub every_none : {A : Type 0} (q : A → Bool) (g : ℕ → A) → every q (table 0 g) ≡ true
unfolding every table
every_none q g = refl

pub every_more : {A : Type 0} (q : A → Bool) (g : ℕ → A) (n : ℕ) → every q (table (n + 1) g) ≡ (every q (table n g) && q (g n))
unfolding table
every_more q g n = rw add-one (every_last q (table n g) (g n))

-- A list has no element twice exactly where none of its elements is among those before it.
put_last : (l : List ℕ) (x : ℕ) → Distinct l → ((y : ℕ) → Mem y l → ¬ (y ≡ x)) → Distinct (l ++ (x ∷ []))
unfolding Distinct
put_last [] x d f = ((λ y k. absurd k), tt)
put_last (z ∷ l) x d f = ((λ y k. go y (mem_split y l (x ∷ []) k)), put_last l x d.1 (λ y k. f y (inr k)))
  where
    go : (y : ℕ) → Mem y l ⊎ Mem y (x ∷ []) → ¬ (z ≡ y)
    go y (inl k) = d.0 y k
    go y (inr (inl e)) = λ q. f z (inl refl) (q ∙ e)
    go y (inr (inr k)) = absurd k

take_last : (l : List ℕ) (x : ℕ) → Distinct (l ++ (x ∷ [])) → Distinct l × ((y : ℕ) → Mem y l → ¬ (y ≡ x))
unfolding Distinct
take_last [] x d = (tt, λ y k. absurd k)
take_last (z ∷ l) x d =
    let r = take_last l x d.1 in
    (((λ y k. d.0 y (mem_left y l (x ∷ []) k)), r.0), λ y. elim [ inl e ↦ (λ q. d.0 x (mem_right x l (x ∷ []) (inl refl)) (sym e ∙ q)) | inr k ↦ r.1 y k ])

-- two numbers that differ
unfoldable pub unlike : ℕ → ℕ → Bool
unlike y x = not (nat_eq y x)

distinct_last : (l : List ℕ) (x : ℕ) → distinct (l ++ (x ∷ [])) ≡ (distinct l && every (λ y. unlike y x) l)
unfolding unlike
distinct_last l x =
    says_same (says_distinct (l ++ (x ∷ [])))
    (says_as (says_and (says_distinct l) (says_every (λ y. not (nat_eq y x)) (λ y. ¬ (y ≡ x)) (λ y. says_not (says_eq y x)) l)) (λ k. put_last l x k.0 k.1) (take_last l x))

-- One more identifier, and four more at once: none is among those before, and no two of the four are equal.
unfoldable pub unlike_all : (a b c d y : ℕ) → Bool
unlike_all a b c d y = ((unlike y a && unlike y b) && unlike y c) && unlike y d

unfoldable pub all_unlike : (a b c d : ℕ) → Bool
all_unlike a b c d = ((((unlike a b && unlike a c) && unlike a d) && unlike b c) && unlike b d) && unlike c d

pub distinct_next : (ids : ℕ → ℕ) (n : ℕ) → distinct (table (n + 1) ids) ≡ (distinct (table n ids) && every (λ y. unlike y (ids n)) (table n ids))
unfolding table unlike
distinct_next ids n = rw add-one (distinct_last (table n ids) (ids n))

-- the same tests in another order
in_order : (d ea eb ec ed ab ac ad bc bd cd : Bool)
    → ((((d && ea) && (eb && ab)) && ((ec && ac) && bc)) && (((ed && ad) && bd) && cd)) ≡ (d && ((((ea && eb) && ec) && ed) && (((((ab && ac) && ad) && bc) && bd) && cd)))
in_order d ea eb ec ed ab ac ad bc bd cd =
    let so = says_so in
    says_same
    (says_and (says_and (says_and (says_and (so d) (so ea)) (says_and (so eb) (so ab))) (says_and (says_and (so ec) (so ac)) (so bc))) (says_and (says_and (says_and (so ed) (so ad)) (so bd)) (so cd)))
    (says_as
    (says_and (so d) (says_and (says_and (says_and (says_and (so ea) (so eb)) (so ec)) (so ed)) (says_and (says_and (says_and (says_and (says_and (so ab) (so ac)) (so ad)) (so bc)) (so bd)) (so cd))))
    (λ k. let e = k.1.0 in let p = k.1.1 in
    ((((k.0, e.0.0.0), (e.0.0.1, p.0.0.0.0.0)), ((e.0.1, p.0.0.0.0.1), p.0.0.1)), (((e.1, p.0.0.0.1), p.0.1), p.1)))
    (λ k. let b = k.0.0 in let c = k.0.1 in let t = k.1 in
    (b.0.0, ((((b.0.1, b.1.0), c.0.0), t.0.0.0), (((((b.1.1, c.0.1), t.0.0.1), c.1), t.0.1), t.1)))))

every_unlike : (a b c d : ℕ) (l : List ℕ) → every (unlike_all a b c d) l
    ≡ (((every (λ y. unlike y a) l && every (λ y. unlike y b) l) && every (λ y. unlike y c) l) && every (λ y. unlike y d) l)
unfolding unlike_all
every_unlike a b c d l =
    every_and (λ y. (unlike y a && unlike y b) && unlike y c) (λ y. unlike y d) l
    ∙ ap (λ z. z && every (λ y. unlike y d) l)
    (every_and (λ y. unlike y a && unlike y b) (λ y. unlike y c) l ∙ ap (λ z. z && every (λ y. unlike y c) l) (every_and (λ y. unlike y a) (λ y. unlike y b) l))

four_last : (l : List ℕ) (a b c d : ℕ)
    → distinct ((((l ++ (a ∷ [])) ++ (b ∷ [])) ++ (c ∷ [])) ++ (d ∷ [])) ≡ (distinct l && (every (unlike_all a b c d) l && all_unlike a b c d))
unfolding all_unlike
four_last l a b c d =
    rw (distinct_last, distinct_last, distinct_last, distinct_last, every_last, every_last, every_last, every_last, every_last, every_last, every_unlike)
    (in_order (distinct l) (every (λ y. unlike y a) l) (every (λ y. unlike y b) l) (every (λ y. unlike y c) l) (every (λ y. unlike y d) l)
    (unlike a b) (unlike a c) (unlike a d) (unlike b c) (unlike b d) (unlike c d))

pub distinct_four : (ids : ℕ → ℕ) (n : ℕ)
    → distinct (table (n + 4) ids)
    ≡ (distinct (table n ids) && (every (unlike_all (ids n) (ids (n + 1)) (ids (n + 2)) (ids (n + 3))) (table n ids) && all_unlike (ids n) (ids (n + 1)) (ids (n + 2)) (ids (n + 3))))
unfolding table
distinct_four ids n =
    let four : n + 4 ≡ suc (suc (suc (suc n))) = omega arith in
    let three : n + 3 ≡ suc (suc (suc n)) = omega arith in
    let two : n + 2 ≡ suc (suc n) = omega arith in
    rw (four, three, two, add-one) (four_last (table n ids) (ids n) (ids (suc n)) (ids (suc (suc n))) (ids (suc (suc (suc n)))))

-- The same of merged failures: one identifier against the first n, and four of them, and among each other.
pub distinct_none : (ids : ℕ → ℕ) → distinct (table 0 ids) ≡ true
unfolding table distinct
distinct_none ids = refl

pub merged_next : (ids : ℕ → ℕ) (n x : ℕ) → x ≡ merged n (λ j. when unlike (ids j) (ids n) then 0 else 1) → (distinct (table n ids) && nat_eq x 0) ≡ distinct (table (n + 1) ids)
merged_next ids n x e =
    ap (λ z. distinct (table n ids) && z) (ap (λ z. nat_eq z 0) e ∙ merged_test _ (λ y. unlike y (ids n)) ids n (λ j l. failure_test (unlike (ids j) (ids n))))
    ∙ sym (distinct_next ids n)

pub merged_four : (ids : ℕ → ℕ) (n x y : ℕ)
    → x ≡ merged n (λ j. when unlike_all (ids n) (ids (n + 1)) (ids (n + 2)) (ids (n + 3)) (ids j) then 0 else 1)
    → y ≡ (when all_unlike (ids n) (ids (n + 1)) (ids (n + 2)) (ids (n + 3)) then 0 else 1)
    → (distinct (table n ids) && nat_eq (bit_or x y) 0) ≡ distinct (table (n + 4) ids)
merged_four ids n x y ex ey =
    ap (λ z. distinct (table n ids) && z)
    (or_test x y
    ∙ ap₂ (λ a b. a && b)
    (ap (λ z. nat_eq z 0) ex ∙ merged_test _ (unlike_all (ids n) (ids (n + 1)) (ids (n + 2)) (ids (n + 3))) ids n (λ j l. failure_test (unlike_all (ids n) (ids (n + 1)) (ids (n + 2)) (ids (n + 3)) (ids j))))
    (ap (λ z. nat_eq z 0) ey ∙ failure_test (all_unlike (ids n) (ids (n + 1)) (ids (n + 2)) (ids (n + 3)))))
    ∙ sym (distinct_four ids n)
