-- Do the machines differ? Cards are put into buckets by their machine; each card knows the last one before it in its bucket. For every list of
-- numbers f. Assumes nothing.
use Rattle.std.specs.Prelude.{◌≡◌, ◌≢◌, Bool, ◌&&◌, List, nat_eq, get_or, length, set}
use Rattle.std.proofs.Math.Path.{refl, sym, ap, subst}
use Rattle.std.proofs.Common.{◌∙◌, mod-lt, add-one, eqb→eq, get_or-set_same, get_or-set_other}
use Rattle.std.proofs.Math.Bool.{true, false, not}
use Prim.Native.Nat.{ℕ, zero, suc, ◌+◌, ◌-◌, ◌*◌, ◌/◌, ◌%◌, ◌≤◌, ◌<◌}
use Rattle.std.proofs.Math.Decide.{dec_le, ℕ_discrete}
use native.Mathlib.Omega.{arith}
use Rattle.std.proofs.Math.Dec.{T, T_not}
use Rattle.lists.specs.Basics.{when◌then◌else◌, Mem, every, distinct, table}
use Rattle.lists.specs.Choice.{choose}
use Rattle.lists.specs.Members.{mem_at, place, filled}
use Rattle.lists.specs.Tests.{says_every, says_not, says_eq, T_true, →eqb}
use Rattle.lists.specs.Blocks.{length_table, get_or_table}
use Rattle.protocol.specs.Cards.{card_start}
use Rattle.lists.specs.Merge.{merged, merged_test, merged_next, failure_test, unlike}

T_false : (b : Bool) → T (not b) → b ≡ false
T_false true t = absurd t
T_false false t = refl

-- the machine of card j
abbrev pub machine_of : List ℕ → ℕ → ℕ
machine_of k j = get_or k (card_start j) 0

-- the bucket of a machine, one of 1024
abbrev pub buckets : ℕ
buckets = 1024

unfoldable pub bucket_of : ℕ → ℕ
bucket_of v = v * 2654435769 / 4194304 % buckets

pub bucket_below : (v : ℕ) → bucket_of v < buckets
unfolding bucket_of
bucket_below v = mod-lt (v * 2654435769 / 4194304) (omega arith)

-- one more than the last place below i whose number is in bucket b, or 0
unfoldable pub last : (ℕ → ℕ) → ℕ → ℕ → ℕ
last f b zero = 0
last f b (suc i) = when nat_eq (bucket_of (f i)) b then suc i else last f b i

pub last_none : (f : ℕ → ℕ) (b : ℕ) → last f b 0 ≡ 0
unfolding last
last_none f b = refl

module _ (f : ℕ → ℕ) (b : ℕ) where
  pub last_here : (i : ℕ) → bucket_of (f i) ≡ b → last f b (i + 1) ≡ i + 1
  unfolding last
  last_here i e =
      ap (last f b) (add-one i)
      ∙ choose (λ z. z ≡ i + 1) (nat_eq (bucket_of (f i)) b) (suc i) (last f b i) (λ _. sym (add-one i)) (λ t. absurd (T_not (nat_eq (bucket_of (f i)) b) t (→eqb _ b e)))

  pub last_other : (i : ℕ) → bucket_of (f i) ≢ b → last f b (i + 1) ≡ last f b i
  unfolding last
  last_other i ne =
      ap (last f b) (add-one i)
      ∙ choose (λ z. z ≡ last f b i) (nat_eq (bucket_of (f i)) b) (suc i) (last f b i) (λ t. absurd (ne (eqb→eq _ b t))) (λ _. refl)

  -- what the last place says: no later one is in the bucket, and it is
  pub record Chain (i p : ℕ) : Type 0 where
    pub low : p ≤ i
    pub above : (j : ℕ) → p ≤ j → j < i → bucket_of (f j) ≢ b
    pub at : (j : ℕ) → p ≡ suc j → bucket_of (f j) ≡ b

  pub chain : (i : ℕ) → Chain i (last f b i)
  unfolding last
  chain zero = record { low = omega arith; above = λ j l u. absurd (omega arith); at = λ j e. absurd (omega arith) }
  chain (suc i) =
      choose (Chain (suc i)) (nat_eq (bucket_of (f i)) b) (suc i) (last f b i)
      (λ t. record {
        low = omega arith;
        above = λ j l u. absurd (omega arith);
        at = λ j e. (let q : j ≡ i = omega arith in subst (λ z. bucket_of (f z) ≡ b) (sym q) (eqb→eq _ b t));
      })
      (λ t. more (chain i) (λ e. T_not (nat_eq (bucket_of (f i)) b) t (→eqb _ b e)))
    where
      more : Chain i (last f b i) → bucket_of (f i) ≢ b → Chain (suc i) (last f b i)
      more c ne = record {
        low = omega (arith, c.low);
        above = λ j l u. elim (ℕ_discrete j i) [ yes e ↦ (λ q. ne (sym (ap (λ z. bucket_of (f z)) e) ∙ q)) | no e ↦ c.above j l (omega arith) ];
        at = c.at;
      }

-- number i is none of those before it
unfoldable pub unmet : (ℕ → ℕ) → ℕ → Bool
unmet f i = every (λ y. unlike y (f i)) (table i f)

module _ (f : ℕ → ℕ) (i : ℕ) where
  pub unmet_yes : ((j : ℕ) → j < i → f j ≢ f i) → unmet f i ≡ true
  unfolding unmet unlike
  unmet_yes g = T_true _ ((says_every (λ y. not (nat_eq y (f i))) (λ y. ¬ (y ≡ f i)) (λ y. says_not (says_eq y (f i))) (table i f)).fro
      (λ y k e. (let p = place y (table i f) 0 k in
      let l : p.0 < i = omega (arith, p.1, length_table i f) in
      g p.0 l (sym (get_or_table i f p.0 0 l) ∙ p.2 ∙ e))))

  pub unmet_no : (j : ℕ) → j < i → f j ≡ f i → unmet f i ≡ false
  unfolding unmet unlike
  unmet_no j l e = go (unmet f i) refl
    where
      go : (b : Bool) → unmet f i ≡ b → b ≡ false
      go false q = refl
      go true q = absurd ((says_every (λ y. not (nat_eq y (f i))) (λ y. ¬ (y ≡ f i)) (λ y. says_not (says_eq y (f i))) (table i f)).to (subst T (sym q) tt)
          (f j) (subst (λ z. Mem z (table i f)) (get_or_table i f j 0 l) (mem_at (table i f) j 0 (omega (arith, length_table i f)))) e)

pub distinct_more : (f : ℕ → ℕ) (i : ℕ) → distinct (table (i + 1) f) ≡ (distinct (table i f) && unmet f i)
unfolding unmet
distinct_more f i =
    sym (merged_next f i (merged i (λ j. when unlike (f j) (f i) then 0 else 1)) refl)
    ∙ ap (λ z. distinct (table i f) && z) (merged_test _ (λ y. unlike y (f i)) f i (λ j l. failure_test (unlike (f j) (f i))))

-- A repeated number stays one, however many follow.
pub distinct_fails : (f : ℕ → ℕ) (i n : ℕ) → distinct (table i f) ≡ false → i ≤ n → distinct (table n f) ≡ false
unfolding table
distinct_fails f i zero e l = let q : i ≡ zero = omega arith in subst (λ z. distinct (table z f) ≡ false) q e
distinct_fails f i (suc n) e l = go (ℕ_discrete i (suc n)) (λ k. distinct_fails f i n e k)
  where
    go : Dec (i ≡ suc n) → (i ≤ n → distinct (table n f) ≡ false) → distinct (table (suc n) f) ≡ false
    go (yes q) h = subst (λ z. distinct (table z f) ≡ false) q e
    go (no q) h = ap (λ z. distinct (table z f)) (sym (add-one n)) ∙ distinct_more f n ∙ ap (λ z. z && unmet f n) (h (omega arith))

-- Walking back from p: all from u on are other numbers than number i, and p is the last before u in its bucket.
pub record Walk (f : ℕ → ℕ) (i p : ℕ) : Type 0 where
  pub from : ℕ
  pub is : p ≡ last f (bucket_of (f i)) from
  pub low : from ≤ i
  pub other : (j : ℕ) → from ≤ j → j < i → f j ≢ f i

module _ (f : ℕ → ℕ) (i : ℕ) where
  abbrev b : ℕ
  b = bucket_of (f i)

  pub walk_start : (p : ℕ) → p ≡ last f (bucket_of (f i)) i → Walk f i p
  walk_start p e = record { from = i; is = e; low = omega arith; other = λ j l u. absurd (omega arith) }

  pub walk_low : (p : ℕ) → Walk f i p → p ≤ i
  walk_low p w = omega (arith, w.is, w.low, (chain f b w.from).low)

  -- those that are no more than p away
  past : (p : ℕ) (w : Walk f i p) (j : ℕ) → p ≤ j → j < i → f j ≢ f i
  past p w j l u = go (dec_le w.from j)
    where
      go : Dec (w.from ≤ j) → f j ≢ f i
      go (yes k) = w.other j k u
      go (no k) = λ e. (chain f b w.from).above j (omega (arith, w.is)) (omega arith) (ap bucket_of e)

  -- a step back
  pub walk_on : (p q : ℕ) (w : Walk f i p) → 0 < p → f (p - 1) ≢ f i → q ≡ last f (bucket_of (f (p - 1))) (p - 1) → Walk f i q
  walk_on p q w l ne e = record {
    from = p - 1;
    is = e ∙ ap (λ z. last f z (p - 1)) ((chain f b w.from).at (p - 1) (omega (arith, w.is)));
    low = omega (arith, walk_low p w);
    other = λ j k u. elim (ℕ_discrete j (p - 1)) [ yes x ↦ (λ z. ne (ap f (sym x) ∙ z)) | no x ↦ past p w j (omega arith) u ];
  }

  pub walk_ends : (p : ℕ) → Walk f i p → p ≡ 0 → unmet f i ≡ true
  walk_ends p w e = unmet_yes f i (λ j u. past p w j (omega arith) u)

  pub walk_meets : (p : ℕ) → Walk f i p → 0 < p → f (p - 1) ≡ f i → unmet f i ≡ false
  walk_meets p w l e = unmet_no f i (p - 1) (omega (arith, walk_low p w)) e

-- The first i numbers are in their buckets.
pub record Filed (f : ℕ → ℕ) (heads earlier : List ℕ) (i : ℕ) : Type 0 where
  pub heads_are : (b : ℕ) → b < buckets → get_or heads b 0 ≡ last f b i
  pub earlier_are : (j : ℕ) → j < i → get_or earlier j 0 ≡ last f (bucket_of (f j)) j

pub filed_none : (f : ℕ → ℕ) (heads earlier : List ℕ) → ((b : ℕ) → b < buckets → get_or heads b 0 ≡ 0) → Filed f heads earlier 0
filed_none f heads earlier z = record { heads_are = λ b l. z b l ∙ sym (last_none f b); earlier_are = λ j l. absurd (omega arith) }

-- what the head of its bucket says to number i
pub filed_start : (f : ℕ → ℕ) (heads earlier : List ℕ) (i b : ℕ) → Filed f heads earlier i → b ≡ bucket_of (f i) → get_or heads b 0 ≡ last f (bucket_of (f i)) i
filed_start f heads earlier i b F e = ap (λ z. get_or heads z 0) e ∙ F.heads_are (bucket_of (f i)) (bucket_below (f i))

pub filed_more : (f : ℕ → ℕ) (heads earlier : List ℕ) (i b : ℕ) → Filed f heads earlier i → b ≡ bucket_of (f i) → length heads ≡ buckets → i < length earlier
    → Filed f (set heads b (i + 1)) (set earlier i (get_or heads b 0)) (i + 1)
filed_more f heads earlier i b F e size room = record {
  heads_are = λ x l. elim (ℕ_discrete x b) [
    | yes q ↦ ap (λ z. get_or (set heads b (i + 1)) z 0) q ∙ get_or-set_same heads b (i + 1) 0 (omega (arith, q)) ∙ sym (last_here f x i (sym e ∙ sym q))
    | no q ↦ get_or-set_other heads b x (i + 1) 0 q ∙ F.heads_are x l ∙ sym (last_other f x i (λ z. q (sym (e ∙ z))))
  ];
  earlier_are = filled earlier i (get_or heads b 0) 0 (λ j. last f (bucket_of (f j)) j) room (filed_start f heads earlier i b F e) F.earlier_are;
}
