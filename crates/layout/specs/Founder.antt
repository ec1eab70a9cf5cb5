-- The hub with the smallest identifier: how a walk along the list finds it, and that it is there. Assumes nothing.
use Rattle.std.specs.Prelude.{◌≡◌, Bool, true, List, ℕ, zero, suc, ◌+◌, ◌-◌, ◌≤◌, ◌<◌, nat_le, get_or}
use Rattle.std.proofs.Math.Path.{sym}
use Rattle.std.proofs.Common.{◌∙◌, ap, subst, add-one}
use Rattle.std.proofs.Math.Logic.{inl, inr}
use Rattle.std.proofs.Math.Decide.{dec_lt}
use native.Mathlib.Omega.{arith}
use Rattle.std.proofs.Math.ListN.{length}
use Rattle.lists.specs.Basics.{every, first, Mem}
use Rattle.lists.specs.Members.{mem_at, place}
use Rattle.lists.specs.Search.{first_none, first_at, search_ends}
use Rattle.lists.specs.Tests.{Says, T_true, true_T, says_le, says_every}
use Rattle.protocol.specs.Fresh.{smallest}

-- What holds below n, and of n, holds below n + 1.
up_to : (P : ℕ → Type 0) (n : ℕ) → ((k : ℕ) → k < n → P k) → P n → (k : ℕ) → k < n + 1 → P k
up_to P n f p k l = elim (dec_lt k n) [ yes h ↦ f k h | no h ↦ subst P (last h) p ]
  where
    last : ¬ (k < n) → n ≡ k
    last h = omega arith

module _ (ids : List ℕ) where
  abbrev pub name : ℕ → ℕ
  name hub = get_or ids hub 0

  -- Among the first n hubs this one has the smallest identifier, and is the first that has it.
  pub record Least (n hub : ℕ) : Type 0 where
    pub below : hub < n
    pub low : (other : ℕ) → other < n → name hub ≤ name other
    pub before : (other : ℕ) → other < hub → name hub < name other

  pub least_one : Least 1 0
  least_one = record { below = omega arith; low = up_to (λ k. name 0 ≤ name k) 0 (λ k l. absurd (omega arith)) (omega arith); before = λ other l. absurd (omega arith) }

  -- One hub more: its identifier is below the least so far, or it is not.
  module _ (n hub : ℕ) (k : Least n hub) where
    pub least_new : name n < name hub → Least (n + 1) n
    least_new l = record {
      below = omega arith;
      low = up_to (λ z. name n ≤ name z) n (λ other m. omega (arith, k.low other m)) (omega arith);
      before = λ other m. omega (arith, k.low other m);
    }

    pub least_same : name hub ≤ name n → Least (n + 1) hub
    least_same l = record { below = omega (arith, k.below); low = up_to (λ z. name hub ≤ name z) n k.low l; before = k.before }

  -- Among all hubs it is the smallest of the definition.
  test : ℕ → Bool
  test hub = every (nat_le (name hub)) ids

  says_test : (hub : ℕ) → Says (test hub) ((x : ℕ) → Mem x ids → name hub ≤ x)
  unfolding test
  says_test hub = says_every (nat_le (name hub)) (λ x. name hub ≤ x) (λ x. says_le (name hub) x) ids

  pub least_is : (hub : ℕ) → Least (length ids) hub → smallest ids ≡ hub
  unfolding smallest test
  least_is hub k = first_at test (length ids) hub none passes k.below
    where
      none : first test hub ≡ hub
      none = elim (search_ends test hub) [
        | inl f ↦ absurd (omega (arith, k.before (first test hub) f.below, (says_test (first test hub)).to (true_T _ f.here) (name hub) (mem_at ids hub 0 k.below)))
        | inr m ↦ m.end
      ]

      passes : test hub ≡ true
      passes = T_true _ ((says_test hub).fro (λ x m. let p = place x ids 0 m in subst (λ z. name hub ≤ z) p.2 (k.low p.0 p.1)))

  -- Where a walk from hub 0 ends: behind the last hub, or behind hub 0 if there is none.
  pub walk_ends : (i hub : ℕ) → Least i hub → length ids ≤ i → i ≤ 1 + (length ids - 1) → hub ≡ smallest ids
  unfolding smallest test
  walk_ends i hub k l u = elim (dec_lt 0 (length ids)) [
    | yes some ↦ sym (least_is hub (subst (λ n. Least n hub) (end some) k))
    | no none ↦ nobody none ∙ sym (ap (first test) (empty none) ∙ first_none test)
  ]
    where
      end : 0 < length ids → i ≡ length ids
      end some = omega arith

      nobody : ¬ (0 < length ids) → hub ≡ 0
      nobody none = omega (arith, k.below)

      empty : ¬ (0 < length ids) → length ids ≡ 0
      empty none = omega arith

  -- There is one among the first hubs, however many, and so among all.
  least_among : (n : ℕ) → (hub : ℕ) × Least (n + 1) hub
  least_among zero = (0, least_one)
  least_among (suc n) =
      let k = least_among n in
      let h : Least (suc n) k.0 = subst (λ z. Least z k.0) (add-one n) k.1 in
      elim (dec_lt (name (suc n)) (name k.0)) [
        | yes l ↦ (suc n, least_new (suc n) k.0 h l)
        | no l ↦ (k.0, least_same (suc n) k.0 h (omega arith))
      ]

  pub smallest_least : 1 ≤ length ids → Least (length ids) (smallest ids)
  smallest_least some =
      let k = least_among (length ids - 1) in
      let e : length ids - 1 + 1 ≡ length ids = omega arith in
      let h : Least (length ids) k.0 = subst (λ n. Least n k.0) e k.1 in
      subst (Least (length ids)) (sym (least_is k.0 h)) h
