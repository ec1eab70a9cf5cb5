-- Tests, and what each of them says. Assumes nothing.
use Rattle.std.specs.Prelude.{◌≡◌, refl, ◌⊎◌, Bool, true, false, not, ◌&&◌, ◌||◌, List, [], ◌∷◌, ℕ, ◌+◌, ◌≤◌, ◌<◌, T, nat_le, nat_lt, nat_eq}
use Rattle.std.proofs.Common.{sym, subst, inl, inr, arith, leb→le, le→leb, ltb→lt, lt→ltb, eqb→eq, T_not}
use Rattle.std.proofs.Math.Dec.{eqb_refl, not_T}
use Rattle.lists.specs.Basics.{when◌then◌else◌, Mem, every, distinct}

pub and_left : (a b : Bool) → T (a && b) → T a
and_left true b t = tt
and_left false b t = t

pub and_right : (a b : Bool) → T (a && b) → T b
and_right true b t = t
and_right false b t = absurd t

pub and_both : (a b : Bool) → T a → T b → T (a && b)
and_both true b s t = t
and_both false b s t = absurd s

-- true and false as the second test
pub and_true : (a : Bool) → (a && true) ≡ a
and_true true = refl
and_true false = refl

pub and_false : (a : Bool) → (a && false) ≡ false
and_false true = refl
and_false false = refl

pub →eqb : (x y : ℕ) → x ≡ y → T (nat_eq x y)
→eqb x y e = subst (λ z. T (nat_eq x z)) e (eqb_refl x)

-- a test that passes is true, and the other way round
pub T_true : (b : Bool) → T b → b ≡ true
T_true true t = refl
T_true false t = absurd t

pub true_T : (b : Bool) → b ≡ true → T b
true_T b e = subst T (sym e) tt

-- a test and what it says
pub record Says (b : Bool) (P : Type 0) : Type 0 where
  pub to : T b → P
  pub fro : P → T b

module _ {a b : Bool} {P Q : Type 0} (p : Says a P) (q : Says b Q) where
  pub says_and : Says (a && b) (P × Q)
  says_and = record { to = λ t. (p.to (and_left a b t), q.to (and_right a b t)); fro = λ k. and_both a b (p.fro k.0) (q.fro k.1) }

  pub says_or : Says (a || b) (P ⊎ Q)
  says_or = record { to = λ t. go a p.to t; fro = λ k. back a (elim k [ inl x ↦ inl (p.fro x) | inr x ↦ inr (q.fro x) ]) }
    where
      go : (a : Bool) → (T a → P) → T (a || b) → P ⊎ Q
      go true f t = inl (f tt)
      go false f t = inr (q.to t)

      back : (a : Bool) → T a ⊎ T b → T (a || b)
      back true k = tt
      back false k = elim k [ inl x ↦ absurd x | inr x ↦ x ]

-- a choice between two tests: each arm under what chose it
pub says_if : {a b c : Bool} {P Q R : Type 0} → Says a P → Says b Q → Says c R → Says (when a then b else c) ((P → Q) × (¬ P → R))
unfolding when◌then◌else◌
says_if {a} {b} {c} {P} {Q} {R} p q r = go a p
  where
    go : (a : Bool) → Says a P → Says (when a then b else c) ((P → Q) × (¬ P → R))
    go true s = record { to = λ t. ((λ x. q.to t), λ n. absurd (n (s.to tt))); fro = λ k. q.fro (k.0 (s.to tt)) }
    go false s = record { to = λ t. ((λ x. absurd (s.fro x)), λ n. r.to t); fro = λ k. r.fro (k.1 s.fro) }

pub says_so : (a : Bool) → Says a (T a)
says_so a = record { to = λ t. t; fro = λ t. t }

pub says_le : (m n : ℕ) → Says (nat_le m n) (m ≤ n)
says_le m n = record { to = leb→le m n; fro = le→leb m n }

pub says_lt : (m n : ℕ) → Says (nat_lt m n) (m < n)
says_lt m n = record { to = ltb→lt m n; fro = lt→ltb m n }

pub says_eq : (m n : ℕ) → Says (nat_eq m n) (m ≡ n)
says_eq m n = record { to = eqb→eq m n; fro = →eqb m n }

pub says_not : {a : Bool} {P : Type 0} → Says a P → Says (not a) (¬ P)
says_not {a} p = record { to = λ t x. T_not a t (p.fro x); fro = λ f. not_T a (λ t. f (p.to t)) }

pub says_as : {a : Bool} {P Q : Type 0} → Says a P → (P → Q) → (Q → P) → Says a Q
says_as p f g = record { to = λ t. f (p.to t); fro = λ x. p.fro (g x) }

-- two tests that say the same are the same
pub says_same : {a b : Bool} {P : Type 0} → Says a P → Says b P → a ≡ b
says_same {a} {b} {P} p q = go a b (λ t. q.fro (p.to t)) (λ t. p.fro (q.to t))
  where
    go : (a b : Bool) → (T a → T b) → (T b → T a) → a ≡ b
    go true true f g = refl
    go true false f g = absurd (f tt)
    go false true f g = absurd (g tt)
    go false false f g = refl

pub says_every : {A : Type 0} (f : A → Bool) (P : A → Type 0) → ((x : A) → Says (f x) (P x)) → (l : List A) → Says (every f l) ((x : A) → Mem x l → P x)
unfolding every
says_every f P s [] = record { to = λ t x k. absurd k; fro = λ g. tt }
says_every f P s (x ∷ l) = record {
  to = λ t y. elim [ inl e ↦ subst P (sym e) ((s x).to (and_left (f x) (every f l) t)) | inr k ↦ (says_every f P s l).to (and_right (f x) (every f l) t) y k ];
  fro = λ g. and_both (f x) (every f l) ((s x).fro (g x (inl refl))) ((says_every f P s l).fro (λ y k. g y (inr k)));
}

-- no element twice
unfoldable pub Distinct : List ℕ → Type 0
Distinct [] = Unit {0}
Distinct (x ∷ l) = ((y : ℕ) → Mem y l → ¬ (x ≡ y)) × Distinct l

pub says_distinct : (l : List ℕ) → Says (distinct l) (Distinct l)
unfolding distinct Distinct
says_distinct [] = record { to = λ t. tt; fro = λ t. tt }
says_distinct (x ∷ l) = says_and (says_every (λ y. not (nat_eq x y)) (λ y. ¬ (x ≡ y)) (λ y. says_not (says_eq x y)) l) (says_distinct l)

-- the upper end of a range as it is compiled, where it is asked whether m is below the number after n
pub before_next : (m n : ℕ) → m < n + 1 → nat_le m n ≡ true
before_next m n l = T_true (nat_le m n) (le→leb m n (omega arith))

pub not_before_next : (m n : ℕ) → n + 1 ≤ m → nat_le m n ≡ false
not_before_next m n l = go (nat_le m n) (leb→le m n)
  where
    go : (b : Bool) → (T b → m ≤ n) → b ≡ false
    go true f = absurd (omega (arith, f tt))
    go false f = refl
