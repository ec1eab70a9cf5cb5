-- Rows and the buffers in which they lie: names that pass the test of the writing call are rows, and rows are such names.
-- Assumes nothing.
use Rattle.std.specs.Prelude.{◌≡◌, refl, Bool, true, false, List, [], ◌∷◌, ◌++◌, ℕ, ◌+◌, ◌≤◌, ◌<◌, nat_eq, length}
use Rattle.std.proofs.Common.{ap, ap₂, sym, ◌∙◌, arith, eqb→eq}
use Rattle.lists.specs.Basics.{when◌then◌else◌, All, every}
use Rattle.lists.specs.Tests.{and_left, and_right, and_both, T_true, true_T, →eqb}
use Rattle.sheets.specs.Grammar.{Row, non_zero}
use Rattle.sheets.specs.Rows.{names_of, identifiers_of}
use Rattle.sheets.specs.Writer.{first_name, behind_name, rows_in, zeros, ends_well, names_for}
use Rattle.sheets.specs.Bytes.{every_head, every_tail, every_more, every_none, not_zero, zero_not}

-- a name without a zero byte
abbrev pub Named : Row → Type 0
Named r = every non_zero r.name ≡ true

-- A row that can be written: its name holds no zero byte, and its identifier is a word.
abbrev pub Writable : Row → Type 0
Writable r = Named r × (r.identifier < 4294967296)

module _ (b : ℕ) (s : List ℕ) where
  -- the first byte ends the name, or is its first
  pub first_zero : nat_eq b 0 ≡ true → (first_name (b ∷ s) ≡ []) × (behind_name (b ∷ s) ≡ s) × (zeros (b ∷ s) ≡ 1 + zeros s)
  unfolding first_name behind_name zeros when◌then◌else◌
  first_zero e = (rw e, rw e, rw e)

  pub first_more : nat_eq b 0 ≡ false → (first_name (b ∷ s) ≡ b ∷ first_name s) × (behind_name (b ∷ s) ≡ behind_name s) × (zeros (b ∷ s) ≡ zeros s)
  unfolding first_name behind_name zeros when◌then◌else◌
  first_more e = (rw e, rw e, rw e)

pub split_name : (l : List ℕ) → 1 ≤ zeros l → (l ≡ first_name l ++ (0 ∷ behind_name l)) × (zeros l ≡ 1 + zeros (behind_name l))
unfolding zeros
split_name [] h = absurd (omega arith)
split_name (b ∷ s) h = go (nat_eq b 0) refl (split_name s)
  where
    go : (t : Bool) → nat_eq b 0 ≡ t → (1 ≤ zeros s → (s ≡ first_name s ++ (0 ∷ behind_name s)) × (zeros s ≡ 1 + zeros (behind_name s)))
        → (b ∷ s ≡ first_name (b ∷ s) ++ (0 ∷ behind_name (b ∷ s))) × (zeros (b ∷ s) ≡ 1 + zeros (behind_name (b ∷ s)))
    go true e ih =
        let k = first_zero b s e in
        (ap (λ z. z ∷ s) (eqb→eq b 0 (true_T _ e)) ∙ sym (ap₂ (λ x y. x ++ (0 ∷ y)) k.0 k.1), k.2 ∙ ap (λ y. 1 + zeros y) (sym k.1))
    go false e ih =
        let k = first_more b s e in
        let r = ih (rw k.2 at h) in
        (ap (λ z. b ∷ z) r.0 ∙ sym (ap₂ (λ x y. x ++ (0 ∷ y)) k.0 k.1), k.2 ∙ r.1 ∙ ap (λ y. 1 + zeros y) (sym k.1))

pub first_named : (l : List ℕ) → every non_zero (first_name l) ≡ true
unfolding first_name
first_named [] = every_none non_zero
first_named (b ∷ s) = go (nat_eq b 0) refl (first_named s)
  where
    go : (t : Bool) → nat_eq b 0 ≡ t → every non_zero (first_name s) ≡ true → every non_zero (first_name (b ∷ s)) ≡ true
    go true e ih = rw (first_zero b s e).0 (every_none non_zero)
    go false e ih = rw (first_more b s e).0 (every_more non_zero b (first_name s) (zero_not b e) ih)

ends_tail : (b : ℕ) (s : List ℕ) → ends_well (b ∷ s) ≡ true → ends_well s ≡ true
unfolding ends_well
ends_tail b [] e = refl
ends_tail b (c ∷ s) e = e

ends_behind : (l : List ℕ) → ends_well l ≡ true → ends_well (behind_name l) ≡ true
unfolding behind_name when◌then◌else◌
ends_behind [] e = e
ends_behind (b ∷ s) e = go (nat_eq b 0) refl (ends_behind s (ends_tail b s e))
  where
    go : (t : Bool) → nat_eq b 0 ≡ t → ends_well (behind_name s) ≡ true → ends_well (behind_name (b ∷ s)) ≡ true
    go true q ih = rw (first_zero b s q).1 (ends_tail b s e)
    go false q ih = rw (first_more b s q).1 ih

-- no zero byte, and the end of the last name: nothing at all
no_names : (l : List ℕ) → zeros l ≡ 0 → ends_well l ≡ true → l ≡ []
unfolding zeros ends_well when◌then◌else◌
no_names [] z e = refl
no_names (b ∷ []) z e = absurd (let h : 1 + zeros [] ≡ 0 = sym (first_zero b [] e).2 ∙ z in omega arith)
no_names (b ∷ c ∷ s) z e = go (nat_eq b 0) refl (no_names (c ∷ s))
  where
    go : (t : Bool) → nat_eq b 0 ≡ t → (zeros (c ∷ s) ≡ 0 → ends_well (c ∷ s) ≡ true → c ∷ s ≡ []) → b ∷ c ∷ s ≡ []
    go true q ih = absurd (let h : 1 + zeros (c ∷ s) ≡ 0 = sym (first_zero b (c ∷ s) q).2 ∙ z in omega arith)
    go false q ih = let h : ◌≡◌ {A = ℕ} 0 1 = cc (ih (sym (first_more b (c ∷ s) q).2 ∙ z) e) in absurd (omega arith)

-- Names and identifiers that can be written are the rows that they say.
names_in : (l ids : List ℕ) → zeros l ≡ length ids → ends_well l ≡ true → names_of (rows_in l ids) ≡ l
unfolding names_of rows_in
names_in l [] z e = sym (no_names l z e)
names_in l (v ∷ ids) z e =
    let r = split_name l (omega arith) in
    ap (λ k. first_name l ++ (0 ∷ k)) (names_in (behind_name l) ids (omega (arith, r.1)) (ends_behind l e)) ∙ sym r.0

pub ids_in : (l ids : List ℕ) → identifiers_of (rows_in l ids) ≡ ids
unfolding identifiers_of rows_in
ids_in l [] = refl
ids_in l (v ∷ ids) = ap (λ k. v ∷ k) (ids_in (behind_name l) ids)

pub rows_named : (l ids : List ℕ) → All Named (rows_in l ids)
unfolding rows_in
rows_named l [] = tt
rows_named l (v ∷ ids) = (first_named l, rows_named (behind_name l) ids)

pub names_back : (l ids : List ℕ) → names_for l (length ids) ≡ true → names_of (rows_in l ids) ≡ l
unfolding names_for
names_back l ids e =
    let t = true_T _ e in
    names_in l ids (eqb→eq _ _ (and_left (nat_eq (zeros l) (length ids)) (ends_well l) t)) (T_true _ (and_right (nat_eq (zeros l) (length ids)) (ends_well l) t))

-- And the names of rows can be written.
ends_zero : (t : List ℕ) → ends_well t ≡ true → ends_well (0 ∷ t) ≡ true
unfolding ends_well
ends_zero [] e = refl
ends_zero (c ∷ t) e = e

ends_append : (s t : List ℕ) → ends_well (0 ∷ t) ≡ true → ends_well (s ++ (0 ∷ t)) ≡ true
unfolding ends_well
ends_append [] t e = e
ends_append (b ∷ []) t e = e
ends_append (b ∷ c ∷ s) t e = ends_append (c ∷ s) t e

zeros_name : (s t : List ℕ) → every non_zero s ≡ true → zeros (s ++ (0 ∷ t)) ≡ 1 + zeros t
zeros_name [] t e = (first_zero 0 t refl).2
zeros_name (b ∷ s) t e = (first_more b (s ++ (0 ∷ t)) (not_zero b (every_head non_zero b s e))).2 ∙ zeros_name s t (every_tail non_zero b s e)

zeros_names : (rs : List Row) → All Named rs → zeros (names_of rs) ≡ length (identifiers_of rs)
unfolding zeros names_of identifiers_of
zeros_names [] a = refl
zeros_names (r ∷ rs) a = zeros_name r.name (names_of rs) a.0 ∙ omega (arith, zeros_names rs a.1)

ends_names : (rs : List Row) → ends_well (names_of rs) ≡ true
unfolding names_of ends_well
ends_names [] = refl
ends_names (r ∷ rs) = ends_append r.name (names_of rs) (ends_zero (names_of rs) (ends_names rs))

pub names_fit : (rs : List Row) → All Named rs → names_for (names_of rs) (length (identifiers_of rs)) ≡ true
unfolding names_for
names_fit rs a = T_true _ (and_both (nat_eq (zeros (names_of rs)) (length (identifiers_of rs))) (ends_well (names_of rs)) (→eqb _ _ (zeros_names rs a)) (true_T _ (ends_names rs)))

first_of : (s t : List ℕ) → every non_zero s ≡ true → (first_name (s ++ (0 ∷ t)) ≡ s) × (behind_name (s ++ (0 ∷ t)) ≡ t)
first_of [] t e = ((first_zero 0 t refl).0, (first_zero 0 t refl).1)
first_of (b ∷ s) t e =
    let k = first_more b (s ++ (0 ∷ t)) (not_zero b (every_head non_zero b s e)) in
    let r = first_of s t (every_tail non_zero b s e) in
    (k.0 ∙ ap (λ l. b ∷ l) r.0, k.1 ∙ r.1)

-- The buffers say which rows they hold.
pub rows_back : (rs : List Row) → All Named rs → rows_in (names_of rs) (identifiers_of rs) ≡ rs
unfolding rows_in names_of identifiers_of
rows_back [] a = refl
rows_back (r ∷ rs) a =
    let k = first_of r.name (names_of rs) a.0 in
    ap₂ (λ s q. record { name = s; identifier = r.identifier } ∷ q) k.0 (ap (λ l. rows_in l (identifiers_of rs)) k.1 ∙ rows_back rs a.1)
