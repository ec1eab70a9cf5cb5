-- A line is gathered byte by byte: up to its LF, or to the end of the input. Assumes nothing.
use Rattle.std.specs.Prelude.{◌≡◌, refl, Bool, true, false, List, [], ◌∷◌, ◌++◌, ℕ, zero, suc, ◌≤◌, ◌<◌, ◌+◌, ◌-◌, min, length, take, drop, set, get_or, nat_eq, nat_lt, Some, None, position}
use Rattle.std.proofs.Common.{ap, sym, ◌∙◌, append_assoc, append-nil, add-one, arith, ltb-false, length-append, length-take, length-take-le, take_all}
use Rattle.std.specs.List.{position_or_len}
use Rattle.std.proofs.Math.Seq.{take-append-add, take-suc-set, drop-cons, drop-length}
use Rattle.std.proofs.lemmas.List.{take-append-le}
use borrow.Author.Tests.{eq-eqb, ne_eqb}
use Rattle.std.proofs.lemmas.List.{take_min}
use Rattle.std.proofs.lemmas.List.Sums.{fails_before_first}
use Rattle.std.proofs.lemmas.List.Quantifiers.{position-Some}
use Rattle.std.proofs.lemmas.Slice.{take-put_mid}
use borrow.Rule.Slice.PartMut.{put_mid}
use Rattle.lists.specs.Basics.{when◌then◌else◌}
use Rattle.texts.specs.Lines.{kept, gathered}

-- one byte more is kept where there is a place for it, and dropped where there is none
module _ (l : List ℕ) (h b : ℕ) where
  pub kept_more : h < length l → take (h + 1) (set l h b) ≡ kept (length l) (take h l) b
  unfolding kept
  kept_more k =
      rw (add-one, take-suc-set l h b k)
      (sym (take_all (length l) (take h l ++ (b ∷ [])) (simp (length-append, length-take) (omega arith))))

  pub kept_full : length l ≤ h → h ≤ length l → take h l ≡ kept (length l) (take h l) b
  unfolding kept
  kept_full k m =
      let e : length l ≡ h = omega arith in
      let f : h ≤ length (take h l) = rw (length-take-le h l m) (omega arith) in
      rw e (sym (take-append-le h (take h l) (b ∷ []) f ∙ take_all h (take h l) (simp length-take (omega arith))))

-- what the next byte does; and at the end of the input
module _ (n : ℕ) (part input : List ℕ) (i : ℕ) where
  pub gathered_end : length input ≤ i → i ≤ length input → gathered n part (drop i input) ≡ record { part = part; ended = false; left = drop i input }
  unfolding gathered
  gathered_end h k =
      let e : i ≡ length input = omega arith in
      rw (e, drop-length input)

  module _ (h : i < length input) where
    pub gathered_ends : get_or input i 0 ≡ 10 → gathered n part (drop i input) ≡ record { part = part; ended = true; left = drop (i + 1) input }
    unfolding gathered when◌then◌else◌
    gathered_ends e = rw (add-one, drop-cons input i 0 h, eq-eqb _ _ e)

    pub gathered_more : (get_or input i 0 ≡ 10 → ⊥) → (held : List ℕ) (m : ℕ) → held ≡ kept m part (get_or input i 0) → m ≡ n
        → gathered n part (drop i input) ≡ gathered n held (drop (i + 1) input)
    unfolding gathered when◌then◌else◌
    gathered_more e held m k f = rw (add-one, drop-cons input i 0 h, ne_eqb _ _ e, k, f)

-- what there is room for is kept whole
pub all_fits : (n : ℕ) (t u : List ℕ) → length t + length u ≤ n → take n (t ++ u) ≡ t ++ u
all_fits n t u h = let e = length-append t u in take_all n (t ++ u) (omega arith)

pub take_more : (n : ℕ) (l t : List ℕ) → take n (take n l ++ t) ≡ take n (l ++ t)
take_more zero l t = refl
take_more (suc n) [] t = refl
take_more (suc n) (x ∷ l) t = ap (λ z. x ∷ z) (take_more n l t)

module _ (n : ℕ) where
  -- one byte is kept, and then the others
  then_more : (part : List ℕ) (b : ℕ) (l : List ℕ) → take n (kept n part b ++ l) ≡ take n (part ++ (b ∷ l))
  unfolding kept
  then_more part b l = take_more n (part ++ (b ∷ [])) l ∙ ap (take n) (append_assoc part (b ∷ []) l)

  kept_few : (part : List ℕ) (b : ℕ) → length (kept n part b) ≤ n
  unfolding kept
  kept_few part b = simp length-take (omega arith)

  all_kept : (part : List ℕ) → length part ≤ n → take n (part ++ []) ≡ part
  all_kept part h = rw append-nil (take_all n part h)

  -- the first LF is at i
  pub line_found : (part input : List ℕ) (i : ℕ) → length part ≤ n → i < length input → nat_eq (get_or input i 0) 10 ≡ true
      → ((k : ℕ) → k < i → nat_eq (get_or input k 0) 10 ≡ false)
      → gathered n part input ≡ record { part = take n (part ++ take i input); ended = true; left = drop (suc i) input }
  unfolding gathered when◌then◌else◌
  line_found part [] i f h e g = absurd (omega arith)
  line_found part (b ∷ rest) zero f h e g = rw (e, all_kept part f)
  line_found part (b ∷ rest) (suc i) f h e g =
      rw (g 0 (omega arith))
      (line_found (kept n part b) rest i (kept_few part b) (omega arith) e (λ k l. g (suc k) (omega arith))
      ∙ ap (λ z. record { part = z; ended = true; left = drop (suc i) rest }) (then_more part b (take i rest)))

  -- there is no LF
  pub no_line : (part input : List ℕ) → length part ≤ n → ((k : ℕ) → k < length input → nat_eq (get_or input k 0) 10 ≡ false)
      → gathered n part input ≡ record { part = take n (part ++ input); ended = false; left = [] }
  unfolding gathered when◌then◌else◌
  no_line part [] f g = rw (all_kept part f)
  no_line part (b ∷ rest) f g =
      rw (g 0 (omega arith))
      (no_line (kept n part b) rest (kept_few part b) (λ k l. g (suc k) (omega arith))
      ∙ ap (λ z. record { part = z; ended = false; left = [] }) (then_more part b rest))

-- the place that a search for LF finds, or does not
none_found : (input : List ℕ) → position (λ b. nat_eq b 10) input ≡ None → (k : ℕ) → k < length input → nat_eq (get_or input k 0) 10 ≡ false
none_found input e k h = fails_before_first (λ b. nat_eq b 10) input k 0 (go (nat_lt at (length input)) refl)
  where
    at : ℕ
    at = position_or_len (λ b. nat_eq b 10) input

    go : (t : Bool) → nat_lt at (length input) ≡ t → k < at
    go true s = let f : Some at ≡ None = rw s at e in absurd (cc)
    go false s = let f = ltb-false at (length input) s in omega arith

module _ (n : ℕ) (part input part' : List ℕ) (few : length part ≤ n) where
  pub goes_on : None ≡ position (λ b. nat_eq b 10) input → part' ≡ take n (part ++ input)
      → gathered n part input ≡ record { part = part'; ended = false; left = [] }
  goes_on e p = no_line n part input few (none_found input (sym e)) ∙ ap (λ z. record { part = z; ended = false; left = [] }) (sym p)

  pub ends : (i : ℕ) → Some i ≡ position (λ b. nat_eq b 10) input → part' ≡ take n (part ++ take i input)
      → (gathered n part input ≡ record { part = part'; ended = true; left = drop (i + 1) input }) × (i < length input)
  ends i e p =
      let f = position-Some (λ b. nat_eq b 10) input i 0 (sym e) in (
        rw add-one (line_found n part input i few f.0 f.1 f.2 ∙ ap (λ z. record { part = z; ended = true; left = drop (suc i) input }) (sym p)),
        f.0,
      )

-- bytes copied behind those that are held, as many as there is room for
pub copied : (n : ℕ) (all bytes new : List ℕ) (held more : ℕ) → held ≤ n → length all ≡ n → more ≡ min (n - held) (length bytes) → new ≡ take more bytes
    → take (held + more) (put_mid held (held + more - held) all new) ≡ take n (take held all ++ bytes)
copied n all bytes new held more h l m e =
    let p : length (take held all) ≡ held = length-take-le held all (omega arith) in
    let q : length (take held all) + (n - held) ≡ n = omega arith in
    let r : length new ≡ more = ap length e ∙ length-take-le more bytes (omega arith) in
    take-put_mid held (held + more - held) all new (held + more) (omega arith) (omega arith)
    ∙ ap (λ z. take held all ++ z) (e ∙ ap (λ k. take k bytes) m ∙ take_min (n - held) bytes)
    ∙ sym (ap (λ k. take k (take held all ++ bytes)) (sym q) ∙ take-append-add (take held all) bytes (n - held))
