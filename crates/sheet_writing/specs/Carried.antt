-- The words of bytes, four by four. Assumes nothing.
use Rattle.std.specs.Prelude.{◌≡◌, refl, List, [], ◌∷◌, ℕ, zero, suc, ◌+◌, ◌*◌, ◌/◌, ◌≤◌, length, get_or, map}
use Rattle.std.specs.Int.{w32, from_le_bytes}
use Rattle.std.specs.Simd.{first_chunks}
use Rattle.std.proofs.Common.{ap, ap₂, ◌∙◌, arith}
use Rattle.protocol.specs.Bytes.{words_of}

pub length_words_of : (b : List ℕ) → length (words_of b) ≡ length b / 4
unfolding words_of
length_words_of [] = refl
length_words_of (a ∷ []) = refl
length_words_of (a ∷ b ∷ []) = refl
length_words_of (a ∷ b ∷ c ∷ []) = refl
length_words_of (a ∷ b ∷ c ∷ d ∷ l) = let e = length_words_of l in omega arith

chunk_words_from : (b : List ℕ) (n : ℕ) → n ≡ length b / 4 → map (from_le_bytes w32) (first_chunks 4 n b) ≡ words_of b
unfolding words_of
chunk_words_from [] zero e = refl
chunk_words_from [] (suc n) e = absurd (omega arith)
chunk_words_from (a ∷ []) zero e = refl
chunk_words_from (a ∷ []) (suc n) e = absurd (omega arith)
chunk_words_from (a ∷ b ∷ []) zero e = refl
chunk_words_from (a ∷ b ∷ []) (suc n) e = absurd (omega arith)
chunk_words_from (a ∷ b ∷ c ∷ []) zero e = refl
chunk_words_from (a ∷ b ∷ c ∷ []) (suc n) e = absurd (omega arith)
chunk_words_from (a ∷ b ∷ c ∷ d ∷ l) zero e = absurd (omega arith)
chunk_words_from (a ∷ b ∷ c ∷ d ∷ l) (suc n) e = ap₂ (λ x y. x ∷ y) (omega arith) (chunk_words_from l n (omega arith))

pub chunk_words : (b : List ℕ) → map (from_le_bytes w32) (first_chunks 4 (length b / 4) b) ≡ words_of b
chunk_words b = chunk_words_from b (length b / 4) refl

-- one by one
pub word_at : (b : List ℕ) (i : ℕ) → 4 * i + 4 ≤ length b → get_or b (4 * i) 0 + 256 * get_or b (4 * i + 1) 0 + 65536 * get_or b (4 * i + 2) 0 + 16777216 * get_or b (4 * i + 3) 0 ≡ get_or (words_of b) i 0
unfolding words_of
word_at [] i h = absurd (omega arith)
word_at (a ∷ []) i h = absurd (omega arith)
word_at (a ∷ b ∷ []) i h = absurd (omega arith)
word_at (a ∷ b ∷ c ∷ []) i h = absurd (omega arith)
word_at (a ∷ b ∷ c ∷ d ∷ l) zero h = refl
word_at (a ∷ b ∷ c ∷ d ∷ l) (suc i) h =
    let m = a ∷ b ∷ c ∷ d ∷ l in
    let p : 4 * suc i ≡ suc (suc (suc (suc (4 * i)))) = omega arith in
    let q : 4 * suc i + 1 ≡ suc (suc (suc (suc (4 * i + 1)))) = omega arith in
    let r : 4 * suc i + 2 ≡ suc (suc (suc (suc (4 * i + 2)))) = omega arith in
    let s : 4 * suc i + 3 ≡ suc (suc (suc (suc (4 * i + 3)))) = omega arith in
    ap₂ (λ x y. x + y) (ap₂ (λ x y. x + y) (ap₂ (λ x y. x + y) (ap (λ k. get_or m k 0) p) (ap (λ k. 256 * get_or m k 0) q)) (ap (λ k. 65536 * get_or m k 0) r)) (ap (λ k. 16777216 * get_or m k 0) s)
    ∙ word_at l i (omega arith)
