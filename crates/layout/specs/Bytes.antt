-- Words as bytes and back. Assumes nothing.
use Rattle.std.specs.Prelude.{◌≡◌, refl, List, [], ◌∷◌, ◌++◌, ℕ, zero, suc, ◌+◌, ◌*◌, ◌/◌, ◌%◌, ◌<◌, length, drop}
use Rattle.std.proofs.Common.{ap, sym, ◌∙◌, drop_of_length-le, append_assoc, append-nil, arith, length-append, drop-drop}
use Rattle.lists.specs.Basics.{All}
use Rattle.lists.specs.Members.{all_drop}
use Rattle.lists.specs.Blocks.{flat_append}
use Rattle.protocol.specs.Record.{round}
use Rattle.protocol.specs.Bytes.{Byte, word_of, word_bytes, words_of, bytes_of, over}

pub word_size : (x : ℕ) → length (word_bytes x) ≡ 4
word_size x = refl

same_bytes : (a b c d : ℕ) → Byte a → Byte b → Byte c → Byte d → word_bytes (word_of a b c d) ≡ a ∷ b ∷ c ∷ d ∷ []
same_bytes a b c d ha hb hc hd =
    let x = word_of a b c d in
    let p : x % 256 ≡ a = omega arith in
    let q : x / 256 ≡ b + 256 * c + 65536 * d = omega arith in
    let r : x / 65536 ≡ c + 256 * d = omega arith in
    let s : x / 16777216 ≡ d = omega arith in
    let i : (b + 256 * c + 65536 * d) % 256 ≡ b = omega arith in
    let j : (c + 256 * d) % 256 ≡ c = omega arith in
    let k : d % 256 ≡ d = omega arith in
    rw (p, q, r, s, i, j, k)

-- one word more
four_more : (n : ℕ) → 4 * suc n ≡ suc (suc (suc (suc (4 * n))))
four_more n = omega arith

-- Bytes read as words and written back are the same bytes, those left over too.
pub round_trip : (b : List ℕ) → All Byte b → over b (words_of b) ≡ b
unfolding words_of over
round_trip [] h = refl
round_trip (x ∷ []) h = refl
round_trip (x ∷ y ∷ []) h = refl
round_trip (x ∷ y ∷ z ∷ []) h = refl
round_trip (x ∷ y ∷ z ∷ u ∷ r) h =
    let n = length (words_of r) in
    let e = four_more n in
    ap (λ l. l ++ (bytes_of (words_of r) ++ drop (4 * suc n) (x ∷ y ∷ z ∷ u ∷ r))) (same_bytes x y z u h.0 h.1.0 h.1.1.0 h.1.1.1.0)
    ∙ ap (λ k. x ∷ y ∷ z ∷ u ∷ (bytes_of (words_of r) ++ drop k (x ∷ y ∷ z ∷ u ∷ r))) e
    ∙ ap (λ l. x ∷ y ∷ z ∷ u ∷ l) (round_trip r h.1.1.1.1)

-- And words below 2^32 written as bytes are read as the same words: a call finds the record that the call before it left.
same_word : (x : ℕ) → x < round → word_of (x % 256) (x / 256 % 256) (x / 65536 % 256) (x / 16777216 % 256) ≡ x
same_word x h =
    let p : x ≡ x % 256 + 256 * (x / 256) = omega arith in
    let q : x / 256 ≡ x / 256 % 256 + 256 * (x / 65536) = omega arith in
    let r : x / 65536 ≡ x / 65536 % 256 + 256 * (x / 16777216) = omega arith in
    let s : x / 16777216 % 256 ≡ x / 16777216 = omega arith in
    omega (arith, p, q, r, s)

pub words_back : (w t : List ℕ) → All (λ x. x < round) w → words_of (bytes_of w ++ t) ≡ w ++ words_of t
unfolding words_of
words_back [] t h = refl
words_back (x ∷ w) t h = rw (same_word x h.0) (ap (λ l. x ∷ l) (words_back w t h.1))

-- The words behind the first n are those of the bytes behind the first 4 n.
pub words_behind : (n : ℕ) (b : List ℕ) → drop n (words_of b) ≡ words_of (drop (4 * n) b)
unfolding words_of
words_behind zero b = refl
words_behind (suc n) [] = rw (four_more n) refl
words_behind (suc n) (x ∷ []) = rw (four_more n) refl
words_behind (suc n) (x ∷ y ∷ []) = rw (four_more n) refl
words_behind (suc n) (x ∷ y ∷ z ∷ []) = rw (four_more n) refl
words_behind (suc n) (x ∷ y ∷ z ∷ u ∷ rest) = rw (four_more n) (words_behind n rest)

-- Words behind the record are written back as they were read: to write the record alone is the same.
pub back : (b s : List ℕ) (n : ℕ) → All Byte b → length s ≡ n → over b (s ++ words_of (drop (4 * n) b)) ≡ over b s
unfolding over
back b s n h e =
    let r = drop (4 * n) b in
    let k : 4 * length (s ++ words_of r) ≡ 4 * n + 4 * length (words_of r) = simp length-append (omega arith) in
    rw (flat_append word_bytes s (words_of r), k, ← drop-drop (4 * length (words_of r)) (4 * n) b, append_assoc)
    (rw e (ap (λ l. bytes_of s ++ l) (round_trip r (all_drop Byte (4 * n) b h))))

-- bytes are read as words below 2^32
pub words_below : (b : List ℕ) → All Byte b → All (λ x. x < round) (words_of b)
unfolding words_of
words_below [] h = tt
words_below (x ∷ []) h = tt
words_below (x ∷ y ∷ []) h = tt
words_below (x ∷ y ∷ z ∷ []) h = tt
words_below (x ∷ y ∷ z ∷ u ∷ r) h = (omega (arith, h.0, h.1.0, h.1.1.0, h.1.1.1.0), words_below r h.1.1.1.1)

-- no word is behind the last
left_over : (b : List ℕ) → words_of (drop (4 * length (words_of b)) b) ≡ []
left_over b = sym (words_behind (length (words_of b)) b) ∙ drop_of_length-le (words_of b) (omega arith)

-- As many words as there were, written over the bytes, are what is read from them afterwards.
pub written_read : (b s : List ℕ) → All (λ x. x < round) s → length s ≡ length (words_of b) → words_of (over b s) ≡ s
unfolding over
written_read b s h e =
    words_back s (drop (4 * length s) b) h
    ∙ ap (λ k. s ++ words_of (drop (4 * k) b)) e
    ∙ ap (λ l. s ++ l) (left_over b)
    ∙ append-nil s
