-- Lists written to the front of a buffer, piece by piece. Assumes nothing.
use Rattle.std.specs.Prelude.{◌≡◌, refl, List, [], ◌∷◌, ◌++◌, ℕ, ◌+◌, ◌≤◌, ◌<◌, length, take, drop, set}
use Rattle.std.proofs.Common.{ap, ap₂, sym, ◌∙◌, append_assoc, append-nil, add-zero, add-one, arith, length-append, length-take, length-drop, take-append-drop, drop-drop, length-take-le}
use Rattle.std.proofs.lemmas.List.{set_split}
use Rattle.std.proofs.Math.Seq.{append_snoc}
use Rattle.lists.specs.Splice.{splice, splice_at}
use Rattle.sheets.specs.Calls.{laid}

pub splice_none : (w : List ℕ) (a : ℕ) → w ≡ splice w a []
unfolding splice
splice_none w a = sym (ap (λ l. l ++ drop (a + 0) w) (append-nil (take a w)) ∙ ap (λ k. take a w ++ drop k w) (add-zero a) ∙ take-append-drop a w)

pub splice_one : (w : List ℕ) (a v : ℕ) → a < length w → set w a v ≡ splice w a (v ∷ [])
unfolding splice
splice_one w a v h = set_split w a v h ∙ ap (λ k. take a w ++ (v ∷ drop k w)) (sym (add-one a)) ∙ sym (append_snoc (take a w) v (drop (a + 1) w))

pub length_splice : (w vs : List ℕ) (a : ℕ) → a + length vs ≤ length w → length (splice w a vs) ≡ length w
unfolding splice
length_splice w vs a h = simp (length-append, length-take, length-drop) (omega arith)

-- two pieces, one behind the other
pub splice_twice : (w u v : List ℕ) (a : ℕ) → a + length u ≤ length w → splice (splice w a u) (a + length u) v ≡ splice w a (u ++ v)
unfolding splice
splice_twice w u v a h =
    let k : length (take a w ++ u) ≡ a + length u = length-append (take a w) u ∙ ap (λ n. n + length u) (length-take-le a w (omega arith)) in
    splice_at (take a w ++ u) (drop (a + length u) w) v (a + length u) k
    ∙ ap (λ l. (take a w ++ u) ++ (v ++ l)) (drop-drop (length v) (a + length u) w)
    ∙ sym (append_assoc (take a w ++ u) v (drop (a + length u + length v) w))
    ∙ ap (λ l. l ++ drop (a + length u + length v) w) (append_assoc (take a w) u v)
    ∙ ap (λ n. (take a w ++ (u ++ v)) ++ drop n w) (let e : a + length u + length v ≡ a + (length u + length v) = omega arith in e ∙ ap (λ n. a + n) (sym (length-append u v)))

pub laid_none : (w : List ℕ) → w ≡ laid w []
unfolding laid
laid_none w = refl

pub laid_more : (w l v : List ℕ) (a : ℕ) → a ≡ length l → splice (laid w l) a v ≡ laid w (l ++ v)
unfolding laid
laid_more w l v a e =
    splice_at l (drop (length l) w) v a (sym e)
    ∙ ap (λ k. l ++ (v ++ k)) (drop-drop (length v) (length l) w ∙ ap (λ n. drop n w) (sym (length-append l v)))
    ∙ sym (append_assoc l v (drop (length (l ++ v)) w))

-- the front of a buffer is a splice at 0
pub laid_splice : (w l : List ℕ) → splice w 0 l ≡ laid w l
unfolding splice laid
laid_splice w l = ap (λ n. l ++ drop n w) (let e : 0 + length l ≡ length l = omega arith in e)

-- three pieces, and four
pub splice_three : (w a b c : List ℕ) (at : ℕ) → at + length (a ++ (b ++ c)) ≤ length w
    → splice (splice (splice w at a) (at + length a) b) (at + length a + length b) c ≡ splice w at (a ++ (b ++ c))
splice_three w a b c at h =
    let x = length-append a (b ++ c) in
    let y = length-append b c in
    let z = length-append a b in
    let e : at + length a + length b ≡ at + length (a ++ b) = omega arith in
    ap₂ (λ l n. splice l n c) (splice_twice w a b at (omega arith)) e ∙ splice_twice w (a ++ b) c at (omega arith) ∙ ap (splice w at) (append_assoc a b c)

pub splice_four : (w a b c d : List ℕ) (at : ℕ) → at + length (a ++ (b ++ (c ++ d))) ≤ length w
    → splice (splice (splice (splice w at a) (at + length a) b) (at + length a + length b) c) (at + length a + length b + length c) d ≡ splice w at (a ++ (b ++ (c ++ d)))
splice_four w a b c d at h =
    let x = length-append a (b ++ (c ++ d)) in
    let y = length-append b (c ++ d) in
    let z = length-append c d in
    let u = length-append a (b ++ c) in
    let v = length-append b c in
    let e : at + length a + length b + length c ≡ at + length (a ++ (b ++ c)) = omega arith in
    ap₂ (λ l n. splice l n d) (splice_three w a b c at (omega arith)) e ∙ splice_twice w (a ++ (b ++ c)) d at (omega arith) ∙ ap (splice w at) (append_assoc a (b ++ c) d ∙ ap (λ l. a ++ l) (append_assoc b c d))

-- the same, where each piece is written behind the one before it
module _ (w : List ℕ) (at : ℕ) where
  pub two_pieces : (a b : List ℕ) (t u : List ℕ) (p : ℕ) → t ≡ splice w at a → p ≡ at + length a → u ≡ splice t p b → at + length (a ++ b) ≤ length w → u ≡ splice w at (a ++ b)
  two_pieces a b t u p e f g h =
      let x = length-append a b in
      g ∙ ap₂ (λ l n. splice l n b) e f ∙ splice_twice w a b at (omega arith)

  pub three_pieces : (a b c : List ℕ) (t u v : List ℕ) (p q : ℕ) → t ≡ splice w at a → p ≡ at + length a → u ≡ splice t p b → q ≡ p + length b → v ≡ splice u q c
      → at + length (a ++ (b ++ c)) ≤ length w → v ≡ splice w at (a ++ (b ++ c))
  three_pieces a b c t u v p q e f g k l h =
      l ∙ ap₂ (λ y n. splice y n c) (g ∙ ap₂ (λ y n. splice y n b) e f) (k ∙ ap (λ n. n + length b) f) ∙ splice_three w a b c at h

  pub four_pieces : (a b c d : List ℕ) (t u v y : List ℕ) (p q r : ℕ) → t ≡ splice w at a → p ≡ at + length a → u ≡ splice t p b → q ≡ p + length b → v ≡ splice u q c → r ≡ q + length c → y ≡ splice v r d
      → at + length (a ++ (b ++ (c ++ d))) ≤ length w → y ≡ splice w at (a ++ (b ++ (c ++ d)))
  four_pieces a b c d t u v y p q r e f g k l m o h =
      o
      ∙ ap₂ (λ y n. splice y n d) (l ∙ ap₂ (λ y n. splice y n c) (g ∙ ap₂ (λ y n. splice y n b) e f) (k ∙ ap (λ n. n + length b) f)) (m ∙ ap (λ n. n + length c) (k ∙ ap (λ n. n + length b) f))
      ∙ splice_four w a b c d at h
