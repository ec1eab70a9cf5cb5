-- The last digits of a number, put down from the last to the first. Assumes nothing.
use Rattle.std.specs.Prelude.{◌≡◌, refl, List, [], ◌∷◌, ◌++◌, ℕ, zero, suc, ◌+◌, ◌/◌, ◌^◌, ◌<◌, ◌≤◌, ◌-◌, length, set, drop}
use Rattle.std.proofs.Common.{ap, sym, ◌∙◌, add-one, arith, length-append}
use Rattle.std.proofs.lemmas.List.Edits.{sets}
use Rattle.std.proofs.Math.Nat.{pow-suc, pow-succ', div-div-eq-div-mul}
use Rattle.protocol.specs.Frames.{digit_of, print, print2, print4, print8}

-- the same number, divided once more
pub divided : (v k : ℕ) → v / 16 ^ k / 16 ≡ v / 16 ^ suc k
divided v k = div-div-eq-div-mul v (16 ^ k) 16 ∙ ap (λ z. v / z) (sym (pow-suc 16 k))

-- one digit more, in front of the k behind it
pub print_front : (k v : ℕ) → print (suc k) v ≡ digit_of (v / 16 ^ k) ∷ print k v
print_front zero v = let e : v / 16 ^ 0 ≡ v = omega arith in ap (λ z. digit_of z ∷ []) (sym e)
print_front (suc k) v =
    let e = div-div-eq-div-mul v 16 (16 ^ k) ∙ ap (λ z. v / z) (sym (pow-succ' 16 k)) in
    ap (λ z. z ++ (digit_of v ∷ [])) (print_front k (v / 16)) ∙ ap (λ z. digit_of z ∷ print (suc k) v) e

pub length_print : (k v : ℕ) → length (print k v) ≡ k
length_print zero v = refl
length_print (suc k) v = let e = length-append (print k (v / 16)) (digit_of v ∷ []) in let f = length_print k (v / 16) in omega arith

-- four digits are twice two, and eight twice four
pub print_four : (v : ℕ) → print 4 v ≡ print 2 (v / 256) ++ print 2 v
print_four v =
    let e : v / 16 / 16 ≡ v / 256 = omega arith in
    ap (λ z. digit_of (z / 16) ∷ digit_of z ∷ digit_of (v / 16) ∷ digit_of v ∷ []) e

pub print_eight : (v : ℕ) → print 8 v ≡ print 4 (v / 65536) ++ print 4 v
print_eight v =
    let e : v / 16 / 16 / 16 / 16 ≡ v / 65536 = omega arith in
    ap (λ z. print 4 z ++ print 4 v) e

-- digits put one run after another
sets_more : (w vs us : List ℕ) (at : ℕ) → sets (sets w at vs) (at + length vs) us ≡ sets w at (vs ++ us)
sets_more w [] us at = let e : at + 0 ≡ at = omega arith in ap (λ k. sets w k us) e
sets_more w (v ∷ vs) us at =
    let e : at + suc (length vs) ≡ suc at + length vs = omega arith in
    ap (λ k. sets (sets (set w at v) (suc at) vs) k us) e ∙ sets_more (set w at v) vs us (suc at)

pub put_two : (w : List ℕ) (at a b : ℕ) → set (set w at a) (at + 1) b ≡ sets w at (a ∷ b ∷ [])
put_two w at a b = rw add-one

pub put_four : (w : List ℕ) (at v : ℕ) → sets (sets w at (print2 (v / 256))) (at + 2) (print2 v) ≡ sets w at (print4 v)
put_four w at v = sets_more w (print2 (v / 256)) (print2 v) at ∙ ap (sets w at) (sym (print_four v))

pub put_eight : (w : List ℕ) (at v : ℕ) → sets (sets w at (print4 (v / 65536))) (at + 4) (print4 v) ≡ sets w at (print8 v)
put_eight w at v = sets_more w (print4 (v / 65536)) (print4 v) at ∙ ap (sets w at) (sym (print_eight v))

-- an element put in front of those that are there
one_front : (s : List ℕ) (j d : ℕ) → j < length s → drop j (set s j d) ≡ d ∷ drop (suc j) s
one_front [] j d h = absurd (omega arith)
one_front (x ∷ s) zero d h = refl
one_front (x ∷ s) (suc j) d h = one_front s j d (omega arith)

-- the digits from i on are there, and the next one is put in front of them
pub put_more : (s : List ℕ) (i n v d rest : ℕ) → 0 < i → i ≤ n → length s ≡ n → drop i s ≡ print (n - i) v → rest ≡ v / 16 ^ (n - i) → d ≡ digit_of rest
    → (drop (i - 1) (set s (i - 1) d) ≡ print (n - (i - 1)) v) × (rest / 16 ≡ v / 16 ^ (n - (i - 1)))
put_more s i n v d rest h k m e f g =
    let j : suc (i - 1) ≡ i = omega arith in
    let q : n - (i - 1) ≡ suc (n - i) = omega arith in (
      rw (q, print_front (n - i) v, one_front s (i - 1) d (omega arith), j, e, g, f),
      rw (q, f) (divided v (n - i)),
    )
