-- Parts of a list changed in place: what an edit through a lent part does to the whole. Assumes nothing.
use Rattle.std.specs.Prelude.{◌≡◌, refl, ℕ, suc, ◌+◌, ◌-◌, ◌≤◌, ◌<◌, take, set, replicate}
use Rattle.std.proofs.Math.Path.{ap}
use Rattle.std.proofs.Common.{sym, ◌∙◌, arith, length-append, length-take, drop_of_length-le, take_all, drop-drop, drop_at, add-one}
use mathlib.Core.List.{List, [], ◌++◌, append_assoc, append-nil}
use Rattle.std.proofs.Math.Nat.{zero-add, add_comm}
use Rattle.std.proofs.Math.ListN.{length, drop, get_or, length-drop}
use Rattle.std.proofs.lemmas.List.{replicate-append-replicate, length-replicate}
use Rattle.std.proofs.lemmas.List.Edits.{sets}
use borrow.Rule.Slice.PartMut.{put_mid}
use Rattle.std.proofs.Math.Seq.{sets-eq, get_or-append-add, get_or-drop, drop-cons, set_at, take-suc, append_snoc, take-append_seam, drop-append_seam, drop-append-add}

-- w with vs in the place of the elements from at on
unfoldable pub splice : List ℕ → ℕ → List ℕ → List ℕ
splice w at vs = take at w ++ vs ++ drop (at + length vs) w

module _ (w vs : List ℕ) (a : ℕ) (fits : a + length vs ≤ length w) where
  rest : drop (length w - a) (drop a w) ≡ []
  rest = drop_of_length-le (drop a w) {i = length w - a} (simp length-drop (omega arith))

  mid : take (length w - a) (drop a w) ≡ drop a w
  mid = take_all (length w - a) (drop a w) (simp length-drop (omega arith))

  -- what a part from a on that was changed at its start puts back
  pub put_tail : take a w ++ (sets (take (length w - a) (drop a w)) 0 vs ++ drop (length w - a) (drop a w)) ≡ splice w a vs
  unfolding splice
  put_tail =
      rw (rest, mid, append-nil, sets-eq vs (drop a w) 0 (simp length-drop (omega arith)), zero-add, drop-drop)
      (sym (append_assoc (take a w) vs (drop (a + length vs) w)))

-- what a part from a on of the length of vs puts back, where vs was copied over it
pub put_part : (a k : ℕ) (w vs : List ℕ) → length vs ≡ k → put_mid a k w vs ≡ splice w a vs
unfolding splice
put_part a k w vs e = rw (← e, drop-drop (length vs) a w) (sym (append_assoc (take a w) vs (drop (a + length vs) w)))

-- g elements at the front are gone: the k elements behind them have come forward
unfoldable pub shifted : ℕ → List ℕ → ℕ → List ℕ
shifted g p k = take k (drop g p) ++ drop k p

pub shifted_none : (g : ℕ) (p : List ℕ) → p ≡ shifted g p 0
unfolding shifted
shifted_none g p = refl

pub length_shifted : (g : ℕ) (p : List ℕ) (k : ℕ) → k + g ≤ length p → length (shifted g p k) ≡ length p
unfolding shifted
length_shifted g p k h = simp (length-append, length-take, length-drop) (omega arith)

module _ (g : ℕ) (p : List ℕ) (k : ℕ) (h : k + g < length p) where
  len : length (take k (drop g p)) ≡ k
  len = simp (length-take, length-drop) (omega arith)

  pub shifted_read : get_or (shifted g p k) (k + g) 0 ≡ get_or p (k + g) 0
  unfolding shifted
  shifted_read =
      ap (λ i. get_or (take k (drop g p) ++ drop k p) (i + g) 0) (sym len)
      ∙ get_or-append-add (take k (drop g p)) (drop k p) g 0
      ∙ get_or-drop k p g 0

  pub shifted_step : set (shifted g p k) k (get_or p (k + g) 0) ≡ shifted g p (k + 1)
  unfolding shifted
  shifted_step =
      rw (add-one, drop-cons p k 0 (omega arith), set_at (take k (drop g p)) (get_or p k 0) (drop (suc k) p) (get_or p (k + g) 0) k len, take-suc (drop g p) k 0 (simp length-drop (omega arith)), get_or-drop g p k 0, add_comm g k)
      (sym (append_snoc (take k (drop g p)) (get_or p (k + g) 0) (drop (suc k) p)))

-- g elements at the front taken out, the n after them moved up, and g zeros behind those
unfoldable pub closed_up : ℕ → List ℕ → ℕ → List ℕ
closed_up g p n = splice (shifted g p n) n (replicate g 0)

-- a part from a on is lent, and comes back as y
pub part_from : (w : List ℕ) (a : ℕ) → take (length w - a) (drop a w) ≡ drop a w
part_from w a = take_all (length w - a) (drop a w) (simp length-drop (omega arith))

pub part_back : (w y : List ℕ) (a : ℕ) → take a w ++ (y ++ drop (length w - a) (drop a w)) ≡ take a w ++ y
part_back w y a = rw (drop_of_length-le (drop a w) {i = length w - a} (simp length-drop (omega arith)), append-nil)

-- a splice at a seam
pub splice_at : (p q vs : List ℕ) (a : ℕ) → length p ≡ a → splice (p ++ q) a vs ≡ p ++ (vs ++ drop (length vs) q)
unfolding splice
splice_at p q vs a e = rw (← e, take-append_seam, drop-append-add, append_assoc)

pub drop_pad : (k n : ℕ) (t : List ℕ) → k ≤ n → drop k (replicate n 0 ++ t) ≡ replicate (n - k) 0 ++ t
drop_pad k n t h =
    let e : k + (n - k) ≡ n = omega arith in
    ap (λ l. drop k (l ++ t)) (sym (replicate-append-replicate k (n - k) 0 ∙ ap (λ i. replicate i 0) e))
    ∙ ap (drop k) (append_assoc (replicate k 0) (replicate (n - k) 0) t)
    ∙ drop_at (replicate k 0) (replicate (n - k) 0 ++ t) k (length-replicate k 0)

pub closed_up_seam : (g : ℕ) (x b r : List ℕ) → length x ≡ g → closed_up g (x ++ (b ++ r)) (length b) ≡ b ++ (replicate g 0 ++ r)
unfolding closed_up shifted
closed_up_seam g x b r e =
    rw (
      drop_at x (b ++ r) g e,
      take-append_seam,
      splice_at b (drop (length b) (x ++ (b ++ r))) (replicate g 0) (length b) refl,
      length-replicate,
      drop-drop,
      add_comm (length b) g,
      ← drop-drop,
      drop_at x (b ++ r) g e,
      drop-append_seam,
    )
