-- What the writing loops leave, that it is a fresh ring, and what questions 13 and 14 say. Assumes nothing.
use Rattle.std.specs.Prelude.{◌≡◌, refl, true, ◌&&◌, List, [], ◌∷◌, ◌++◌, map, ℕ, suc, ◌+◌, ◌-◌, ◌*◌, ◌≤◌, ◌<◌, nat_le, nat_eq, length, take, drop, get_or, set, replicate}
use Rattle.std.proofs.Common.{ap, sym, ◌∙◌, append_assoc, append-nil, add-one, arith, length-append, take-append-drop, drop-cons, drop-drop, take-suc, length-take-le}
use Rattle.std.proofs.lemmas.List.{map-append, length-replicate, length-map, replicate-append-replicate, set_at}
use Rattle.std.proofs.Math.Seq.{append_snoc, take-length}
use Rattle.lists.specs.Basics.{distinct, table, flat}
use Rattle.lists.specs.Tests.{true_T, says_and, says_le}
use Rattle.lists.specs.Splice.{splice, splice_at, drop_pad}
use Rattle.lists.specs.Blocks.{table_of, flat_append, length_flat}
use Rattle.protocol.specs.Record.{form, most_nodes, row_size, row_start, record_size, row_words, unused_row_words, unused_message_words, State, words, outside}
use Rattle.protocol.specs.Fresh.{alone, fresh}
use Rattle.layout.specs.Words.{row_size_lem}
use Rattle.layout.specs.Edits.{row_put, put_row_is}

-- One word more cleared.
pub cleared_more : (w : List ℕ) (k : ℕ) → k < length w → set (replicate k 0 ++ drop k w) k 0 ≡ replicate (k + 1) 0 ++ drop (k + 1) w
cleared_more w k h =
    ap (λ l. set (replicate k 0 ++ l) k 0) (drop-cons w k 0 h)
    ∙ set_at (replicate k 0) (get_or w k 0) (drop (suc k) w) 0 k (length-replicate k 0)
    ∙ sym (append_snoc (replicate k 0) 0 (drop (suc k) w))
    ∙ ap (λ l. l ++ drop (suc k) w) (replicate-append-replicate {A = ℕ} k 1 0)
    ∙ ap (λ i. replicate (k + 1) 0 ++ drop i w) (sym (add-one k))

-- A splice that goes on where another ended.
splice_more : (w vs us : List ℕ) (a : ℕ) → a ≤ length w → splice (splice w a vs) (a + length vs) us ≡ splice w a (vs ++ us)
unfolding splice
splice_more w vs us a h =
    let l : length (take a w ++ vs) ≡ a + length vs = simp (length-append, length-take-le a w h) in
    let k : a + length vs + length us ≡ a + length (vs ++ us) = simp length-append (omega arith) in
    splice_at (take a w ++ vs) (drop (a + length vs) w) us (a + length vs) l ∙ rw (drop-drop, k) (simp append_assoc)

-- The words of nodes that are all outside.
abbrev pub outsiders : List ℕ → List ℕ
outsiders ids = flat row_words (map outside ids)

length_outsiders : (ids : List ℕ) → length (outsiders ids) ≡ row_size * length ids
length_outsiders ids = simp (length_flat row_words row_size row_size_lem, length-map)

outsiders_more : (ids : List ℕ) (i : ℕ) → i < length ids → outsiders (take (i + 1) ids) ≡ outsiders (take i ids) ++ row_words (outside (get_or ids i 0))
outsiders_more ids i l =
    rw (add-one, take-suc ids i 0 l, map-append outside (take i ids) (get_or ids i 0 ∷ []))
    (flat_append row_words (map outside (take i ids)) (outside (get_or ids i 0) ∷ []))

-- No row put yet, and one row more.
pub rows_none : (w ids : List ℕ) → w ≡ splice w (row_start 0) (outsiders (take 0 ids))
unfolding splice
rows_none w ids = sym (ap (λ l. l ++ drop (row_start 0) w) (append-nil (take (row_start 0) w)) ∙ take-append-drop (row_start 0) w)

pub rows_more : (w ids : List ℕ) (i : ℕ) → row_start 0 ≤ length w → i < length ids
    → row_put (splice w (row_start 0) (outsiders (take i ids))) i (outside (get_or ids i 0)) ≡ splice w (row_start 0) (outsiders (take (i + 1) ids))
rows_more w ids i h l =
    let earlier = outsiders (take i ids) in
    let r = row_words (outside (get_or ids i 0)) in
    let k : row_start i ≡ row_start 0 + length earlier = omega (arith, length_outsiders (take i ids), length-take-le i ids (omega arith)) in
    ap (λ z. splice (splice w (row_start 0) earlier) z r) k
    ∙ splice_more w earlier r (row_start 0) h
    ∙ ap (splice w (row_start 0)) (sym (outsiders_more ids i l))

-- A ring that no node has founded yet.
abbrev unfounded : List ℕ → State
unfounded ids = record { rows = map outside ids; messages = []; asked = 0 }

-- What follows the header.
abbrev rest : ℕ
rest = record_size - row_start 0

regroup : (a b c t : List ℕ) → a ++ (b ++ c ++ t) ≡ a ++ (b ++ c) ++ t
regroup a b c t = simp append_assoc

unfounded_is : (ids t : List ℕ) → length ids ≤ most_nodes
    → splice (set (set (replicate record_size 0 ++ t) 0 form) 1 (length ids)) (row_start 0) (outsiders ids) ≡ words (unfounded ids) ++ t
unfolding words
unfounded_is ids t h =
    let n = length ids in
    let k : rest - row_size * n ≡ unused_row_words n + unused_message_words 0 = omega arith in
    ap (λ l. splice (set (set (l ++ t) 0 form) 1 n) (row_start 0) (outsiders ids)) (sym (replicate-append-replicate {A = ℕ} (row_start 0) rest 0))
    ∙ splice_at (form ∷ n ∷ 0 ∷ 0 ∷ []) (replicate rest 0 ++ t) (outsiders ids) (row_start 0) refl
    ∙ rw (
      length_outsiders ids,
      drop_pad (row_size * n) rest t (omega arith),
      k,
      ← replicate-append-replicate {A = ℕ} (unused_row_words n) (unused_message_words 0) 0,
      length-map,
    )
    (ap (λ l. form ∷ n ∷ 0 ∷ 0 ∷ l) (regroup (outsiders ids) (replicate (unused_row_words n) 0) (replicate (unused_message_words 0) 0) t))

-- With the founder's row put last, it is a fresh ring.
pub fresh_is : (ids w : List ℕ) (f : ℕ) → f < length ids → length ids ≤ most_nodes
    → row_put (splice (set (set (replicate record_size 0 ++ drop record_size w) 0 form) 1 (length ids)) (row_start 0) (outsiders ids)) f (alone f (get_or ids f 0))
    ≡ words (fresh ids f) ++ drop record_size w
unfolding fresh
fresh_is ids w f l h =
    rw (unfounded_is ids (drop record_size w) h) (put_row_is (unfounded ids) (drop record_size w) f (alone f (get_or ids f 0)) (rw length-map l))

-- Question 13, of n identifiers.
pub some_few : (n : ℕ) → (nat_le 1 n && nat_le n most_nodes) ≡ true → (1 ≤ n) × (n ≤ most_nodes)
some_few n e = (says_and (says_le 1 n) (says_le n most_nodes)).to (true_T (nat_le 1 n && nat_le n most_nodes) e)

-- Question 14: what is merged is 0 where all of them differ.
pub differ : (ids : List ℕ) (r : ℕ) → nat_eq r 0 ≡ distinct (table (length ids) (λ i. get_or ids i 0)) → nat_eq r 0 ≡ distinct ids
differ ids r e = e ∙ ap distinct (table_of ids 0 (λ i. get_or ids i 0) (length ids) (omega arith) (λ i h. refl) ∙ take-length ids)
