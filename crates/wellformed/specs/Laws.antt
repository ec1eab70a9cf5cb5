-- What the merged failures say: the parts of 'well formed'. Assumes nothing.
use Rattle.std.specs.Prelude.{◌≡◌, refl, Bool, true, false, not, ◌&&◌, ◌||◌, List, [], ◌∷◌, ◌++◌, map, fold, zip, ℕ, ◌+◌, ◌-◌, ◌/◌, ◌≤◌, ◌<◌, T, nat_le, nat_lt, length, get_or, take, drop}
use Rattle.std.proofs.Math.Path.{sym, ap, ap₂}
use Rattle.std.proofs.Common.{◌∙◌, subst, arith, eqb→eq, length-drop, take-append-drop, length-take-le, take-add}
use Rattle.std.specs.Int.Bits.{bit_or}
use Rattle.std.proofs.Common.{nat_eq}
use Rattle.std.proofs.Math.Seq.{take-length}
use Rattle.lists.specs.Basics.{when◌then◌else◌, every, distinct, table}
use Rattle.lists.specs.Tests.{and_true, and_false, true_T, says_same, says_so, says_as, says_and, says_eq, says_le}
use Rattle.lists.specs.Blocks.{table_of, table_cong, map_table}
use Rattle.lists.specs.Merge.{or_test, every_append, failure_test, when_test, unlike, unlike_all, all_unlike, distinct_next, distinct_four}
use Rattle.protocol.specs.declared.Message.{Message}
use Rattle.protocol.specs.Names.{LOOKUP}
use Rattle.protocol.specs.Record.{most_nodes, most_messages, row_start, message_start, record_size, count_in, messages_in, asked_in, row_from, message_from, unused_row_words, unused_message_words, State, count, read}
use Rattle.protocol.specs.WellFormed.{row_ok, names_node, a_ok, b_ok, hops_ok, message_ok, identifiers, formed, header_ok, unused_rows, unused_messages, unused_ok, well_formed}
use Rattle.layout.specs.Words.{count_of_read}
use Rattle.layout.specs.Form.{says_header}

and_assoc : (a b c : Bool) → ((a && b) && c) ≡ (a && (b && c))
and_assoc true b c = refl
and_assoc false b c = refl

-- Tests of a list's elements, put together without an early exit.
pub fold_every : {A : Type 0} (q : A → Bool) (ok : Bool) (l : List A) → fold (λ ok y. ok && q y) ok l ≡ (ok && every q l)
unfolding every
fold_every q ok [] = sym (and_true ok)
fold_every q ok (x ∷ l) = fold_every q (ok && q x) l ∙ and_assoc ok (q x) (every q l)

-- Words merged, one list's and two lists' side by side.
fold_words : (a : ℕ) (l : List ℕ) → nat_eq (fold (λ all x. bit_or all x) a l) 0 ≡ (nat_eq a 0 && every (λ x. nat_eq x 0) l)
unfolding every
fold_words a [] = sym (and_true (nat_eq a 0))
fold_words a (x ∷ l) =
    fold_words (bit_or a x) l ∙ ap (λ z. z && every (λ x. nat_eq x 0) l) (or_test a x) ∙ and_assoc (nat_eq a 0) (nat_eq x 0) (every (λ x. nat_eq x 0) l)

fold_pairs : (a : ℕ) (l r : List ℕ) → length l ≡ length r
    → nat_eq (fold (λ all p. bit_or (bit_or all p.0) p.1) a (zip l r)) 0 ≡ (nat_eq a 0 && (every (λ x. nat_eq x 0) l && every (λ x. nat_eq x 0) r))
unfolding every
fold_pairs a [] [] e = sym (and_true (nat_eq a 0))
fold_pairs a [] (y ∷ r) e = absurd (omega arith)
fold_pairs a (x ∷ l) [] e = absurd (omega arith)
fold_pairs a (x ∷ l) (y ∷ r) e =
    fold_pairs (bit_or (bit_or a x) y) l r (omega arith)
    ∙ ap (λ z. z && (every (λ x. nat_eq x 0) l && every (λ x. nat_eq x 0) r)) (or_test (bit_or a x) y ∙ ap (λ z. z && nat_eq y 0) (or_test a x))
    ∙ go (nat_eq a 0) (nat_eq x 0) (nat_eq y 0) (every (λ x. nat_eq x 0) l) (every (λ x. nat_eq x 0) r)
  where
    go : (a x y l r : Bool) → (((a && x) && y) && (l && r)) ≡ (a && ((x && l) && (y && r)))
    go false x y l r = refl
    go true false y l r = refl
    go true true true l r = refl
    go true true false l r = sym (and_false l)

-- One more identifier, and four more at once, beside those before them.
module _ (l : List ℕ) where
  abbrev at : ℕ → ℕ
  at i = get_or l i 0

  pub before : (i : ℕ) → i ≤ length l → table i at ≡ take i l
  before i h = table_of l 0 at i h (λ j k. refl)

  pub one_more : (i : ℕ) → i < length l → (r : Bool) → r ≡ fold (λ ok y. ok && not (nat_eq y (get_or l i 0))) true (take i l) → (distinct (take i l) && r) ≡ distinct (take (i + 1) l)
  unfolding unlike
  one_more i h r e =
      ap (λ z. distinct (take i l) && z) (e ∙ fold_every (λ y. unlike y (at i)) true (take i l))
      ∙ ap (λ z. distinct z && every (λ y. unlike y (at i)) z) (sym (before i (omega arith)))
      ∙ sym (distinct_next at i)
      ∙ ap distinct (before (i + 1) (omega arith))

  pub four_more : (i : ℕ) → i + 4 ≤ length l → (r s : Bool)
      → r ≡ fold (λ ok y. ok && unlike_all (get_or l i 0) (get_or l (i + 1) 0) (get_or l (i + 2) 0) (get_or l (i + 3) 0) y) true (take i l)
      → s ≡ all_unlike (get_or l i 0) (get_or l (i + 1) 0) (get_or l (i + 2) 0) (get_or l (i + 3) 0)
      → (distinct (take i l) && (r && s)) ≡ distinct (take (i + 4) l)
  four_more i h r s er es =
      ap₂ (λ y z. distinct (take i l) && (y && z)) (er ∙ fold_every (unlike_all (at i) (at (i + 1)) (at (i + 2)) (at (i + 3))) true (take i l)) es
      ∙ ap (λ z. distinct z && (every (unlike_all (at i) (at (i + 1)) (at (i + 2)) (at (i + 3))) z && all_unlike (at i) (at (i + 1)) (at (i + 2)) (at (i + 3)))) (sym (before i (omega arith)))
      ∙ sym (distinct_four at i)
      ∙ ap distinct (before (i + 4) (omega arith))

-- A part as two halves and what is left over.
module _ (l : List ℕ) (h : ℕ) (few : h + h ≤ length l) where
  abbrev first : List ℕ
  first = take h l

  abbrev second : List ℕ
  second = take (h + h - h) (drop h l)

  abbrev rest : List ℕ
  rest = take (length l - (h + h)) (drop (h + h) l)

  pub one_length : length first ≡ length second
  one_length =
      let d : length (drop h l) ≡ length l - h = length-drop h l in
      let e : h ≡ h + h - h = omega arith in
      length-take-le h l (omega arith) ∙ e ∙ sym (length-take-le (h + h - h) (drop h l) (omega arith))

  pub zeros_law : (a b : ℕ)
      → a ≡ fold (λ all p. bit_or (bit_or all p.0) p.1) 0 (zip first second)
      → b ≡ fold (λ all x. bit_or all x) 0 rest
      → nat_eq (bit_or a b) 0 ≡ every (λ x. nat_eq x 0) l
  zeros_law a b p q =
      let e : h + (h + h - h) ≡ h + h = omega arith in
      or_test a b
      ∙ ap₂ (λ x y. x && y) (ap (λ z. nat_eq z 0) p ∙ fold_pairs 0 first second one_length ∙ sym (every_append (λ x. nat_eq x 0) first second)) (ap (λ z. nat_eq z 0) q ∙ fold_words 0 rest)
      ∙ sym (every_append (λ x. nat_eq x 0) (first ++ second) rest)
      ∙ ap₂ (λ y z. every (λ x. nat_eq x 0) (y ++ z)) (sym (take-add h (h + h - h) l) ∙ ap (λ k. take k l) e) (ap (λ k. take k (drop (h + h) l)) (sym (length-drop (h + h) l)) ∙ take-length (drop (h + h) l))
      ∙ ap (every (λ x. nat_eq x 0)) (take-append-drop (h + h) l)

-- The unused words, as the parts that the code looks at.
module _ (w : List ℕ) (n m : ℕ) (en : n ≡ count_in w) (em : m ≡ messages_in w) where
  rows_part : n ≤ most_nodes → take (message_start 0 - row_start n) (drop (row_start n) w) ≡ unused_rows w
  rows_part h =
      let k : message_start 0 - row_start n ≡ unused_row_words n = omega arith in
      ap (λ z. take z (drop (row_start n) w)) k ∙ ap (λ z. take (unused_row_words z) (drop (row_start z) w)) en

  messages_part : m ≤ most_messages → take (record_size - message_start m) (drop (message_start m) w) ≡ unused_messages w
  messages_part h =
      let k : record_size - message_start m ≡ unused_message_words m = omega arith in
      ap (λ z. take z (drop (message_start m) w)) k ∙ ap (λ z. take (unused_message_words z) (drop (message_start z) w)) em

  pub unused_law : n ≤ most_nodes → m ≤ most_messages → (a b : Bool)
      → a ≡ every (λ x. nat_eq x 0) (take (message_start 0 - row_start n) (drop (row_start n) w))
      → b ≡ every (λ x. nat_eq x 0) (take (record_size - message_start m) (drop (message_start m) w))
      → (a && b) ≡ unused_ok w
  unfolding unused_ok
  unused_law hn hm a b p q = ap₂ (λ x y. x && y) (p ∙ ap (every (λ x. nat_eq x 0)) (rows_part hn)) (q ∙ ap (every (λ x. nat_eq x 0)) (messages_part hm))

-- One message: its ends, and its fields by kind.
pub ends_law : (p q r : Bool) (a b c : ℕ) → a ≡ (when p then 0 else 1) → b ≡ (when q then 0 else 1) → c ≡ (when r then 0 else 1) → nat_eq (bit_or (bit_or a b) c) 0 ≡ ((p && q) && r)
ends_law p q r a b c ea eb ec =
    or_test (bit_or a b) c
    ∙ ap₂ (λ x y. x && y) (or_test a b ∙ ap₂ (λ x y. x && y) (ap (λ z. nat_eq z 0) ea ∙ failure_test p) (ap (λ z. nat_eq z 0) eb ∙ failure_test q))
    (ap (λ z. nat_eq z 0) ec ∙ failure_test r)

hops_law : (h : ℕ) → nat_eq (h / 65536) 0 ≡ nat_le h 65535
hops_law h = says_same (says_eq (h / 65536) 0) (says_as (says_le h 65535) (λ l. omega arith) (λ e. omega (arith, e)))

-- the tests of a, b and hops, in another order: l for LOOKUP, which names no node
by_kind : (l nm p h q b z a : Bool) → (T l → T (not nm))
    → (((not l || (p && h)) && (not nm || q)) && (not (not l) || ((b && z) && (not (not nm) || a)))) ≡ (((l || (when nm then q else a)) && (when l then p else b)) && (when l then h else z))
unfolding when◌then◌else◌
by_kind true true p h q b z a f = absurd (f tt)
by_kind true false p h q b z a f =
    says_same (says_and (says_and (says_and (says_so p) (says_so h)) (says_so true)) (says_so true)) (says_as (says_and (says_so p) (says_so h)) (λ k. ((k, tt), tt)) (λ k. k.0.0))
by_kind false true p h q b z a f =
    says_same (says_and (says_so q) (says_and (says_and (says_so b) (says_so z)) (says_so true)))
    (says_as (says_and (says_and (says_so q) (says_so b)) (says_so z)) (λ k. (k.0.0, ((k.0.1, k.1), tt))) (λ k. ((k.0, k.1.0.0), k.1.0.1)))
by_kind false false p h q b z a f =
    says_same (says_and (says_and (says_so b) (says_so z)) (says_so a))
    (says_as (says_and (says_and (says_so a) (says_so b)) (says_so z)) (λ k. ((k.0.1, k.1), k.0.0)) (λ k. ((k.1, k.0.0), k.0.1)))

lookup_names_none : (k : ℕ) → T (nat_eq k LOOKUP) → T (not (names_node k))
unfolding names_node
lookup_names_none k t = subst (λ x. T (not (names_node x))) (sym (eqb→eq k LOOKUP t)) tt

pub fields_law : (n asked : ℕ) (m : Message) (below less mine lookup named others : ℕ)
    → below ≡ (when nat_lt m.b asked then 0 else 1) → less ≡ (when nat_lt m.a n then 0 else 1)
    → mine ≡ (when not (names_node m.kind) then m.a else 0)
    → lookup ≡ (when nat_eq m.kind LOOKUP then bit_or below (m.hops / 65536) else 0)
    → named ≡ (when names_node m.kind then less else 0)
    → others ≡ (when not (nat_eq m.kind LOOKUP) then bit_or (bit_or m.b m.hops) mine else 0)
    → nat_eq (bit_or (bit_or lookup named) others) 0 ≡ (a_ok n m && b_ok asked m && hops_ok m)
unfolding a_ok b_ok hops_ok
fields_law n asked m below less mine lookup named others eb el em e1 e2 e3 =
    or_test (bit_or lookup named) others
    ∙ ap₂ (λ x y. x && y) (or_test lookup named ∙ ap₂ (λ x y. x && y) one two) three
    ∙ by_kind (nat_eq m.kind LOOKUP) (names_node m.kind) (nat_lt m.b asked) (nat_le m.hops 65535) (nat_lt m.a n) (nat_eq m.b 0) (nat_eq m.hops 0) (nat_eq m.a 0) (lookup_names_none m.kind)
  where
    one : nat_eq lookup 0 ≡ (not (nat_eq m.kind LOOKUP) || (nat_lt m.b asked && nat_le m.hops 65535))
    one =
        ap (λ z. nat_eq z 0) e1 ∙ when_test (nat_eq m.kind LOOKUP) _
        ∙ ap (λ z. not (nat_eq m.kind LOOKUP) || z) (or_test below (m.hops / 65536) ∙ ap₂ (λ x y. x && y) (ap (λ z. nat_eq z 0) eb ∙ failure_test (nat_lt m.b asked)) (hops_law m.hops))

    two : nat_eq named 0 ≡ (not (names_node m.kind) || nat_lt m.a n)
    two = ap (λ z. nat_eq z 0) e2 ∙ when_test (names_node m.kind) less ∙ ap (λ z. not (names_node m.kind) || z) (ap (λ z. nat_eq z 0) el ∙ failure_test (nat_lt m.a n))

    three : nat_eq others 0 ≡ (not (not (nat_eq m.kind LOOKUP)) || ((nat_eq m.b 0 && nat_eq m.hops 0) && (not (not (names_node m.kind)) || nat_eq m.a 0)))
    three =
        ap (λ z. nat_eq z 0) e3 ∙ when_test (not (nat_eq m.kind LOOKUP)) _
        ∙ ap (λ z. not (not (nat_eq m.kind LOOKUP)) || z)
        (or_test (bit_or m.b m.hops) mine
        ∙ ap₂ (λ x y. x && y) (or_test m.b m.hops) (ap (λ z. nat_eq z 0) em ∙ when_test (not (names_node m.kind)) m.a))

pub message_law : (n asked : ℕ) (m : Message) (a b : ℕ)
    → nat_eq a 0 ≡ (nat_le 1 m.kind && nat_lt m.kind 15 && nat_lt m.from n && nat_lt m.to n) → nat_eq b 0 ≡ (a_ok n m && b_ok asked m && hops_ok m)
    → nat_eq (bit_or a b) 0 ≡ message_ok n asked m
unfolding message_ok
message_law n asked m a b ea eb = or_test a b ∙ ap₂ (λ x y. x && y) ea eb ∙ go (nat_le 1 m.kind && nat_lt m.kind 15 && nat_lt m.from n && nat_lt m.to n)
  where
    go : (e : Bool) → (e && (a_ok n m && b_ok asked m && hops_ok m)) ≡ (e && a_ok n m && b_ok asked m && hops_ok m)
    go true = refl
    go false = refl

-- The part of 'well formed' that is about rows: identifiers and each row.
unfoldable pub nodes_ok : State → Bool
nodes_ok s = distinct (identifiers s) && every (row_ok (count s)) s.rows

pub nodes_law : (w : List ℕ) (n : ℕ) → n ≡ count_in w → (ids : List ℕ) → ((i : ℕ) → i < n → get_or ids i 0 ≡ get_or w (row_start i) 0) → (d r : Bool)
    → d ≡ distinct (table n (λ i. get_or ids i 0))
    → r ≡ every (row_ok n) (table n (λ i. row_from w (row_start i)))
    → (d && r) ≡ nodes_ok (read w)
unfolding nodes_ok read
nodes_law w n en ids e d r ed er =
    ap₂ (λ x y. x && y)
    (ed ∙ ap distinct (table_cong _ (λ i. get_or w (row_start i) 0) n e ∙ sym (map_table (λ h. h.identifier) (λ i. row_from w (row_start i)) n)) ∙ ap (λ k. distinct (map (λ h. h.identifier) (table k (λ i. row_from w (row_start i))))) en)
    (er ∙ ap (λ k. every (row_ok k) (table k (λ i. row_from w (row_start i)))) en ∙ ap (λ k. every (row_ok k) (table (count_in w) (λ i. row_from w (row_start i)))) (sym (count_of_read w)))

-- The whole: a part that fails, and the last where the others pass.
pub fails_header : (w : List ℕ) → header_ok w ≡ false → well_formed w ≡ false
unfolding well_formed
fails_header w e = ap (λ z. z && unused_ok w && formed (read w)) e

pub fails_nodes : (w : List ℕ) → nodes_ok (read w) ≡ false → well_formed w ≡ false
unfolding well_formed formed nodes_ok
fails_nodes w e = ap (λ z. header_ok w && unused_ok w && (z && every (message_ok (count (read w)) (read w).asked) (read w).messages)) e ∙ and_false (header_ok w && unused_ok w)

module _ (w : List ℕ) (n m : ℕ) (en : n ≡ count_in w) (em : m ≡ messages_in w) where
  abbrev tested : Bool
  tested = every (message_ok n (asked_in w)) (table m (λ j. message_from w (message_start j)))

  messages_law : tested ≡ every (message_ok (count (read w)) (asked_in w)) (read w).messages
  unfolding read
  messages_law = ap₂ (λ k l. every (message_ok k (asked_in w)) (table l (λ j. message_from w (message_start j)))) (en ∙ sym (count_of_read w)) em

  pub fails_messages : tested ≡ false → well_formed w ≡ false
  unfolding well_formed formed read
  fails_messages e =
      ap (λ z. header_ok w && unused_ok w && (distinct (identifiers (read w)) && every (row_ok (count (read w))) (read w).rows && z)) (sym messages_law ∙ e)
      ∙ ap (λ z. header_ok w && unused_ok w && z) (and_false (distinct (identifiers (read w)) && every (row_ok (count (read w))) (read w).rows))
      ∙ and_false (header_ok w && unused_ok w)

  pub passes_messages : header_ok w ≡ true → nodes_ok (read w) ≡ true → tested ≡ true → (a : Bool) → a ≡ unused_ok w → a ≡ well_formed w
  unfolding well_formed formed nodes_ok read
  passes_messages h k t a p =
      p ∙ sym (and_true (unused_ok w)) ∙ sym (ap₂ (λ x y. x && unused_ok w && y) h (ap₂ (λ x y. x && y) k (sym messages_law ∙ t)))

-- what a header that passes says
pub nodes_few : (w : List ℕ) → header_ok w ≡ true → count_in w ≤ most_nodes
nodes_few w e = ((says_header w).to (true_T (header_ok w) e)).0.1

pub messages_few : (w : List ℕ) → header_ok w ≡ true → messages_in w ≤ most_messages
messages_few w e = ((says_header w).to (true_T (header_ok w) e)).1
