-- Words and book: what is written is read, what is read is written, and what the edits of the words do to the book. Assumes nothing.
use Rattle.std.specs.Prelude.{◌≡◌, List, [], ◌∷◌, ◌++◌, take, drop, get_or, replicate}
use Rattle.std.proofs.Math.Path.{refl, ap, sym}
use Rattle.std.proofs.Common.{◌∙◌, append_assoc, append-nil, add-one, arith, length-append, length-take, length-drop, length-set, take-append-drop, get_or-append-add, drop_at, drop-drop, drop-cons}
use Prim.Native.Nat.{ℕ, suc, ◌+◌, ◌-◌, ◌*◌, ◌≤◌, ◌<◌}
use Rattle.std.proofs.Math.ListN.{length, set}
use Rattle.std.proofs.lemmas.List.{length-replicate, set-append_left, set_at}
use Rattle.std.proofs.Math.Seq.{get_or-append_seam, take_at, take-length}
use Rattle.lists.specs.Basics.{table, flat, Mem}
use Rattle.lists.specs.Blocks.{length_table, table_of, flat_append, flat_split, flat_set, length_flat, length_front}
use Rattle.lists.specs.Splice.{splice, splice_at, drop_pad}
use Rattle.protocol.specs.declared.Card.{Card}
use Rattle.protocol.specs.Record.{most_nodes}
use Rattle.protocol.specs.Cards.{most_cards, book_size, card_size, card_start, Book, card_words, unused_card_words, book_words, cards_in, marks_in, card_from, read_book, unused_cards, no_card}
use Rattle.layout.specs.Words.{zeros, flat_read, part_at}

pub card_size_lem : (c : Card) → length (card_words c) ≡ card_size
card_size_lem c = refl

-- A book that has its words: 64 marks, and at most 512 cards.
pub record Fits (b : Book) : Type 0 where
  pub marks : length b.marks ≡ most_nodes
  pub cards : length b.cards ≤ most_cards

abbrev pub padding : Book → List ℕ
padding b = replicate (unused_card_words (length b.cards)) 0

-- The count, the marks, and what follows them.
unfoldable pub shape : ℕ → List ℕ → List ℕ → List ℕ
shape n marks cells = n ∷ (marks ++ cells)

pub shape_append : (n : ℕ) (marks p q : List ℕ) → shape n marks (p ++ q) ≡ shape n marks p ++ q
unfolding shape
shape_append n marks p q = ap (λ l. n ∷ l) (sym (append_assoc marks p q))

pub length_shape : (n : ℕ) (marks p : List ℕ) → length (shape n marks p) ≡ 1 + (length marks + length p)
unfolding shape
length_shape n marks p = omega (arith, length-append marks p)

pub book_shape : (b : Book) (t : List ℕ) → book_words b ++ t ≡ shape (length b.cards) b.marks (flat card_words b.cards ++ (padding b ++ t))
unfolding book_words shape
book_shape b t =
    ap (λ l. length b.cards ∷ l)
    (append_assoc b.marks (flat card_words b.cards ++ padding b) t
    ∙ ap (λ l. b.marks ++ l) (append_assoc (flat card_words b.cards) (padding b) t))

card_seam : (p r : List ℕ) (c : Card) (a : ℕ) → length p ≡ a → card_from (p ++ (card_words c ++ r)) a ≡ c
card_seam p r c a e = rw (← e) (simp (get_or-append-add, get_or-append_seam))

module _ (b : Book) (t : List ℕ) (f : Fits b) where
  -- the words up to card j
  abbrev pub front : ℕ → List ℕ
  front j = shape (length b.cards) b.marks (flat card_words (take j b.cards))

  -- count, marks, the first j cards; card j; those after it
  pub book_split : (j : ℕ) (d : Card) → j < length b.cards
      → book_words b ++ t ≡ front j ++ (card_words (get_or b.cards j d) ++ (flat card_words (drop (suc j) b.cards) ++ (padding b ++ t)))
  book_split j d l =
      book_shape b t
      ∙ ap (shape (length b.cards) b.marks) (ap (λ z. z ++ (padding b ++ t)) (flat_split card_words b.cards j d l)
      ∙ append_assoc (flat card_words (take j b.cards)) _ (padding b ++ t)
      ∙ ap (λ z. flat card_words (take j b.cards) ++ z) (append_assoc (card_words (get_or b.cards j d)) (flat card_words (drop (suc j) b.cards)) (padding b ++ t)))
      ∙ shape_append (length b.cards) b.marks (flat card_words (take j b.cards)) _

  pub front_length : (j : ℕ) → j ≤ length b.cards → length (front j) ≡ card_start j
  front_length j l = omega (arith, length_shape (length b.cards) b.marks (flat card_words (take j b.cards)), length_front card_words card_size card_size_lem b.cards j l, f.marks)

  -- all cards, and what is behind them
  pub book_end : book_words b ++ t ≡ shape (length b.cards) b.marks (flat card_words b.cards) ++ (padding b ++ t)
  book_end = book_shape b t ∙ shape_append (length b.cards) b.marks (flat card_words b.cards) (padding b ++ t)

  pub end_length : length (shape (length b.cards) b.marks (flat card_words b.cards)) ≡ card_start (length b.cards)
  end_length = omega (arith, length_shape (length b.cards) b.marks (flat card_words b.cards), length_flat card_words card_size card_size_lem b.cards, f.marks)

  pub length_book : length (book_words b) ≡ book_size
  length_book =
      ap length (sym (append-nil (book_words b)) ∙ whole)
      ∙ omega (
        arith,
        length_shape (length b.cards) b.marks (flat card_words b.cards ++ (padding b ++ [])),
        length-append (flat card_words b.cards) (padding b ++ []),
        length-append (padding b) [],
        length-replicate {A = ℕ} (unused_card_words (length b.cards)) 0,
        length_flat card_words card_size card_size_lem b.cards,
        f.marks,
        f.cards,
      )
    where
      whole : book_words b ++ [] ≡ shape (length b.cards) b.marks (flat card_words b.cards ++ (padding b ++ []))
      whole = book_shape b []

  pub drop_book : drop book_size (book_words b ++ t) ≡ t
  drop_book = drop_at (book_words b) t book_size length_book

  pub long_book : book_size ≤ length (book_words b ++ t)
  long_book = omega (arith, length-append (book_words b) t, length_book)

  pub count_book : cards_in (book_words b ++ t) ≡ length b.cards
  unfolding book_words
  count_book = refl

  pub card_read : (j : ℕ) (d : Card) → j < length b.cards → card_from (book_words b ++ t) (card_start j) ≡ get_or b.cards j d
  card_read j d l =
      ap (λ k. card_from k (card_start j)) (book_split j d l)
      ∙ card_seam (front j) _ (get_or b.cards j d) (card_start j) (front_length j (omega arith))

  pub marks_read : marks_in (book_words b ++ t) ≡ b.marks
  unfolding shape
  marks_read =
      ap marks_in (book_shape b t)
      ∙ take_at b.marks (flat card_words b.cards ++ (padding b ++ t)) most_nodes f.marks

  -- What is written is read.
  pub read_book_lem : read_book (book_words b ++ t) ≡ b
  unfolding read_book
  read_book_lem = λ i. record {
    marks = marks_read i;
    cards = (ap (λ z. table z (λ j. card_from (book_words b ++ t) (card_start j))) count_book
        ∙ table_of b.cards no_card (λ j. card_from (book_words b ++ t) (card_start j)) (length b.cards) (omega arith) (λ j l. card_read j no_card l)
        ∙ take-length b.cards) i;
  }

  pub unused_read : unused_cards (book_words b ++ t) ≡ padding b
  unused_read =
      ap (λ z. take (unused_card_words z) (drop (card_start z) (book_words b ++ t))) count_book
      ∙ ap (λ k. take (unused_card_words (length b.cards)) (drop (card_start (length b.cards)) k)) book_end
      ∙ part_at (shape (length b.cards) b.marks (flat card_words b.cards)) (padding b) t (card_start (length b.cards)) (unused_card_words (length b.cards)) end_length (length-replicate (unused_card_words (length b.cards)) 0)

-- one word more at the front of what is left from a on
one : (w : List ℕ) (a : ℕ) → a < length w → drop a w ≡ get_or w a 0 ∷ drop (a + 1) w
one w a h = drop-cons w a 0 h ∙ ap (λ k. get_or w a 0 ∷ drop k w) (sym (add-one a))

next : (w : List ℕ) (a k : ℕ) → a + k < length w → drop (a + k) w ≡ get_or w (a + k) 0 ∷ drop (a + (k + 1)) w
next w a k h = one w (a + k) h ∙ ap (λ j. get_or w (a + k) 0 ∷ drop j w) (native.Mathlib.Nat.add_assoc a k 1)

card_part : (w : List ℕ) (a : ℕ) → a + card_size ≤ length w → take card_size (drop a w) ≡ card_words (card_from w a)
card_part w a h = rw (one w a (omega arith), next w a 1 (omega arith), next w a 2 (omega arith), next w a 3 (omega arith))

cut : (w : List ℕ) (a k b : ℕ) → a + k ≡ b → drop a w ≡ take k (drop a w) ++ drop b w
cut w a k b e = sym (take-append-drop k (drop a w)) ∙ ap (λ l. take k (drop a w) ++ l) (drop-drop k a w ∙ ap (λ i. drop i w) e)

-- A card slice that is long enough, with few enough cards and zeros where it is unused.
pub record Neat (k : List ℕ) : Type 0 where
  pub long : book_size ≤ length k
  pub few : cards_in k ≤ most_cards
  pub unused : (x : ℕ) → Mem x (unused_cards k) → x ≡ 0

pub read_fits : (k : List ℕ) → Neat k → Fits (read_book k)
unfolding read_book
read_fits k n = record {
  marks = simp (length-take, length-drop) (omega (arith, n.long));
  cards = omega (arith, n.few, length_table (cards_in k) (λ j. card_from k (card_start j)));
}

pub count_of_book : (k : List ℕ) → length (read_book k).cards ≡ cards_in k
unfolding read_book
count_of_book k = length_table (cards_in k) (λ j. card_from k (card_start j))

-- What is read is written.
pub book_read : (k : List ℕ) → Neat k → book_words (read_book k) ++ drop book_size k ≡ k
unfolding read_book shape
book_read k n =
    book_shape (read_book k) (drop book_size k)
    ∙ ap (λ z. shape z (marks_in k) (flat card_words (read_book k).cards ++ (replicate (unused_card_words z) 0 ++ drop book_size k))) (count_of_book k)
    ∙ ap (λ z. shape m (marks_in k) (z ++ (replicate (unused_card_words m) 0 ++ drop book_size k))) cells
    ∙ ap (λ z. shape m (marks_in k) (take (card_size * m) (drop 65 k) ++ (z ++ drop book_size k))) (sym rest)
    ∙ sym (one k 0 (omega (arith, n.long)) ∙ ap (λ l. m ∷ l) (cut k 1 most_nodes 65 refl
    ∙ ap (λ l. take most_nodes (drop 1 k) ++ l) (cut k 65 (card_size * m) (card_start m) refl
    ∙ ap (λ l. take (card_size * m) (drop 65 k) ++ l) (cut k (card_start m) (unused_card_words m) book_size (omega (arith, n.few))))))
  where
    m : ℕ
    m = cards_in k

    cells : flat card_words (read_book k).cards ≡ take (card_size * m) (drop 65 k)
    cells = flat_read card_words card_size k 65 (λ j. card_from k (card_start j)) (λ j l. card_part k (card_start j) l) m (omega (arith, n.long, n.few))

    rest : unused_cards k ≡ replicate (unused_card_words m) 0
    rest = zeros (unused_cards k) (unused_card_words m) (simp (length-take, length-drop) (omega (arith, n.long, n.few))) n.unused

-- One card put in its place, one put last, one hub written, one mark written.
abbrev pub with_card : Book → ℕ → Card → Book
with_card b j c = record { marks = b.marks; cards = set b.cards j c }

abbrev pub with_last : Book → Card → Book
with_last b c = record { marks = b.marks; cards = b.cards ++ (c ∷ []) }

abbrev pub with_mark : Book → ℕ → ℕ → Book
with_mark b h x = record { marks = set b.marks h x; cards = b.cards }

abbrev pub with_hub : Card → ℕ → Card
with_hub c hub = record { machine = c.machine; revision = c.revision; price = c.price; hub = hub }

module _ (b : Book) (t : List ℕ) (f : Fits b) where
  -- the words of a book with card j changed
  card_set : (j : ℕ) (c : Card) → j < length b.cards
      → book_words (with_card b j c) ++ t ≡ front b t f j ++ (card_words c ++ (flat card_words (drop (suc j) b.cards) ++ (padding b ++ t)))
  card_set j c l =
      book_shape (with_card b j c) t
      ∙ ap (λ z. shape z b.marks (flat card_words (set b.cards j c) ++ (replicate (unused_card_words z) 0 ++ t))) (length-set b.cards j c)
      ∙ ap (shape (length b.cards) b.marks) (ap (λ z. z ++ (padding b ++ t)) (flat_set card_words b.cards j c l)
      ∙ append_assoc (flat card_words (take j b.cards)) _ (padding b ++ t)
      ∙ ap (λ z. flat card_words (take j b.cards) ++ z) (append_assoc (card_words c) (flat card_words (drop (suc j) b.cards)) (padding b ++ t)))
      ∙ shape_append (length b.cards) b.marks (flat card_words (take j b.cards)) _

  pub put_card_is : (j : ℕ) (c : Card) → j < length b.cards → splice (book_words b ++ t) (card_start j) (card_words c) ≡ book_words (with_card b j c) ++ t
  put_card_is j c l =
      ap (λ z. splice z (card_start j) (card_words c)) (book_split b t f j c l)
      ∙ splice_at (front b t f j) _ (card_words c) (card_start j) (front_length b t f j (omega arith))
      ∙ sym (card_set j c l)

  pub put_hub_is : (j hub : ℕ) (d : Card) → j < length b.cards
      → set (book_words b ++ t) (card_start j + 3) hub ≡ book_words (with_card b j (with_hub (get_or b.cards j d) hub)) ++ t
  put_hub_is j hub d l =
      ap (λ z. set z (card_start j + 3) hub) (book_split b t f j d l ∙ sym (append_assoc (front b t f j) three _))
      ∙ set_at (front b t f j ++ three) c.hub _ hub (card_start j + 3) (length-append (front b t f j) three ∙ ap (λ z. z + 3) (front_length b t f j (omega arith)))
      ∙ append_assoc (front b t f j) three _
      ∙ sym (card_set j (with_hub c hub) l)
    where
      c : Card
      c = get_or b.cards j d

      three : List ℕ
      three = c.machine ∷ c.revision ∷ c.price ∷ []

  pub push_card_is : (c : Card) → length b.cards < most_cards
      → set (splice (book_words b ++ t) (card_start (length b.cards)) (card_words c)) 0 (length b.cards + 1) ≡ book_words (with_last b c) ++ t
  unfolding shape
  push_card_is c l =
      ap (λ z. set (splice z (card_start m) (card_words c)) 0 (m + 1)) (book_end b t f)
      ∙ ap (λ z. set z 0 (m + 1)) (splice_at (shape m b.marks cells) (padding b ++ t) (card_words c) (card_start m) (end_length b t f)
      ∙ ap (λ z. shape m b.marks cells ++ (card_words c ++ z)) (drop_pad card_size (unused_card_words m) t (omega arith)))
      ∙ sym (shape_append (m + 1) b.marks cells (card_words c ++ (replicate (unused_card_words m - card_size) 0 ++ t)))
      ∙ ap (shape (m + 1) b.marks) (sym (append_assoc cells (card_words c) (replicate (unused_card_words m - card_size) 0 ++ t)))
      ∙ sym last
    where
      m : ℕ
      m = length b.cards

      cells : List ℕ
      cells = flat card_words b.cards

      last : book_words (with_last b c) ++ t ≡ shape (m + 1) b.marks ((cells ++ card_words c) ++ (replicate (unused_card_words m - card_size) 0 ++ t))
      last =
          let k : unused_card_words (m + 1) ≡ unused_card_words m - card_size = omega arith in
          book_shape (with_last b c) t
          ∙ ap (λ z. shape z b.marks (flat card_words (b.cards ++ (c ∷ [])) ++ (replicate (unused_card_words z) 0 ++ t))) (length-append b.cards (c ∷ []))
          ∙ ap (λ z. shape (m + 1) b.marks (z ++ (replicate (unused_card_words (m + 1)) 0 ++ t))) (flat_append card_words b.cards (c ∷ []))
          ∙ ap (λ z. shape (m + 1) b.marks ((cells ++ card_words c) ++ (replicate z 0 ++ t))) k

  pub mark_is : (h x : ℕ) → h < most_nodes → set (book_words b ++ t) (suc h) x ≡ book_words (with_mark b h x) ++ t
  unfolding shape
  mark_is h x l =
      ap (λ z. set z (suc h) x) (book_shape b t)
      ∙ ap (λ z. length b.cards ∷ z) (set-append_left b.marks (flat card_words b.cards ++ (padding b ++ t)) h x (omega (arith, f.marks)))
      ∙ sym (book_shape (with_mark b h x) t)
