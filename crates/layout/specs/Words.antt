-- Words and typed state: what is written is read, and what is read is written. Assumes nothing.
use Rattle.std.specs.Prelude.{◌≡◌, ◌&&◌, nat_eq, drop, get_or, replicate}
use Rattle.std.proofs.Math.Path.{refl, ap}
use Rattle.std.proofs.Common.{sym, ◌∙◌, add_assoc, add-one, arith, length-append, length-take, length-drop, take-append-drop}
use mathlib.Core.List.{List, [], ◌∷◌, ◌++◌, append_assoc, append-nil}
use Prim.Native.Nat.{ℕ, suc, zero, ◌+◌, ◌*◌, ◌≤◌, ◌<◌}
use Rattle.std.proofs.Math.Nat.{mul-zero, mul-suc}
use Rattle.std.proofs.Math.ListN.{length, take, length-replicate, get_or-eq_default}
use Rattle.std.proofs.lemmas.List.{get_or-replicate}
use lib.Seq.{get_or-append-add, get_or-append_seam, drop_at, take_at, take-length, drop-cons, take-add, drop-drop, ext_get_or}
use Rattle.lists.specs.Basics.{Mem, first, table, flat}
use Rattle.lists.specs.Members.{mem_at}
use Rattle.lists.specs.Blocks.{length_table, get_or_table, table_of, flat_append, flat_split, length_flat, length_front}
use Rattle.protocol.specs.declared.Row.{Row}
use Rattle.protocol.specs.declared.Message.{Message}
use Rattle.protocol.specs.Record.{form, most_nodes, most_messages, row_size, message_size, row_start, message_start, record_size, unused_row_words, unused_message_words, State, count, count_in, messages_in, asked_in, row_words, message_words, words, row_from, message_from, read, row, message, outside, no_message}
use Rattle.protocol.specs.WellFormed.{unused_rows, unused_messages}
use Rattle.protocol.specs.Step.{on_link, oldest}

pub row_size_lem : (h : Row) → length (row_words h) ≡ row_size
row_size_lem h = refl

pub message_size_lem : (m : Message) → length (message_words m) ≡ message_size
message_size_lem m = refl

-- The words before the rows, the padding behind the rows and behind the messages.
abbrev pub header : State → List ℕ
header s = form ∷ count s ∷ length s.messages ∷ s.asked ∷ []

abbrev pub row_padding : State → List ℕ
row_padding s = replicate (unused_row_words (count s)) 0

abbrev pub message_padding : State → List ℕ
message_padding s = replicate (unused_message_words (length s.messages)) 0

-- The words before the messages, with m as their count.
unfoldable pub front : List Row → ℕ → ℕ → List ℕ
front rows asked m = (form ∷ length rows ∷ m ∷ asked ∷ []) ++ (flat row_words rows ++ replicate (unused_row_words (length rows)) 0)

abbrev pub front_of : State → List ℕ
front_of s = front s.rows s.asked (length s.messages)

module _ (s : State) (t : List ℕ) where
  pub words_split : words s ++ t ≡ front_of s ++ (flat message_words s.messages ++ (message_padding s ++ t))
  unfolding words front
  words_split = simp append_assoc

  pub count_read : count_in (words s ++ t) ≡ count s
  unfolding words
  count_read = refl

  pub messages_read : messages_in (words s ++ t) ≡ length s.messages
  unfolding words
  messages_read = refl

  pub asked_read : asked_in (words s ++ t) ≡ s.asked
  unfolding words
  asked_read = refl

  pub form_read : get_or (words s ++ t) 0 0 ≡ form
  unfolding words
  form_read = refl

row_seam : (p r : List ℕ) (h : Row) (a : ℕ) → length p ≡ a → row_from (p ++ (row_words h ++ r)) a ≡ h
row_seam p r h a e = rw (← e) (simp (get_or-append-add, get_or-append_seam))

message_seam : (p r : List ℕ) (m : Message) (a : ℕ) → length p ≡ a → message_from (p ++ (message_words m ++ r)) a ≡ m
message_seam p r m a e = rw (← e) (simp (get_or-append-add, get_or-append_seam))

-- the row read at its place
pub row_read : (s : State) (t : List ℕ) (i : ℕ) (d : Row) → i < count s → row_from (words s ++ t) (row_start i) ≡ get_or s.rows i d
unfolding words
row_read s t i d l =
    ap (λ w. row_from w (row_start i)) e
    ∙ row_seam (header s ++ flat row_words (take i s.rows)) rest (get_or s.rows i d) (row_start i)
    (omega (arith, length_front row_words row_size row_size_lem s.rows i (omega arith)))
  where
    rest : List ℕ
    rest = flat row_words (drop (suc i) s.rows) ++ (row_padding s ++ (flat message_words s.messages ++ (message_padding s ++ t)))

    e : words s ++ t ≡ (header s ++ flat row_words (take i s.rows)) ++ (row_words (get_or s.rows i d) ++ rest)
    e = rw (flat_split row_words s.rows i d l) (simp append_assoc)

pub front_length : (rows : List Row) (asked m : ℕ) → length rows ≤ most_nodes → length (front rows asked m) ≡ message_start 0
unfolding front
front_length rows asked m h = simp (length-append, length-replicate, length_flat row_words row_size row_size_lem) (omega arith)

-- the words up to the end of some messages
pub messages_length : (rows : List Row) (asked m : ℕ) (l : List Message) → length rows ≤ most_nodes
    → length (front rows asked m ++ flat message_words l) ≡ message_start (length l)
messages_length rows asked m l h = simp (length-append, front_length rows asked m h, length_flat message_words message_size message_size_lem)

-- the message read at its place
pub message_read : (s : State) (t : List ℕ) (j : ℕ) (d : Message) → count s ≤ most_nodes → j < length s.messages
    → message_from (words s ++ t) (message_start j) ≡ get_or s.messages j d
message_read s t j d h l =
    ap (λ w. message_from w (message_start j)) e
    ∙ message_seam (front_of s ++ flat message_words (take j s.messages)) rest (get_or s.messages j d) (message_start j)
    (messages_length s.rows s.asked (length s.messages) (take j s.messages) h ∙ ap message_start (lib.Seq.length-take-le j s.messages (omega arith)))
  where
    rest : List ℕ
    rest = flat message_words (drop (suc j) s.messages) ++ (message_padding s ++ t)

    e : words s ++ t ≡ (front_of s ++ flat message_words (take j s.messages)) ++ (message_words (get_or s.messages j d) ++ rest)
    e = words_split s t ∙ rw (flat_split message_words s.messages j d l) (simp append_assoc)

-- a part between two seams
pub part_at : (p q r : List ℕ) (a k : ℕ) → length p ≡ a → length q ≡ k → take k (drop a (p ++ (q ++ r))) ≡ q
part_at p q r a k e f = ap (take k) (drop_at p (q ++ r) a e) ∙ take_at q r k f

-- What is written is read.
pub read_words : (s : State) (t : List ℕ) → count s ≤ most_nodes → read (words s ++ t) ≡ s
unfolding read
read_words s t h = λ i. record {
  rows = (ap (λ z. table z (λ k. row_from (words s ++ t) (row_start k))) (count_read s t)
      ∙ table_of s.rows (outside 0) (λ k. row_from (words s ++ t) (row_start k)) (count s) (omega arith) (λ k l. row_read s t k (outside 0) l)
      ∙ take-length s.rows) i;
  messages = (ap (λ z. table z (λ k. message_from (words s ++ t) (message_start k))) (messages_read s t)
      ∙ table_of s.messages no_message (λ k. message_from (words s ++ t) (message_start k)) (length s.messages) (omega arith)
      (λ k l. message_read s t k no_message h l)
      ∙ take-length s.messages) i;
  asked = asked_read s t i;
}

module _ (s : State) (t : List ℕ) (hn : count s ≤ most_nodes) (hm : length s.messages ≤ most_messages) where
  pub length_words : length (words s) ≡ record_size
  unfolding words
  length_words =
      simp (length-append, length-replicate, length_flat row_words row_size row_size_lem, length_flat message_words message_size message_size_lem)
      (omega arith)

  pub drop_words : drop record_size (words s ++ t) ≡ t
  drop_words = drop_at (words s) t record_size length_words

  pub unused_rows_read : unused_rows (words s ++ t) ≡ row_padding s
  unfolding words
  unused_rows_read =
      ap (λ w. take (unused_row_words (count s)) (drop (row_start (count s)) w)) e
      ∙ part_at (header s ++ flat row_words s.rows) (row_padding s) (flat message_words s.messages ++ (message_padding s ++ t)) (row_start (count s))
      (unused_row_words (count s))
      (omega (arith, length_flat row_words row_size row_size_lem s.rows)) (length-replicate (unused_row_words (count s)) 0)
    where
      e : words s ++ t ≡ (header s ++ flat row_words s.rows) ++ (row_padding s ++ (flat message_words s.messages ++ (message_padding s ++ t)))
      e = simp append_assoc

  pub unused_messages_read : unused_messages (words s ++ t) ≡ message_padding s
  unused_messages_read =
      ap (λ z. take (unused_message_words z) (drop (message_start z) (words s ++ t))) (messages_read s t)
      ∙ ap (λ w. take (unused_message_words (length s.messages)) (drop (message_start (length s.messages)) w)) e
      ∙ part_at (front_of s ++ flat message_words s.messages) (message_padding s) t (message_start (length s.messages))
      (unused_message_words (length s.messages))
      (messages_length s.rows s.asked (length s.messages) s.messages hn) (length-replicate (unused_message_words (length s.messages)) 0)
    where
      e : words s ++ t ≡ (front_of s ++ flat message_words s.messages) ++ (message_padding s ++ t)
      e = words_split s t ∙ sym (append_assoc (front_of s) (flat message_words s.messages) (message_padding s ++ t))

-- one word more at the front of what is left from a on
one : (w : List ℕ) (a : ℕ) → a < length w → drop a w ≡ get_or w a 0 ∷ drop (a + 1) w
one w a h = drop-cons w a 0 h ∙ ap (λ k. get_or w a 0 ∷ drop k w) (sym (add-one a))

next : (w : List ℕ) (a k : ℕ) → a + k < length w → drop (a + k) w ≡ get_or w (a + k) 0 ∷ drop (a + (k + 1)) w
next w a k h = one w (a + k) h ∙ ap (λ j. get_or w (a + k) 0 ∷ drop j w) (add_assoc a k 1)

pub row_part : (w : List ℕ) (a : ℕ) → a + row_size ≤ length w → take row_size (drop a w) ≡ row_words (row_from w a)
row_part w a h =
    rw (one w a (omega arith), next w a 1 (omega arith), next w a 2 (omega arith), next w a 3 (omega arith), next w a 4 (omega arith), next w a 5 (omega arith), next w a 6 (omega arith))

pub message_part : (w : List ℕ) (a : ℕ) → a + message_size ≤ length w → take message_size (drop a w) ≡ message_words (message_from w a)
message_part w a h =
    rw (one w a (omega arith), next w a 1 (omega arith), next w a 2 (omega arith), next w a 3 (omega arith), next w a 4 (omega arith), next w a 5 (omega arith))

-- n values of k words each, from word a on
module _ {A : Type 0} (f : A → List ℕ) (k : ℕ) (w : List ℕ) (a : ℕ) (g : ℕ → A)
    (reads : (i : ℕ) → a + k * i + k ≤ length w → take k (drop (a + k * i) w) ≡ f (g i)) where
  pub flat_read : (n : ℕ) → a + k * n ≤ length w → flat f (table n g) ≡ take (k * n) (drop a w)
  unfolding table
  flat_read zero h = rw mul-zero
  flat_read (suc n) h =
      let e : k * suc n ≡ k * n + k = mul-suc k n in
      let l : a + k * n + k ≤ length w = omega (arith, e) in
      flat_append f (table n g) (g n ∷ [])
      ∙ rw (flat_read n (omega arith), append-nil (f (g n)), ← reads n l, e, take-add (k * n) k (drop a w), drop-drop (k * n) a w)

-- What the header says, and that what is unused is 0.
pub record Tidy (w : List ℕ) : Type 0 where
  pub long : record_size ≤ length w
  pub version : get_or w 0 0 ≡ form
  pub nodes : count_in w ≤ most_nodes
  pub waiting : messages_in w ≤ most_messages
  pub rows : (x : ℕ) → Mem x (unused_rows w) → x ≡ 0
  pub messages : (x : ℕ) → Mem x (unused_messages w) → x ≡ 0

-- a list of zeros
pub zeros : (l : List ℕ) (n : ℕ) → length l ≡ n → ((x : ℕ) → Mem x l → x ≡ 0) → l ≡ replicate n 0
zeros l n e z =
    ext_get_or 0 l (replicate n 0) (e ∙ sym (length-replicate n 0))
    (λ i h. z (get_or l i 0) (mem_at l i 0 h) ∙ sym (get_or-replicate n i 0 0 (omega arith)))

cut : (w : List ℕ) (a k b : ℕ) → a + k ≡ b → drop a w ≡ take k (drop a w) ++ drop b w
cut w a k b e = sym (take-append-drop k (drop a w)) ∙ ap (λ l. take k (drop a w) ++ l) (drop-drop k a w ∙ ap (λ i. drop i w) e)

body : (w : List ℕ) (n m : ℕ) → n ≤ most_nodes → m ≤ most_messages
    → drop 4 w
    ≡ (take (row_size * n) (drop 4 w) ++ (take (unused_row_words n) (drop (row_start n) w)
    ++ (take (message_size * m) (drop (message_start 0) w) ++ take (unused_message_words m) (drop (message_start m) w))))
    ++ drop record_size w
body w n m hn hm =
    cut w 4 (row_size * n) (row_start n) refl
    ∙ ap (λ l. take (row_size * n) (drop 4 w) ++ l) (cut w (row_start n) (unused_row_words n) (message_start 0) (omega arith)
    ∙ ap (λ l. take (unused_row_words n) (drop (row_start n) w) ++ l) (cut w (message_start 0) (message_size * m) (message_start m) refl
    ∙ ap (λ l. take (message_size * m) (drop (message_start 0) w) ++ l) (cut w (message_start m) (unused_message_words m) record_size (omega arith))))
    ∙ simp append_assoc

-- What is read is written: a tidy record is the words of the state it stands for, and what is behind them.
pub words_read : (w : List ℕ) → Tidy w → words (read w) ++ drop record_size w ≡ w
unfolding read words
words_read w t =
    let n = count_in w in
    let m = messages_in w in
    let long = t.long in
    let rows = flat_read row_words row_size w 4 (λ i. row_from w (row_start i)) (λ i l. row_part w (row_start i) l) n (omega (arith, t.nodes)) in
    let cells = flat_read message_words message_size w (message_start 0) (λ j. message_from w (message_start j)) (λ j l. message_part w (message_start j) l) m (omega (arith, t.waiting)) in
    let rest = zeros (unused_rows w) (unused_row_words n) (simp (length-take, length-drop) (omega (arith, t.nodes))) t.rows in
    let tail = zeros (unused_messages w) (unused_message_words m) (simp (length-take, length-drop) (omega (arith, t.waiting))) t.messages in
    sym (one w 0 (omega arith)
    ∙ rw (length_table, length_table, rows, cells, ← rest, ← tail, next w 0 1 (omega arith), next w 0 2 (omega arith), next w 0 3 (omega arith))
    (rw t.version (ap (λ l. form ∷ n ∷ m ∷ asked_in w ∷ l) (body w n m t.nodes t.waiting))))

-- A row and a message of the state, by their words.
pub row_of_read : (w : List ℕ) (i : ℕ) → i < count_in w → row (read w) i ≡ row_from w (row_start i)
unfolding read
row_of_read w i l = get_or_table (count_in w) (λ k. row_from w (row_start k)) i (outside 0) l

pub row_beyond : (w : List ℕ) (i : ℕ) → count_in w ≤ i → row (read w) i ≡ outside 0
unfolding read
row_beyond w i l =
    get_or-eq_default (table (count_in w) (λ k. row_from w (row_start k))) (outside 0) (omega (arith, length_table (count_in w) (λ k. row_from w (row_start k))))

pub message_of_read : (w : List ℕ) (j : ℕ) → j < messages_in w → message (read w) j ≡ message_from w (message_start j)
unfolding read
message_of_read w j l = get_or_table (messages_in w) (λ k. message_from w (message_start k)) j no_message l

-- The sizes of the state that words stand for.
pub count_of_read : (w : List ℕ) → count (read w) ≡ count_in w
unfolding read
count_of_read w = length_table (count_in w) (λ i. row_from w (row_start i))

pub messages_of_read : (w : List ℕ) → length (read w).messages ≡ messages_in w
unfolding read
messages_of_read w = length_table (messages_in w) (λ j. message_from w (message_start j))

-- The oldest message of a link, by the words.
pub on_link_read : (w : List ℕ) (x y j : ℕ) → j < messages_in w
    → on_link (read w) x y j ≡ (nat_eq (get_or w (message_start j + 1) 0) x && nat_eq (get_or w (message_start j + 2) 0) y)
unfolding on_link
on_link_read w x y j l = ap (λ m. nat_eq m.from x && nat_eq m.to y) (message_of_read w j l)

pub oldest_read : (w : List ℕ) (x y : ℕ) → oldest (read w) x y ≡ first (on_link (read w) x y) (messages_in w)
oldest_read w x y = ap (first (on_link (read w) x y)) (messages_of_read w)
