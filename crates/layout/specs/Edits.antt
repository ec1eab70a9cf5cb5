-- What the edits of the words do to the state that they stand for: a row put, a message pushed, a message removed. Assumes nothing.
use Rattle.std.specs.Prelude.{◌≡◌, ℕ, suc, ◌+◌, ◌-◌, ◌*◌, ◌≤◌, ◌<◌, take, get_or, set}
use Rattle.std.proofs.Math.Path.{refl, ap, sym}
use Rattle.std.proofs.Common.{◌∙◌, length-set}
use mathlib.Core.List.{List, [], ◌∷◌, ◌++◌, append_assoc}
use Rattle.std.proofs.Math.Numerals.{add-one}
use native.Mathlib.Omega.{arith}
use Rattle.std.proofs.Math.ListN.{length, drop, length-append, length-drop, replicate-append-replicate}
use Rattle.std.proofs.Math.Seq.{length-take-le, drop_at, take_at}
use Rattle.lists.specs.Splice.{splice, splice_at, drop_pad, closed_up, closed_up_seam}
use Rattle.lists.specs.Basics.{flat}
use Rattle.lists.specs.Blocks.{flat_append, flat_split, flat_set, length_flat, length_front}
use Rattle.protocol.specs.declared.Row.{Row}
use Rattle.protocol.specs.declared.Message.{Message}
use Rattle.protocol.specs.Record.{most_nodes, most_messages, row_size, message_size, row_start, message_start, unused_message_words, State, count, row_words, message_words, words, no_message, with_row, sent, without_message, ticketed}
use Rattle.layout.specs.Words.{row_size_lem, message_size_lem, header, row_padding, message_padding, front, front_of, words_split, messages_length}

-- A row put at its place.
abbrev pub row_put : List ℕ → ℕ → Row → List ℕ
row_put w i h = splice w (row_start i) (row_words h)

-- A message put behind the n that are there.
abbrev pub pushed : List ℕ → ℕ → Message → List ℕ
pushed w n m = set (splice w (message_start n) (message_words m)) 2 (n + 1)

-- Message j of n taken out: the later ones move up, and 0 comes in behind them.
unfoldable pub removed : List ℕ → ℕ → ℕ → List ℕ
removed w n j = set (take (message_start j) w ++ closed_up message_size (drop (message_start j) w) (message_size * (n - 1 - j))) 2 (n - 1)

pub put_row_is : (s : State) (t : List ℕ) (i : ℕ) (h : Row) → i < count s → row_put (words s ++ t) i h ≡ words (with_row s i h) ++ t
unfolding words
put_row_is s t i h l =
    rw (length-set s.rows i h, flat_set row_words s.rows i h l, flat_split row_words s.rows i h l)
    (simp append_assoc
    (splice_at (header s ++ flat row_words (take i s.rows))
    (row_words (get_or s.rows i h) ++ (flat row_words (drop (suc i) s.rows) ++ (row_padding s ++ (flat message_words s.messages ++ (message_padding s ++ t)))))
    (row_words h) (row_start i) (omega (arith, length_front row_words row_size row_size_lem s.rows i (omega arith))) ∙ simp append_assoc))

set_count : (rows : List Row) (asked m v : ℕ) (x : List ℕ) → set (front rows asked m ++ x) 2 v ≡ front rows asked v ++ x
unfolding front
set_count rows asked m v x = refl

-- the words of the first j messages, message j's own, and those after it
split_at_message : (s : State) (t : List ℕ) (j : ℕ) → j < length s.messages
    → words s ++ t ≡ (front_of s ++ flat message_words (take j s.messages))
    ++ (message_words (get_or s.messages j no_message) ++ (flat message_words (drop (suc j) s.messages) ++ (message_padding s ++ t)))
split_at_message s t j h = words_split s t ∙ rw (flat_split message_words s.messages j no_message h) (simp append_assoc)

module _ (s : State) (t : List ℕ) (hn : count s ≤ most_nodes) where
  abbrev m : ℕ
  m = length s.messages

  pub push_is : (u : Message) → m < most_messages → pushed (words s ++ t) m u ≡ words (sent s u) ++ t
  push_is u hm =
      let k : unused_message_words m - message_size ≡ unused_message_words (m + 1) = omega arith in
      rw (
        words_split s t,
        words_split (sent s u) t,
        flat_append message_words s.messages (u ∷ []),
        length-append s.messages (u ∷ []),
        ← append_assoc (front_of s) (flat message_words s.messages) (message_padding s ++ t),
        splice_at (front_of s ++ flat message_words s.messages) (message_padding s ++ t) (message_words u) (message_start m)
            (messages_length s.rows s.asked m s.messages hn),
        drop_pad message_size (unused_message_words m) t (omega arith),
        k,
        append_assoc (front_of s),
        set_count,
      )
      (simp append_assoc)

  pub remove_is : (j : ℕ) → j < m → m ≤ most_messages → removed (words s ++ t) m j ≡ words (without_message s j) ++ t
  unfolding removed
  remove_is j hj hm =
      let a = flat message_words (take j s.messages) in
      let b = flat message_words (drop (suc j) s.messages) in
      let r = message_padding s ++ t in
      let u = message_words (get_or s.messages j no_message) in
      let lj : length (take j s.messages) ≡ j = length-take-le j s.messages (omega arith) in
      let la : length (front_of s ++ a) ≡ message_start j = messages_length s.rows s.asked m (take j s.messages) hn ∙ ap message_start lj in
      let ld : length (drop (suc j) s.messages) ≡ m - 1 - j = simp length-drop (omega arith) in
      let lb : message_size * (m - 1 - j) ≡ length b = sym (length_flat message_words message_size message_size_lem (drop (suc j) s.messages) ∙ ap (λ i. message_size * i) ld) in
      let lt : length (take j s.messages ++ drop (suc j) s.messages) ≡ m - 1 = length-append (take j s.messages) (drop (suc j) s.messages) ∙ omega arith in
      let k : message_size + unused_message_words m ≡ unused_message_words (m - 1) = omega arith in
      rw (
        split_at_message s t j hj,
        drop_at (front_of s ++ a) (u ++ (b ++ r)) (message_start j) la,
        take_at (front_of s ++ a) (u ++ (b ++ r)) (message_start j) la,
        lb,
        closed_up_seam message_size u b r refl,
        append_assoc (front_of s),
        set_count,
        words_split (without_message s j) t,
        add-one,
        lt,
        flat_append message_words (take j s.messages) (drop (suc j) s.messages),
        ← k,
        ← replicate-append-replicate {A = ℕ} message_size (unused_message_words m) 0,
      )
      (simp append_assoc)

-- One question more asked.
pub ticket_is : (s : State) (t : List ℕ) → set (words s ++ t) 3 (s.asked + 1) ≡ words (ticketed s) ++ t
unfolding words
ticket_is s t = refl
