-- What the edits of a step do to the words, and that this is the step of the state. Assumes nothing.
use Rattle.std.specs.Prelude.{◌≡◌, refl, List, ◌++◌, ℕ, ◌+◌, ◌-◌, ◌≤◌, ◌<◌, length, set, take, drop}
use Rattle.std.proofs.Common.{sym, ◌∙◌, ap, arith, length-append, length-take, length-drop, length-set}
use Rattle.protocol.specs.declared.Row.{Row}
use Rattle.protocol.specs.declared.Message.{Message}
use Rattle.std.specs.Prelude.{Ok, Err}
use Rattle.protocol.specs.declared.refusal.Refusal.{Refusal}
use Rattle.protocol.specs.declared.Decision.{Decision}
use Rattle.protocol.specs.declared.Decision.TheVariants.{Reply, Send}
use Rattle.protocol.specs.Record.{most_nodes, most_messages, record_size, State, count, count_in, messages_in, asked_in, words, read, with_row, sent, without_message, ticketed}
use Rattle.protocol.specs.Step.{conclude}
use Rattle.protocol.specs.Calls.{Called, turned_down, written}
use Rattle.layout.specs.Words.{count_of_read, messages_of_read}
use Rattle.layout.specs.Form.{Valid, valid_words}
use Rattle.layout.specs.Edits.{row_put, pushed, removed, put_row_is, push_is, remove_is, ticket_is}

-- What a decision at hub t leaves of words whose m messages stay.
unfoldable pub settled : List ℕ → ℕ → ℕ → Decision → Called
settled w m t (Reply h a) = record { outcome = Ok a; slice = row_put w t h }
settled w m t (Send h u a) = record { outcome = Ok a; slice = pushed (row_put w t h) m u }

-- the edits, on the words of a state
module _ (s : State) (tail : List ℕ) (few : count s ≤ most_nodes) where
  row_sent : (t : ℕ) (h : Row) (u : Message) → t < count s → length s.messages < most_messages
      → pushed (row_put (words s ++ tail) t h) (length s.messages) u ≡ words (sent (with_row s t h) u) ++ tail
  row_sent t h u lt lm =
      ap (λ w. pushed w (length s.messages) u) (put_row_is s tail t h lt)
      ∙ push_is (with_row s t h) tail (rw length-set few) u lm

  without_length : (j : ℕ) → j < length s.messages → length (without_message s j).messages ≡ length s.messages - 1
  without_length j h =
      length-append (take j s.messages) (drop (j + 1) s.messages)
      ∙ omega (arith, length-take j s.messages, length-drop (j + 1) s.messages)

-- A decision of a command: no message is taken out.
pub settled_is : (w : List ℕ) → Valid w → (t : ℕ) (d : Decision) → t < count_in w → messages_in w < most_messages
    → settled w (messages_in w) t d ≡ written w (conclude (read w) t (Ok d))
unfolding settled conclude written
settled_is w v t (Reply h a) lt lm =
    ap (λ z. record { outcome = Ok a; slice = z })
    (ap (λ z. row_put z t h) (valid_words w v) ∙ put_row_is (read w) (drop record_size w) t h (omega (arith, count_of_read w)))
settled_is w v t (Send h u a) lt lm =
    ap (λ z. record { outcome = Ok a; slice = z })
    (ap (λ z. pushed (row_put z t h) (messages_in w) u) (valid_words w v)
    ∙ ap (λ z. pushed (row_put (words (read w) ++ drop record_size w) t h) z u) (sym (messages_of_read w))
    ∙ row_sent (read w) (drop record_size w) (omega (arith, v.nodes, count_of_read w)) t h u (omega (arith, count_of_read w)) (omega (arith, messages_of_read w)))

-- a refusal leaves the words as they were, whether or not a message would have been taken out
pub settled_refused : (w : List ℕ) (s : State) (t : ℕ) (k : Refusal) → turned_down w k ≡ written w (conclude s t (Err k))
unfolding conclude written
settled_refused w s t k = refl

-- message j taken out of the words
without : (w : List ℕ) → Valid w → (j : ℕ) → j < messages_in w → removed w (messages_in w) j ≡ words (without_message (read w) j) ++ drop record_size w
without w v j l =
    ap (λ z. removed z (messages_in w) j) (valid_words w v)
    ∙ ap (λ z. removed (words (read w) ++ drop record_size w) z j) (sym (messages_of_read w))
    ∙ remove_is (read w) (drop record_size w) (omega (arith, v.nodes, count_of_read w)) j (omega (arith, messages_of_read w)) (omega (arith, v.waiting, messages_of_read w))

-- A decision of a delivery: message j is taken out first.
pub settled_without_is : (w : List ℕ) → Valid w → (j t : ℕ) (d : Decision) → j < messages_in w → t < count_in w
    → settled (removed w (messages_in w) j) (messages_in w - 1) t d ≡ written w (conclude (without_message (read w) j) t (Ok d))
unfolding settled conclude written
settled_without_is w v j t (Reply h a) lj lt =
    ap (λ z. record { outcome = Ok a; slice = z })
    (ap (λ z. row_put z t h) (without w v j lj) ∙ put_row_is (without_message (read w) j) (drop record_size w) t h (omega (arith, count_of_read w)))
settled_without_is w v j t (Send h u a) lj lt =
    ap (λ z. record { outcome = Ok a; slice = z })
    (ap (λ z. pushed (row_put z t h) (messages_in w - 1) u) (without w v j lj)
    ∙ ap (λ z. pushed (row_put (words (without_message (read w) j) ++ drop record_size w) t h) z u)
    (sym (without_length (read w) (drop record_size w) few j (omega (arith, messages_of_read w)) ∙ ap (λ z. z - 1) (messages_of_read w)))
    ∙ row_sent (without_message (read w) j) (drop record_size w) few t h u (omega (arith, count_of_read w))
    (omega (arith, without_length (read w) (drop record_size w) few j (omega (arith, messages_of_read w)), messages_of_read w, v.waiting)))
  where
    few : count (read w) ≤ most_nodes
    few = omega (arith, v.nodes, count_of_read w)

asked_of_read : (w : List ℕ) → (read w).asked ≡ asked_in w
unfolding read
asked_of_read w = refl

-- An ask that its own hub answers, and one that is sent on.
pub own_ask_is : (w : List ℕ) → Valid w → set w 3 (asked_in w + 1) ≡ words (ticketed (read w)) ++ drop record_size w
unfolding read
own_ask_is w v = ap (λ z. set z 3 (asked_in w + 1)) (valid_words w v) ∙ ticket_is (read w) (drop record_size w)

pub sent_ask_is : (w : List ℕ) → Valid w → (u : Message) → messages_in w < most_messages
    → set (pushed w (messages_in w) u) 3 (asked_in w + 1) ≡ words (sent (ticketed (read w)) u) ++ drop record_size w
sent_ask_is w v u lm =
    ap (λ z. set (pushed z (messages_in w) u) 3 (asked_in w + 1)) (valid_words w v)
    ∙ ap (λ z. set (pushed (words (read w) ++ drop record_size w) z u) 3 (asked_in w + 1)) (sym (messages_of_read w))
    ∙ ap (λ z. set z 3 (asked_in w + 1)) (push_is (read w) (drop record_size w) (omega (arith, v.nodes, count_of_read w)) u (omega (arith, messages_of_read w)))
    ∙ ap (λ z. set (words (sent (read w) u) ++ drop record_size w) 3 (z + 1)) (sym (asked_of_read w))
    ∙ ticket_is (sent (read w) u) (drop record_size w)
