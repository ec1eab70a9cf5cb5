-- Document 02, 2026-06: the questions of a driver's route in one call, a batch of lookups at one hub. What a batch leaves is by definition what
-- asking one by one leaves.
use Rattle.std.specs.Prelude.{List, [], ◌∷◌, ◌++◌, ℕ, ◌*◌, ◌/◌, nat_le, length, drop}
use Rattle.lists.specs.Basics.{require, flat}
use Rattle.protocol.specs.declared.Answer.TheVariants.{Quiet}
use Rattle.protocol.specs.Outcomes.{Outcome}
use Rattle.std.specs.Prelude.{Err, Ok}
use Rattle.protocol.specs.declared.Tally.{Tally}
use Rattle.protocol.specs.declared.refusal.Refusal.{Refusal}
use Rattle.protocol.specs.declared.refusal.Refusal.TheVariants.{PlacesShort, RouteLong}
use Rattle.protocol.specs.Refusals.{number_of}
use Rattle.protocol.specs.Answers.{answer_words, refusal, counted}
use Rattle.protocol.specs.Calls.{on_record, step_call}
use Rattle.protocol.specs.Bytes.{words_of, bytes_after, CalledBytes}

-- What some questions leave: their outcomes, in list order, and the lent slice.
pub record Asked : Type 0 where
  pub outcomes : List Outcome
  pub slice : List ℕ

abbrev pub in_front : Outcome → Asked → Asked
in_front o asked = record { outcomes = o ∷ asked.outcomes; slice = asked.slice }

-- Each number is asked (operation 0) on what the question before it left, refused or not.
unfoldable pub ask_each : List ℕ → ℕ → List ℕ → Asked
ask_each w hub [] = record { outcomes = []; slice = w }
ask_each w hub (v ∷ numbers) = in_front (step_call w 0 hub v).outcome (ask_each (step_call w 0 hub v).slice hub numbers)

-- A place of the output: by which number the question was refused, 0 where it was not; then its answer's five words, zeros where it has none.
abbrev pub place_size : ℕ
place_size = 6

unfoldable pub place_words : Outcome → List ℕ
place_words (Err k) = number_of k ∷ 0 ∷ 0 ∷ 0 ∷ 0 ∷ 0 ∷ []
place_words (Ok a) = 0 ∷ answer_words a

abbrev pub most_questions : ℕ
most_questions = 64

-- Are there at most 64 numbers? 25. Is there a place for each? 26; words that are no whole place do not count.
unfoldable pub fitting : {A : Type 0} → List ℕ → List ℕ → (Refusal → A) → A → A
fitting numbers out no_result rest =
    require (nat_le (length numbers) most_questions) (no_result RouteLong)
    (require (nat_le (length numbers) (length out / place_size)) (no_result PlacesShort) rest)

-- The questions of the call itself: 1, 2, 25, 26. (That the hub is none, or outside, each question is told for itself.)
unfoldable pub on_batch : {A : Type 0} → List ℕ → List ℕ → List ℕ → (Refusal → A) → A → A
on_batch w numbers out no_result rest = on_record w no_result (fitting numbers out no_result rest)

-- What the call leaves: its own outcome, quiet where it is accepted; the lent slice; and the lent output.
pub record BatchCalled : Type 0 where
  pub outcome : Outcome
  pub slice : List ℕ
  pub output : List ℕ

abbrev pub unasked : List ℕ → List ℕ → Refusal → BatchCalled
unasked w out k = record { outcome = Err k; slice = w; output = out }

-- The first places are written, one for each number; what is behind them stays.
unfoldable pub batch_written : List ℕ → List ℕ → Asked → BatchCalled
batch_written numbers out asked = record {
  outcome = Ok Quiet;
  slice = asked.slice;
  output = flat place_words asked.outcomes ++ drop (place_size * length numbers) out;
}

unfoldable pub batch_call : List ℕ → ℕ → List ℕ → List ℕ → BatchCalled
batch_call w hub numbers out = on_batch w numbers out (unasked w out) (batch_written numbers out (ask_each w hub numbers))

-- What was asked: nothing, where the call is refused.
unfoldable pub batch_outcomes : List ℕ → ℕ → List ℕ → List ℕ → List Outcome
batch_outcomes w hub numbers out = on_batch w numbers out (λ k. []) (ask_each w hub numbers).outcomes

-- The tally after some questions, each counted as a step is. So a refused question counts, and a refused call adds nothing.
unfoldable pub counted_all : Tally → List Outcome → Tally
counted_all t [] = t
counted_all t (o ∷ outcomes) = counted_all (counted t o) outcomes

-- For C: record, numbers and outcomes travel as bytes, so that a place is 24 bytes; a refusal writes none of them.
unfoldable pub batch_carried : List ℕ → List ℕ → BatchCalled → CalledBytes
batch_carried bytes out called = record {
  code = refusal called.outcome;
  bytes = bytes_after bytes called.slice called.outcome;
  output = bytes_after out called.output called.outcome;
}

unfoldable pub batch_bytes : List ℕ → ℕ → List ℕ → List ℕ → CalledBytes
batch_bytes bytes hub numbers out = batch_carried bytes out (batch_call (words_of bytes) hub (words_of numbers) (words_of out))
