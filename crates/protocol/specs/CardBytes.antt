-- Document 02, 2026-04, for C: the calls that lend the cards too. Both slices travel as bytes, of which the first 1,988 and the first 2,113
-- words count: nothing behind them is read or written.
use Rattle.std.specs.Prelude.{List, ℕ, nat_le, length, take}
use Rattle.lists.specs.Basics.{require}
use Rattle.protocol.specs.declared.refusal.Refusal.TheVariants.{OutputShort}
use Rattle.protocol.specs.Record.{record_size}
use Rattle.protocol.specs.Fresh.{smallest}
use Rattle.protocol.specs.Refusals.{number_of}
use Rattle.protocol.specs.Answers.{refusal, outcome_words}
use Rattle.protocol.specs.Bytes.{words_of, over, bytes_after}
use Rattle.protocol.specs.Cards.{book_size, CardsCalled, step_cards, offer_call, fresh_by_cards}

abbrev pub record_of : List ℕ → List ℕ
record_of bytes = take record_size (words_of bytes)

abbrev pub book_of : List ℕ → List ℕ
book_of bytes = take book_size (words_of bytes)

-- What a step with cards leaves: the number returned, the bytes lent for both slices, and the lent output.
pub record CardsBytes : Type 0 where
  pub code : ℕ
  pub bytes : List ℕ
  pub book : List ℕ
  pub output : List ℕ

unfoldable pub carried_cards : List ℕ → List ℕ → List ℕ → CardsCalled → CardsBytes
carried_cards bytes book out called = record {
  code = refusal called.outcome;
  bytes = bytes_after bytes called.slice called.outcome;
  book = bytes_after book called.cards called.outcome;
  output = over out (outcome_words called.outcome);
}

-- As for the step without cards, the five words of output are asked for before everything else.
unfoldable pub step_cards_bytes : List ℕ → List ℕ → ℕ → ℕ → ℕ → List ℕ → CardsBytes
step_cards_bytes bytes book operation x y out =
    require (nat_le 20 (length out)) (record { code = number_of OutputShort; bytes = bytes; book = book; output = out })
    (carried_cards bytes book out (step_cards (record_of bytes) (book_of book) operation x y))

-- What an offer leaves: the number returned, and the bytes lent for the cards. The record is only read.
pub record OfferBytes : Type 0 where
  pub code : ℕ
  pub book : List ℕ

unfoldable pub taken : List ℕ → CardsCalled → OfferBytes
taken book called = record { code = refusal called.outcome; book = bytes_after book called.cards called.outcome }

unfoldable pub offer_bytes : List ℕ → List ℕ → ℕ → ℕ → ℕ → OfferBytes
offer_bytes bytes book machine revision price = taken book (offer_call (record_of bytes) (book_of book) machine revision price)

-- What a fresh call with cards leaves: the number returned, and the bytes lent for both slices.
pub record FreshCardsBytes : Type 0 where
  pub code : ℕ
  pub bytes : List ℕ
  pub book : List ℕ

unfoldable pub founded_cards : List ℕ → List ℕ → CardsCalled → FreshCardsBytes
founded_cards bytes book called = record {
  code = refusal called.outcome;
  bytes = bytes_after bytes called.slice called.outcome;
  book = bytes_after book called.cards called.outcome;
}

unfoldable pub fresh_by_cards_bytes : List ℕ → List ℕ → List ℕ → ℕ → FreshCardsBytes
fresh_by_cards_bytes bytes book identifiers founder = founded_cards bytes book (fresh_by_cards (record_of bytes) (book_of book) (words_of identifiers) founder)

abbrev pub fresh_cards_bytes : List ℕ → List ℕ → List ℕ → FreshCardsBytes
fresh_cards_bytes bytes book identifiers = fresh_by_cards_bytes bytes book identifiers (smallest (words_of identifiers))
