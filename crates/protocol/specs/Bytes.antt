-- Document 01, 'Reading the ring': the calls as a C program makes them, where 'the words travel as bytes'. Bytes are numbers below 256.
use Rattle.std.specs.Prelude.{List, [], ◌∷◌, ◌++◌, Result, ℕ, ◌+◌, ◌*◌, ◌/◌, ◌%◌, ◌<◌, nat_le, length, drop}
use Rattle.lists.specs.Basics.{require, flat}
use Rattle.protocol.specs.Outcomes.{Ownership}
use Rattle.std.specs.Prelude.{Err, Ok}
use Rattle.protocol.specs.declared.refusal.Refusal.{Refusal}
use Rattle.protocol.specs.declared.refusal.Refusal.TheVariants.{OutputShort}
use Rattle.protocol.specs.Fresh.{smallest}
use Rattle.protocol.specs.Refusals.{number_of}
use Rattle.protocol.specs.Answers.{refusal, outcome_words, number_words}
use Rattle.protocol.specs.Calls.{Called, step_call, fresh_by_call, owner_call, Rolled, roll_call}

abbrev pub Byte : ℕ → Type 0
Byte x = x < 256

-- 'four a word, lowest first': the word that four bytes stand for, and the way back
abbrev pub word_of : ℕ → ℕ → ℕ → ℕ → ℕ
word_of a b c d = a + 256 * b + 65536 * c + 16777216 * d

abbrev pub word_bytes : ℕ → List ℕ
word_bytes x = x % 256 ∷ x / 256 % 256 ∷ x / 65536 % 256 ∷ x / 16777216 % 256 ∷ []

-- All whole words of the bytes: 'up to three bytes left over at the end are neither read ..'
unfoldable pub words_of : List ℕ → List ℕ
words_of [] = []
words_of (a ∷ []) = []
words_of (a ∷ b ∷ []) = []
words_of (a ∷ b ∷ c ∷ []) = []
words_of (a ∷ b ∷ c ∷ d ∷ rest) = word_of a b c d ∷ words_of rest

abbrev pub bytes_of : List ℕ → List ℕ
bytes_of w = flat word_bytes w

-- Words written from the first byte on. '.. nor written', and 'any output past what its answer writes': the bytes behind them stay.
unfoldable pub over : List ℕ → List ℕ → List ℕ
over bytes w = bytes_of w ++ drop (4 * length w) bytes

-- The bytes lent for the words, after a call that leaves these words: 'The number is returned, and no word of record .. changes.'
unfoldable pub bytes_after : {A : Type 0} → List ℕ → List ℕ → Result A Refusal → List ℕ
bytes_after bytes slice (Err k) = bytes
bytes_after bytes slice (Ok a) = over bytes slice

-- What a step leaves: the number returned, the bytes lent for the words, and the lent output.
pub record CalledBytes : Type 0 where
  pub code : ℕ
  pub bytes : List ℕ
  pub output : List ℕ

-- 'the number returned is the refusal, 0 for none, and the answer's fields (five words ..) are written as words into a lent output'
unfoldable pub carried : List ℕ → List ℕ → Called → CalledBytes
carried bytes out called = record {
  code = refusal called.outcome;
  bytes = bytes_after bytes called.slice called.outcome;
  output = over out (outcome_words called.outcome);
}

-- The step. 'a lent output, which if too short is 17, asked first': five words are 20 bytes.
unfoldable pub step_bytes : List ℕ → ℕ → ℕ → ℕ → List ℕ → CalledBytes
step_bytes bytes operation x y out =
    require (nat_le 20 (length out)) (record { code = number_of OutputShort; bytes = bytes; output = out })
    (carried bytes out (step_call (words_of bytes) operation x y))

-- What the owner query leaves: the number returned, and the lent output ('for owner one, the hub').
pub record OwnerBytes : Type 0 where
  pub code : ℕ
  pub output : List ℕ

unfoldable pub told : List ℕ → Ownership → OwnerBytes
told out owner = record { code = refusal owner; output = over out (number_words owner) }

unfoldable pub owner_bytes : List ℕ → ℕ → List ℕ → OwnerBytes
owner_bytes bytes number out =
    require (nat_le 4 (length out)) (record { code = number_of OutputShort; output = out }) (told out (owner_call (words_of bytes) number))

-- What a roll call leaves: the number returned, and two lent outputs, one for the hubs and one for how many they are.
pub record RollBytes : Type 0 where
  pub code : ℕ
  pub roll : List ℕ
  pub length : List ℕ

unfoldable pub roll_told : List ℕ → List ℕ → Rolled → RollBytes
roll_told out size rolled = record {
  code = refusal rolled.outcome;
  roll = bytes_after out rolled.output rolled.outcome;
  length = over size (number_words rolled.outcome);
}

-- The roll call, which C has since document 02's 2026-07. The output for the length, one word, is 17 first, as the owner query's is; the roll's
-- own 17 stays the last question.
unfoldable pub roll_bytes : List ℕ → ℕ → List ℕ → List ℕ → RollBytes
roll_bytes bytes hub out size =
    require (nat_le 4 (length size)) (record { code = number_of OutputShort; roll = out; length = size })
    (roll_told out size (roll_call (words_of bytes) hub (words_of out)))

-- What a fresh call leaves: the number returned, and the bytes lent for the words. It has no output, since its answer is quiet.
pub record FreshBytes : Type 0 where
  pub code : ℕ
  pub bytes : List ℕ

unfoldable pub fresh_carried : List ℕ → Called → FreshBytes
fresh_carried bytes called = record { code = refusal called.outcome; bytes = bytes_after bytes called.slice called.outcome }

-- The identifiers travel as bytes too; the founder is a number.
unfoldable pub fresh_by_bytes : List ℕ → List ℕ → ℕ → FreshBytes
fresh_by_bytes bytes identifiers founder = fresh_carried bytes (fresh_by_call (words_of bytes) (words_of identifiers) founder)

abbrev pub fresh_bytes : List ℕ → List ℕ → FreshBytes
fresh_bytes bytes identifiers = fresh_by_bytes bytes identifiers (smallest (words_of identifiers))
