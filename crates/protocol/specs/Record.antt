-- Document 01, 'Ring record': the typed state, the 1,988 words that stand for it, and the way back.
-- (Here and below: `abbrev` and `unfoldable` say what a proof may see through, and nothing about the meaning. A hub of document 01 is a
-- node in names, and its machine number a key; h, g are rows, m a message, v a machine number.)
use Rattle.std.specs.Prelude.{List, [], ◌∷◌, ◌++◌, ℕ, ◌+◌, ◌-◌, ◌*◌, ◌^◌}
use lib.ListN.{length, get_or, replicate}
use Rattle.lists.specs.Basics.{table, flat}
use Rattle.protocol.specs.declared.Row.{Row}
use Rattle.protocol.specs.declared.Message.{Message}
use Rattle.protocol.specs.Names.{OUTSIDE}

-- Machine numbers and hub identifiers are below this.
abbrev pub round : ℕ
round = 2 ^ 32

-- 'form (1), hub count n (1 to 64), message count m (0 to 256)'
abbrev pub form : ℕ
form = 1

abbrev pub most_nodes : ℕ
most_nodes = 64

abbrev pub most_messages : ℕ
most_messages = 256

-- Words of a row, and of a message.
abbrev pub row_size : ℕ
row_size = 7

abbrev pub message_size : ℕ
message_size = 6

-- 'Hub i at word 4 + 7 times i'
abbrev pub row_start : ℕ → ℕ
row_start i = 4 + row_size * i

-- 'Message j at word 452 + 6 times j'
abbrev pub message_start : ℕ → ℕ
message_start j = 452 + message_size * j

-- 'the first 1,988 are the record'
abbrev pub record_size : ℕ
record_size = 1988

-- 'Pointers are hub numbers, 255 for none.'
abbrev pub none : ℕ
none = 255

-- The record as values: the hub count is the number of rows, and the message count that of messages, oldest first.
pub record State : Type 0 where
  pub rows : List Row
  pub messages : List Message
  pub asked : ℕ

abbrev pub count : State → ℕ
count s = length s.rows

-- A row is 'identifier, state, lock .., forward flag .., pred, succ, oldpred'.
abbrev pub row_words : Row → List ℕ
row_words h = h.identifier ∷ h.state ∷ h.lock ∷ h.flag ∷ h.pred ∷ h.succ ∷ h.oldpred ∷ []

-- A message is 'kind, from, to, a, b, hops'.
abbrev pub message_words : Message → List ℕ
message_words m = m.kind ∷ m.from ∷ m.to ∷ m.a ∷ m.b ∷ m.hops ∷ []

-- How many words n rows, or m messages, leave unused.
abbrev pub unused_row_words : ℕ → ℕ
unused_row_words n = row_size * (most_nodes - n)

abbrev pub unused_message_words : ℕ → ℕ
unused_message_words m = message_size * (most_messages - m)

-- The words of the record; unused rows and messages are all 0.
unfoldable pub words : State → List ℕ
words s =
    (form ∷ count s ∷ length s.messages ∷ s.asked ∷ [])
    ++ (flat row_words s.rows ++ (replicate (unused_row_words (count s)) 0
    ++ (flat message_words s.messages ++ replicate (unused_message_words (length s.messages)) 0)))

-- The row, and the message, whose first word is at a place.
abbrev pub row_from : List ℕ → ℕ → Row
row_from w at = record {
  identifier = get_or w at 0;
  state = get_or w (at + 1) 0;
  lock = get_or w (at + 2) 0;
  flag = get_or w (at + 3) 0;
  pred = get_or w (at + 4) 0;
  succ = get_or w (at + 5) 0;
  oldpred = get_or w (at + 6) 0;
}

abbrev pub message_from : List ℕ → ℕ → Message
message_from w at = record {
  kind = get_or w at 0;
  from = get_or w (at + 1) 0;
  to = get_or w (at + 2) 0;
  a = get_or w (at + 3) 0;
  b = get_or w (at + 4) 0;
  hops = get_or w (at + 5) 0;
}

-- The words' hub count, message count and number of questions asked.
abbrev pub count_in : List ℕ → ℕ
count_in w = get_or w 1 0

abbrev pub messages_in : List ℕ → ℕ
messages_in w = get_or w 2 0

abbrev pub asked_in : List ℕ → ℕ
asked_in w = get_or w 3 0

-- The state that the words stand for.
unfoldable pub read : List ℕ → State
read w = record {
  rows = table (count_in w) (λ i. row_from w (row_start i));
  messages = table (messages_in w) (λ j. message_from w (message_start j));
  asked = asked_in w;
}

-- The row of a hub that is not in the ring and takes part in nothing.
abbrev pub outside : ℕ → Row
outside name = record { identifier = name; state = OUTSIDE; lock = 0; flag = 0; pred = none; succ = none; oldpred = none }

-- The row of a hub, and a hub's identifier. (A hub number that is not below n counts as outside, with identifier 0.)
abbrev pub row : State → ℕ → Row
row s hub = get_or s.rows hub (outside 0)

abbrev pub identifier : State → ℕ → ℕ
identifier s hub = (row s hub).identifier

-- No message: all words 0.
abbrev pub no_message : Message
no_message = record { kind = 0; from = 0; to = 0; a = 0; b = 0; hops = 0 }

abbrev pub message : State → ℕ → Message
message s j = get_or s.messages j no_message

-- One row changed, one message put last, one taken out with the later ones moved up, and one more question asked: all that steps do.
abbrev pub with_row : State → ℕ → Row → State
with_row s hub h = record { rows = lib.ListN.set s.rows hub h; messages = s.messages; asked = s.asked }

abbrev pub sent : State → Message → State
sent s m = record { rows = s.rows; messages = s.messages ++ (m ∷ []); asked = s.asked }

abbrev pub without_message : State → ℕ → State
without_message s j = record { rows = s.rows; messages = lib.ListN.take j s.messages ++ lib.ListN.drop (j + 1) s.messages; asked = s.asked }

abbrev pub ticketed : State → State
ticketed s = record { rows = s.rows; messages = s.messages; asked = s.asked + 1 }
