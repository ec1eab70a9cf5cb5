-- DEMAND 3 of the C calls, stated: lists of `ring_step` and `ring_route` on bytes that an accepted `ring_fresh_by` wrote (`ring_fresh` is the one
-- whose founder is the hub of the smallest identifier), with outputs of any length among them.
-- Where a step's output is too short, which is 17, no step is made; a route makes the steps that ask its numbers, or none where it is refused.
-- (A Byte is a number below 256.) Its proof is `c_demand_3` in TheoremC.antt.
use Rattle.std.specs.Prelude.{◌≡◌, List, [], ◌∷◌, ◌++◌, map, ℕ, nat_le, length}
use Rattle.lists.specs.Basics.{require, All}
use Rattle.protocol.specs.Bytes.{Byte, words_of, CalledBytes, step_bytes, fresh_by_bytes}
use Rattle.protocol.specs.Batch.{on_batch, batch_bytes}
use Rattle.atomicity.specs.Demand3.{Call, Word, ThreeWords, Event, present, called, history, Claims}

-- A call of `ring_step`: its three numbers, and the bytes of the output that it is lent. Or one of `ring_route`: a hub, and the bytes of the numbers
-- and of the output.
pub data CCall : Type 0 where
  step : Call → List ℕ → CCall
  route : ℕ → List ℕ → List ℕ → CCall

-- What is passed as numbers has 32 bits, what is passed as bytes has bytes.
abbrev pub Passed : CCall → Type 0
Passed (step c out) = ThreeWords c
Passed (route hub numbers out) = Word hub × All Byte numbers

-- What it leaves: the number returned, the bytes of the record, and the output.
abbrev pub called_bytes : List ℕ → CCall → CalledBytes
called_bytes bytes (step c out) = step_bytes bytes c.operation c.x c.y out
called_bytes bytes (route hub numbers out) = batch_bytes bytes hub numbers out

-- The step that asks a number at a hub.
abbrev pub ask : ℕ → ℕ → Call
ask hub v = record { operation = 0; x = hub; y = v }

-- The steps that a call makes on the words: none where a step's output has fewer than 20 bytes, or where a route is refused. (That their outcomes
-- are those in the places of the route is `asked_history`, custody/specs/Routes.antt.)
abbrev pub step_of : List ℕ → CCall → List Event
step_of bytes (step c out) = require (nat_le 20 (length out)) [] (record { call = c; outcome = (called present (words_of bytes) c).outcome } ∷ [])
step_of bytes (route hub numbers out) =
    on_batch (words_of bytes) (words_of numbers) (words_of out) (λ k. []) (history present (words_of bytes) (map (ask hub) (words_of numbers)))

-- The steps of a list of calls, each on the bytes that the call before it left; and the bytes after the list.
unfoldable pub steps_of : List ℕ → List CCall → List Event
steps_of bytes [] = []
steps_of bytes (c ∷ calls) = step_of bytes c ++ steps_of (called_bytes bytes c).bytes calls

unfoldable pub bytes_left : List ℕ → List CCall → List ℕ
bytes_left bytes [] = bytes
bytes_left bytes (c ∷ calls) = bytes_left (called_bytes bytes c).bytes calls

-- Bytes reached from a fresh ring: any lent bytes, any bytes of identifiers and any founder that `ring_fresh_by` accepts (it returns 0), and
-- any list of calls.
pub record FoundedBytes (ids : List ℕ) (founder : ℕ) (events : List Event) (bytes : List ℕ) : Type 0 where
  pub lent : List ℕ
  pub identifiers : List ℕ
  pub calls : List CCall
  pub lent_bytes : All Byte lent
  pub identifier_bytes : All Byte identifiers
  pub commands : All Passed calls
  pub accepted : (fresh_by_bytes lent identifiers founder).code ≡ 0
  pub names : ids ≡ words_of identifiers
  pub happened : events ≡ steps_of (fresh_by_bytes lent identifiers founder).bytes calls
  pub is : bytes ≡ bytes_left (fresh_by_bytes lent identifiers founder).bytes calls

-- Demand 3's claims hold of the record that the bytes carry.
unfoldable pub CDemand3 : Type 0
CDemand3 =
    (ids : List ℕ) (founder : ℕ) (events : List Event) (bytes : List ℕ) → FoundedBytes ids founder events bytes
    → Claims present ids founder events (words_of bytes)
