-- 2026-07 of the C calls, stated: bytes that were reached by `ring_step` and `ring_route` from an accepted `ring_fresh_by` (Demand3C.antt), and in
-- which no message waits. The record that they carry is at rest (AtRest.antt); and so `ring_roll` and `ring_owner` tell the ring. Its proof is
-- `c_at_rest` in TheoremC.antt. (A Byte is a number below 256.)
use Rattle.std.specs.Prelude.{◌≡◌, List, [], ◌∷◌, ℕ, ◌≤◌, length}
use Rattle.lists.specs.Basics.{Mem, All}
use Rattle.protocol.specs.Membership.{node, owner_among}
use Rattle.protocol.specs.Bytes.{Byte, words_of, over, roll_bytes, owner_bytes}
use Rattle.atomicity.specs.Demand3.{Word, Event}
use Rattle.atomicity.specs.Demand3C.{FoundedBytes}
use Rattle.rest.specs.AtRest.{Rests, ledger, Resting}

-- What `ring_roll` leaves, with a word for the length and room for the roll: 0, the roll's hubs and how many they are; and what `ring_owner` leaves:
-- 0 and the ledger's owner. All bytes behind stay.
pub record ToldAtRest (ids members bytes : List ℕ) : Type 0 where
  pub rests : Resting ids members (words_of bytes)
  pub roll : (start : ℕ) (m : Mem start members) (out size : List ℕ) → All Byte out → length (rests.roll start m).list ≤ length (words_of out) → 4 ≤ length size
      → roll_bytes bytes start out size
      ≡ record { code = 0; roll = over out (rests.roll start m).list; length = over size (length (rests.roll start m).list ∷ []) }
  pub owner : (v : ℕ) → Word v → (out : List ℕ) → 4 ≤ length out
      → (hub : ℕ) × (owner_bytes bytes v out ≡ record { code = 0; output = over out (hub ∷ []) }) × (owner_among ids members v ≡ node hub)

unfoldable pub CAtRest : Type 0
CAtRest =
    (ids : List ℕ) (founder : ℕ) (events : List Event) (bytes : List ℕ) → FoundedBytes ids founder events bytes → Rests (words_of bytes)
    → ToldAtRest ids (ledger founder events) bytes
