-- 2026-07, stated: THE ROLL IS EXACTLY THE RING. What is claimed of every record reached from a fresh ring in which no message waits, by demand 3's
-- own premises: either form of fresh, any list of calls, refused ones included. Its proof is `at_rest` in Theorem.antt.
-- It cites the definitions of `protocol`, those of demand 3 (Demand3.antt), dist, the clockwise distance, and after, the number one clockwise
-- (Arcs.antt). (From `lists`: Mem, being an element; times, how often a number stands in a list.)
use Rattle.std.specs.Prelude.{◌≡◌, ◌⊎◌, true, List, ◌++◌, ℕ, ◌≤◌, ◌<◌, Ok, length, get_or, drop}
use Rattle.clockwise.specs.Clockwise.{dist}
use Rattle.lists.specs.Basics.{Mem, times}
use Rattle.protocol.specs.declared.refusal.Refusal.TheVariants.{OutputShort}
use Rattle.protocol.specs.Names.{OUTSIDE, INSIDE}
use Rattle.protocol.specs.Record.{round, none, State, count, count_in, messages_in, row, identifier, read}
use Rattle.protocol.specs.Calls.{owner_call, complete, roll, unrolled, roll_call}
use Rattle.protocol.specs.Membership.{founding_members, node, owner_among, holds}
use Rattle.atomicity.specs.Demand3.{Word, Event, members_after, Reached}
use Rattle.rest.specs.Arcs.{after}

-- No message waits.
abbrev pub Rests : List ℕ → Type 0
Rests w = messages_in w ≡ 0

-- The ledger, which knows nothing of the record.
abbrev pub ledger : ℕ → List Event → List ℕ
ledger founder events = members_after (founding_members founder) events

-- Who is called from a member of the ledger: all its members and nobody else, none twice, in the order in which one meets them going clockwise.
pub record RollIsRing (ids members w : List ℕ) (start : ℕ) : Type 0 where
  -- following succ comes back to the start, and passes these hubs
  pub list : List ℕ
  pub closes : roll (read w) start (count_in w) start ≡ complete list
  -- of the ledger, and no others; and all of it
  pub members_only : (hub : ℕ) → Mem hub list → Mem hub members
  pub all_members : (hub : ℕ) → Mem hub members → Mem hub list
  -- none twice
  pub once : (hub : ℕ) → times list hub ≤ 1
  -- the start comes first, and what comes later is further clockwise from it
  pub starts : get_or list 0 none ≡ start
  pub clockwise : (i j : ℕ) → i < j → j < length list
      → dist round (get_or ids start 0) (get_or ids (get_or list i none) 0) < dist round (get_or ids start 0) (get_or ids (get_or list j none) 0)
  -- So the call gives this list where the output has so many words, and 17 where it has not; and a word for each hub of the ring is enough.
  pub call : (out : List ℕ) → length list ≤ length out
      → roll_call w start out ≡ record { outcome = Ok (length list); output = list ++ drop (length list) out }
  pub no_room : (out : List ℕ) → length out < length list → roll_call w start out ≡ unrolled out OutputShort
  pub few : length list ≤ length ids

-- No number is without a holder (15): the owner query gives the ledger's owner.
pub record OwnerIsLedgers (ids members w : List ℕ) (v : ℕ) : Type 0 where
  pub hub : ℕ
  pub call : owner_call w v ≡ Ok hub
  pub owner : owner_among ids members v ≡ node hub

-- The rows, for requests that need more than roll and owner.
pub record RowsAtRest (ids members : List ℕ) (s : State) : Type 0 where
  pub size : count s ≡ length ids
  pub name : (h : ℕ) → identifier s h ≡ get_or ids h 0
  -- the ledger has a member, and its members are hubs
  pub some : (h : ℕ) × Mem h members
  pub below : (h : ℕ) → Mem h members → h < length ids
  -- no lock is taken, no flag set; members are inside, all others outside
  pub lock : (h : ℕ) → (row s h).lock ≡ 0
  pub flag : (h : ℕ) → (row s h).flag ≡ 0
  pub state : (h : ℕ) → ((row s h).state ≡ OUTSIDE) ⊎ ((row s h).state ≡ INSIDE)
  pub inside : (h : ℕ) → Mem h members → (row s h).state ≡ INSIDE
  pub member : (h : ℕ) → (row s h).state ≡ INSIDE → Mem h members
  -- succ and pred lead from member to member, and undo one another
  pub succ_member : (h : ℕ) → Mem h members → Mem (row s h).succ members
  pub pred_member : (h : ℕ) → Mem h members → Mem (row s h).pred members
  pub succ_pred : (h : ℕ) → Mem h members → (row s (row s h).pred).succ ≡ h
  pub pred_succ : (h : ℕ) → Mem h members → (row s (row s h).succ).pred ≡ h
  -- succ is the ledger's owner of the number after the hub's own
  pub succ_owner : (h : ℕ) → Mem h members → owner_among ids members (after round (get_or ids h 0)) ≡ node (row s h).succ
  -- each number has an owner in the ledger, and who holds it is that hub
  pub owned : (v : ℕ) → (h : ℕ) × (owner_among ids members v ≡ node h)
  pub holder_owns : (h v : ℕ) → Word v → holds s h v ≡ true → owner_among ids members v ≡ node h
  pub owner_holds : (h v : ℕ) → Word v → owner_among ids members v ≡ node h → holds s h v ≡ true

pub record Resting (ids members w : List ℕ) : Type 0 where
  pub roll : (start : ℕ) → Mem start members → RollIsRing ids members w start
  pub owner : (v : ℕ) → Word v → OwnerIsLedgers ids members w v
  pub rows : RowsAtRest ids members (read w)

-- Of every reached record in which no message waits.
unfoldable pub AtRest : Type 0
AtRest = (ids : List ℕ) (founder : ℕ) (events : List Event) (w : List ℕ) → Reached ids founder events w → Rests w → Resting ids (ledger founder events) w
