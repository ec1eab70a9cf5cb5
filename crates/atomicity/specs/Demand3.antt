-- DEMAND 3, stated: what is claimed of every list of calls from every fresh ring. Its proof is `demand_3` in Theorem.antt.
-- It cites the definitions of `protocol`, each of which cites document 01, and these few about lists of calls. (From `lists`: Mem, being an
-- element; All, of each element; times, how often a number stands in a list.)
use Rattle.std.specs.Prelude.{◌≡◌, true, List, [], ◌∷◌, ◌++◌, ℕ, ◌+◌, ◌≤◌, ◌<◌, length}
use Rattle.lists.specs.Basics.{Mem, All, times}
use Rattle.protocol.specs.declared.Message.{Message}
use Rattle.protocol.specs.declared.Answer.TheVariants.{Quiet, Found}
use Rattle.protocol.specs.declared.refusal.Refusal.{Refusal}
use Rattle.protocol.specs.Outcomes.{Outcome}
use Rattle.std.specs.Prelude.{Err, Ok}
use Rattle.protocol.specs.Record.{round, State, read}
use Rattle.protocol.specs.Calls.{Called, step_call, fresh_by_call}
use Rattle.protocol.specs.Membership.{founding_members, after_outcome, node, owner_among, holds, waiting, ticket_of, accepted_ask}

-- A call of the list: 'steps with any three numbers as command'.
pub record Call : Type 0 where
  pub operation : ℕ
  pub x : ℕ
  pub y : ℕ

-- The numbers have 32 bits.
abbrev pub Word : ℕ → Type 0
Word n = n < round

pub record ThreeWords (c : Call) : Type 0 where
  pub operation : Word c.operation
  pub x : Word c.x
  pub y : Word c.y

-- A form of record: the state that its words stand for, the fresh call with its founder, and the step.
pub record Engine : Type 0 where
  pub reads : List ℕ → State
  pub founds : List ℕ → List ℕ → ℕ → Called
  pub steps : List ℕ → ℕ → ℕ → ℕ → Called

abbrev pub present : Engine
present = record { reads = read; founds = fresh_by_call; steps = step_call }

abbrev pub called : Engine → List ℕ → Call → Called
called engine w c = engine.steps w c.operation c.x c.y

-- A call with what it gave.
pub record Event : Type 0 where
  pub call : Call
  pub outcome : Outcome

-- 'Each gets the record as the call before left it, after a refusal too'.
unfoldable pub history : Engine → List ℕ → List Call → List Event
history engine w [] = []
history engine w (c ∷ calls) = record { call = c; outcome = (called engine w c).outcome } ∷ history engine (called engine w c).slice calls

unfoldable pub record_after : Engine → List ℕ → List Call → List ℕ
record_after engine w [] = w
record_after engine w (c ∷ calls) = record_after engine (called engine w c).slice calls

-- The ledger after some calls, from its members before them.
unfoldable pub members_after : List ℕ → List Event → List ℕ
members_after members [] = members
members_after members (e ∷ events) = members_after (after_outcome members e.outcome) events

-- Questions accepted; and the tickets of the found answers, one for each question answered.
unfoldable pub questions_accepted : List Event → ℕ
questions_accepted [] = 0
questions_accepted (e ∷ events) = accepted_ask e.call.operation e.outcome + questions_accepted events

unfoldable pub found_tickets : List Event → List ℕ
found_tickets [] = []
found_tickets (e ∷ events) = ticket_of e.outcome ++ found_tickets events

-- A record reached from a fresh ring, with the calls behind it: any lent slice, any identifiers and any founder that fresh accepts, and any
-- list of calls, refused ones included. Where the caller names no founder, it is the hub of the smallest identifier (`fresh_call`).
pub record Founded (engine : Engine) (ids : List ℕ) (founder : ℕ) (events : List Event) (w : List ℕ) : Type 0 where
  pub slice : List ℕ
  pub calls : List Call
  pub identifiers : All Word ids
  pub commands : All ThreeWords calls
  pub accepted : (engine.founds slice ids founder).outcome ≡ Ok Quiet
  pub happened : events ≡ history engine (engine.founds slice ids founder).slice calls
  pub is : w ≡ record_after engine (engine.founds slice ids founder).slice calls

abbrev pub Reached : List ℕ → ℕ → List Event → List ℕ → Type 0
Reached ids founder events w = Founded present ids founder events w

pub from_fresh : {ids : List ℕ} {founder : ℕ} {events : List Event} {w : List ℕ} → Founded present ids founder events w → Reached ids founder events w
from_fresh r = r

-- What is claimed of a ring of these identifiers that this hub founded, with these calls behind it and the record w.
pub record Claims (engine : Engine) (ids : List ℕ) (founder : ℕ) (events : List Event) (w : List ℕ) : Type 0 where
  -- (a) For every machine number at most one hub holds it, and that hub is the ledger's owner of it.
  pub single : (v hub other : ℕ) → Word v → holds (engine.reads w) hub v ≡ true → holds (engine.reads w) other v ≡ true → hub ≡ other
  pub owner : (v hub : ℕ) → Word v → holds (engine.reads w) hub v ≡ true
      → owner_among ids (members_after (founding_members founder) events) v ≡ node hub
  -- (b) Each found answer names the ledger's owner of its number at that call: the ledger that the calls before it left.
  pub found : (before : List Event) (e : Event) (after : List Event) → events ≡ before ++ (e ∷ after)
      → (hub number ticket hops : ℕ) → e.outcome ≡ Ok (Found hub number ticket hops)
      → owner_among ids (members_after (founding_members founder) before) number ≡ node hub
  -- (c) Questions accepted = questions answered + questions waiting.
  pub questions : questions_accepted events ≡ length (found_tickets events) + waiting (engine.reads w).messages
  -- (d) No two found answers have the same ticket.
  pub once : (ticket : ℕ) → times (found_tickets events) ticket ≤ 1
  -- (e) A next deliver call that names the sender and receiver of any waiting message is not refused.
  pub next : (m : Message) → Mem m (engine.reads w).messages → (k : Refusal)
      → (called engine w (record { operation = 3; x = m.from; y = m.to })).outcome ≡ Err k → ⊥

-- For every reached record: one founder, one list of calls, one ledger.
unfoldable pub Demand3 : Type 0
Demand3 = (ids : List ℕ) (founder : ℕ) (events : List Event) (w : List ℕ) → Reached ids founder events w → Claims present ids founder events w
