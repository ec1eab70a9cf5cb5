-- Document 01, 'Ledger and holders': the ledger (here: the membership), holders and the counts of questions.
-- All that it is fed are these answers, the identifiers and who founded the ring: nothing of the record.
use Rattle.std.specs.Prelude.{Bool, ◌&&◌, List, [], ◌∷◌, ℕ, ◌+◌, nat_le, nat_eq, get_or}
use Rattle.clockwise.specs.Clockwise.{dist}
use Rattle.lists.specs.Basics.{when◌then◌else◌}
use Rattle.protocol.specs.declared.Message.{Message}
use Rattle.protocol.specs.declared.Answer.{Answer}
use Rattle.protocol.specs.declared.Answer.TheVariants.{Quiet, Found, Entered, Gone, JoinTurnedAway, LeaveTurnedAway, Joined, Left}
use Rattle.protocol.specs.Outcomes.{Outcome}
use Rattle.std.specs.Prelude.{Err, Ok}
use Rattle.protocol.specs.Names.{LOOKUP}
use Rattle.protocol.specs.Record.{round, State, row, identifier}
use Rattle.protocol.specs.Routing.{responsible, covers}

-- The hub numbers in the ledger at first: the founder's alone (document 02, 2026-02).
abbrev pub founding_members : ℕ → List ℕ
founding_members founder = founder ∷ []

-- 'It takes in the hub of each entered answer and strikes off the hub of each gone answer.'
unfoldable pub struck_off : List ℕ → ℕ → List ℕ
struck_off [] hub = []
struck_off (k ∷ members) hub = when nat_eq k hub then struck_off members hub else k ∷ struck_off members hub

unfoldable pub taken_in : List ℕ → ℕ → List ℕ
taken_in members hub = hub ∷ struck_off members hub

-- 'Every other answer, and every refusal, leaves it as it is.'
abbrev pub after_answer : List ℕ → Answer → List ℕ
after_answer members Quiet = members
after_answer members (Found hub number ticket hops) = members
after_answer members (Entered hub) = taken_in members hub
after_answer members (Gone hub) = struck_off members hub
after_answer members (JoinTurnedAway hub) = members
after_answer members (LeaveTurnedAway hub) = members
after_answer members (Joined hub) = members
after_answer members (Left hub) = members

unfoldable pub after_outcome : List ℕ → Outcome → List ℕ
after_outcome members (Err k) = members
after_outcome members (Ok a) = after_answer members a

-- 1 for a member, 0 for every other number.
unfoldable pub mark : List ℕ → ℕ → ℕ
mark [] hub = 0
mark (k ∷ members) hub = when nat_eq k hub then 1 else mark members hub

-- 'The owner of v is the member with the least clockwise distance from v to its identifier; an empty set has none.'
pub data Owner : Type 0 where
  nobody : Owner
  node : ℕ → Owner

unfoldable pub nearer : List ℕ → ℕ → ℕ → Owner → Owner
nearer ids v hub nobody = node hub
nearer ids v hub (node k) = when nat_le (dist round v (get_or ids hub 0)) (dist round v (get_or ids k 0)) then node hub else node k

unfoldable pub owner_among : List ℕ → List ℕ → ℕ → Owner
owner_among ids [] v = nobody
owner_among ids (hub ∷ members) v = nearer ids v hub (owner_among ids members v)

-- 'A hub holds v when its state is 2 or 3 and v is in (pred, its identifier].'
unfoldable pub holds : State → ℕ → ℕ → Bool
holds s hub v = responsible (row s hub) && covers (identifier s (row s hub).pred) (row s hub) v

-- 'questions waiting are the LOOKUP messages in the record'
unfoldable pub waiting : List Message → ℕ
waiting [] = 0
waiting (m ∷ messages) = (when nat_eq m.kind LOOKUP then 1 else 0) + waiting messages

-- 'questions answered are the found answers', each here by its ticket
abbrev pub found_ticket : Answer → List ℕ
found_ticket Quiet = []
found_ticket (Found hub number ticket hops) = ticket ∷ []
found_ticket (Entered hub) = []
found_ticket (Gone hub) = []
found_ticket (JoinTurnedAway hub) = []
found_ticket (LeaveTurnedAway hub) = []
found_ticket (Joined hub) = []
found_ticket (Left hub) = []

unfoldable pub ticket_of : Outcome → List ℕ
ticket_of (Err k) = []
ticket_of (Ok a) = found_ticket a

-- 'Questions accepted are the asks in the list that were not refused': 1 for such a call
unfoldable pub accepted_ask : ℕ → Outcome → ℕ
accepted_ask operation (Err k) = 0
accepted_ask operation (Ok a) = when nat_eq operation 0 then 1 else 0
