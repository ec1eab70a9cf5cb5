-- Document 01, 'Commands and their messages', with the questions from 3 on in their order: the one meaning of a step. (Questions 1 and 2
-- are about the words: see `step_call`.)
use Rattle.std.specs.Prelude.{Bool, not, ◌&&◌, ℕ, nat_lt, nat_eq, length}
use Rattle.lists.specs.Basics.{when◌then◌else◌, require, first}
use Rattle.protocol.specs.declared.Answer.{Answer}
use Rattle.protocol.specs.declared.Answer.TheVariants.{Quiet, Found}
use Rattle.protocol.specs.declared.Route.{Route}
use Rattle.protocol.specs.declared.Route.TheVariants.{Own, To}
use Rattle.protocol.specs.Outcomes.{Decided}
use Rattle.protocol.specs.declared.Decision.TheVariants.{Reply, Send}
use Rattle.std.specs.Prelude.{Err, Ok}
use Rattle.protocol.specs.Names.{JOIN, LEAVEREQ, JOINING, OUTSIDE, WANTING_TO_LEAVE}
use Rattle.protocol.specs.declared.refusal.Refusal.{Refusal}
use Rattle.protocol.specs.declared.refusal.Refusal.TheVariants.{LastHub, Locked, MessagesFull, NotInRing, NotOutside, NoHub, NoMessage, NoOperation, TicketsUsedUp}
use Rattle.protocol.specs.Record.{most_messages, State, count, row, identifier, message, with_row, sent, without_message, ticketed}
use Rattle.protocol.specs.Routing.{in_ring, onward}
use Rattle.protocol.specs.Kinds.{question, note, with_state, with_lock, handle}

-- A step is refused, or gives an answer and the next state. 'The first no decides.'
pub data Result : Type 0 where
  refused : Refusal → Result
  accepted : Answer → State → Result

-- What a decision does at hub t. 'A sent message goes last'.
unfoldable pub conclude : State → ℕ → Decided → Result
conclude s t (Err k) = refused k
conclude s t (Ok (Reply h a)) = accepted a (with_row s t h)
conclude s t (Ok (Send h m a)) = accepted a (sent (with_row s t h) m)

-- 'm below 256?'
unfoldable pub room : State → Bool
room s = nat_lt (length s.messages) most_messages

-- 0 ask, hub x, number v: 'takes ticket = asked, adds 1 to asked, then routes with no sender and hops 0.'
unfoldable pub asking : State → ℕ → ℕ → Route → Result
asking s x v Own = accepted (Found x v s.asked 0) (ticketed s)
asking s x v (To z) = require (room s) (refused MessagesFull) (accepted Quiet (sent (ticketed s) (question x z v s.asked 0)))

-- 'x in state 2 to 4? 5. asked below 4294967295? 12. If it must be sent on, m below 256? 11.'
unfoldable pub ask : State → ℕ → ℕ → Result
ask s x v =
    require (nat_lt x (count s)) (refused NoHub)
    (require (in_ring (row s x)) (refused NotInRing)
    (require (nat_lt s.asked 4294967295) (refused TicketsUsedUp)
    (asking s x v (onward (identifier s (row s x).pred) (row s x) v))))

-- 1 join, hub x, contact y: 'x becomes joining, locked; sends JOIN (a = x) to y.'
-- 'x outside? 6. y in state 2 to 4? 5. m below 256? 11.'
unfoldable pub join : State → ℕ → ℕ → Result
join s x y =
    require (nat_lt x (count s) && nat_lt y (count s)) (refused NoHub)
    (require (nat_eq (row s x).state OUTSIDE) (refused NotOutside)
    (require (in_ring (row s y)) (refused NotInRing)
    (require (room s) (refused MessagesFull)
    (conclude s x (Ok (Send (with_lock (with_state (row s x) JOINING) 1) (note JOIN x y x) Quiet))))))

-- 2 leave, hub x (y not read): 'x gets state 3, locked; sends LEAVEREQ to its succ.'
-- 'x in state 2 to 4? 5. Lock free? 7. succ another hub? 8. m below 256? 11.'
unfoldable pub leave : State → ℕ → Result
leave s x =
    require (nat_lt x (count s)) (refused NoHub)
    (require (in_ring (row s x)) (refused NotInRing)
    (require (nat_eq (row s x).lock 0) (refused Locked)
    (require (not (nat_eq (row s x).succ x)) (refused LastHub)
    (require (room s) (refused MessagesFull)
    (conclude s x (Ok (Send (with_lock (with_state (row s x) WANTING_TO_LEAVE) 1) (note LEAVEREQ x (row s x).succ 0) Quiet)))))))

-- 3 deliver from x to y: 'the oldest message with that from and to'; its place, or the number of messages where there is none
unfoldable pub on_link : State → ℕ → ℕ → ℕ → Bool
on_link s x y j = nat_eq (message s j).from x && nat_eq (message s j).to y

abbrev pub oldest : State → ℕ → ℕ → ℕ
oldest s x y = first (on_link s x y) (length s.messages)

-- 'a delivered one is taken out and later ones move up': message j, at its receiver t
unfoldable pub delivered : State → ℕ → ℕ → Result
delivered s t j =
    conclude (without_message s j) t (handle (identifier s (row s t).pred) (row s t) (row s (message s j).a) (message s j))

-- 'such a message? 9. Receiver, and hub a for JOIN, as required? 10.'
unfoldable pub deliver : State → ℕ → ℕ → Result
deliver s x y =
    require (nat_lt x (count s) && nat_lt y (count s)) (refused NoHub)
    (require (nat_lt (oldest s x y) (length s.messages)) (refused NoMessage)
    (delivered s y (oldest s x y)))

-- 'operation 0 to 3? 3.'
unfoldable pub step : State → ℕ → ℕ → ℕ → Result
step s operation x y =
    when nat_eq operation 0 then ask s x y
    else when nat_eq operation 1 then join s x y
    else when nat_eq operation 2 then leave s x
    else when nat_eq operation 3 then deliver s x y
    else refused NoOperation
