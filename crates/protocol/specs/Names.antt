-- Names for the documents' numbers: states, kinds of message, kinds of answer. The code has the same (src/: states, kinds, answer_kinds).
-- (The refusals are an enum, whose numbers are in Refusals.antt.)
use Rattle.std.specs.Prelude.{ℕ}

-- The states of a node.
abbrev pub OUTSIDE : ℕ
OUTSIDE = 0

abbrev pub JOINING : ℕ
JOINING = 1

abbrev pub INSIDE : ℕ
INSIDE = 2

abbrev pub WANTING_TO_LEAVE : ℕ
WANTING_TO_LEAVE = 3

abbrev pub LEAVING : ℕ
LEAVING = 4

-- The fourteen kinds of message.
abbrev pub LOOKUP : ℕ
LOOKUP = 1

abbrev pub JOIN : ℕ
JOIN = 2

abbrev pub JOINRETRY : ℕ
JOINRETRY = 3

abbrev pub JOINPOINT : ℕ
JOINPOINT = 4

abbrev pub NEWSUCC : ℕ
NEWSUCC = 5

abbrev pub NEWSUCCACK : ℕ
NEWSUCCACK = 6

abbrev pub JOINDONE : ℕ
JOINDONE = 7

abbrev pub LEAVEREQ : ℕ
LEAVEREQ = 8

abbrev pub LEAVERETRY : ℕ
LEAVERETRY = 9

abbrev pub LEAVEGRANT : ℕ
LEAVEGRANT = 10

abbrev pub LEAVEPOINT : ℕ
LEAVEPOINT = 11

abbrev pub UPDATESUCC : ℕ
UPDATESUCC = 12

abbrev pub STOPFORWARD : ℕ
STOPFORWARD = 13

abbrev pub LEAVEDONE : ℕ
LEAVEDONE = 14

-- The kinds of an answer.
abbrev pub QUIET : ℕ
QUIET = 0

abbrev pub FOUND : ℕ
FOUND = 1

abbrev pub ENTERED : ℕ
ENTERED = 2

abbrev pub GONE : ℕ
GONE = 3

abbrev pub JOIN_TURNED_AWAY : ℕ
JOIN_TURNED_AWAY = 4

abbrev pub LEAVE_TURNED_AWAY : ℕ
LEAVE_TURNED_AWAY = 5

abbrev pub JOINED : ℕ
JOINED = 6

abbrev pub LEFT : ℕ
LEFT = 7

-- the ninth count of a tally, behind those of the kinds
abbrev pub REFUSAL : ℕ
REFUSAL = 8

-- A line of `ringrun` that is no frame, which prints EEFF: no call returns it
abbrev pub UNREADABLE : ℕ
UNREADABLE = 255
