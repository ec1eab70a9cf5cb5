-- Document 01, 'Well formed', of the words; the part of it that is about the typed state is `formed`.
use Rattle.std.specs.Prelude.{Bool, ◌&&◌, ◌||◌, List, map, ℕ, nat_le, nat_lt, nat_eq, get_or, take, drop}
use Rattle.lists.specs.Basics.{when◌then◌else◌, every, distinct}
use Rattle.protocol.specs.declared.Row.{Row}
use Rattle.protocol.specs.declared.Message.{Message}
use Rattle.protocol.specs.Names.{LOOKUP, JOIN, JOINPOINT, NEWSUCCACK, LEAVEPOINT, INSIDE, LEAVING, OUTSIDE}
use Rattle.protocol.specs.Record.{form, most_nodes, most_messages, unused_row_words, unused_message_words, row_start, message_start, none, State, count, count_in, messages_in, read}

-- 'States: 0 .. 4'; 'states 0 and 1 have pred and succ none, states 2 to 4 have both below n'
unfoldable pub pointers_ok : ℕ → Row → Bool
pointers_ok n h =
    when nat_lt h.state INSIDE then nat_eq h.pred none && nat_eq h.succ none else nat_le h.state LEAVING && nat_lt h.pred n && nat_lt h.succ n

-- 'lock (0 free, 1 taken)'; 'state 0 has lock 0, states 1, 3, 4 lock 1'
unfoldable pub lock_ok : Row → Bool
lock_ok h = when nat_eq h.state INSIDE then nat_lt h.lock 2 else when nat_eq h.state OUTSIDE then nat_eq h.lock 0 else nat_eq h.lock 1

-- 'forward flag (0, 1)'; 'flag 1 needs state 2, lock 1 and oldpred below n; flag 0 has oldpred none'
unfoldable pub flag_ok : ℕ → Row → Bool
flag_ok n h =
    when nat_eq h.flag 0 then nat_eq h.oldpred none else nat_eq h.flag 1 && nat_eq h.state INSIDE && nat_eq h.lock 1 && nat_lt h.oldpred n

unfoldable pub row_ok : ℕ → Row → Bool
row_ok n h = pointers_ok n h && lock_ok h && flag_ok n h

-- 'LOOKUP has any a ..; JOIN, JOINPOINT, NEWSUCCACK and LEAVEPOINT have a below n; other message fields are 0'
unfoldable pub names_node : ℕ → Bool
names_node k = nat_eq k JOIN || nat_eq k JOINPOINT || nat_eq k NEWSUCCACK || nat_eq k LEAVEPOINT

unfoldable pub a_ok : ℕ → Message → Bool
a_ok n m = nat_eq m.kind LOOKUP || (when names_node m.kind then nat_lt m.a n else nat_eq m.a 0)

-- 'LOOKUP has .. b below asked and hops at most 65535; .. other message fields are 0'
unfoldable pub b_ok : ℕ → Message → Bool
b_ok asked m = when nat_eq m.kind LOOKUP then nat_lt m.b asked else nat_eq m.b 0

unfoldable pub hops_ok : Message → Bool
hops_ok m = when nat_eq m.kind LOOKUP then nat_le m.hops 65535 else nat_eq m.hops 0

-- 'kinds 1 to 14; from and to below n'
unfoldable pub message_ok : ℕ → ℕ → Message → Bool
message_ok n asked m =
    nat_le 1 m.kind && nat_lt m.kind 15 && nat_lt m.from n && nat_lt m.to n && a_ok n m && b_ok asked m && hops_ok m

abbrev pub identifiers : State → List ℕ
identifiers s = map (λ h. h.identifier) s.rows

-- 'identifiers of the n hubs differ', and each row and each message is as it must be
unfoldable pub formed : State → Bool
formed s = distinct (identifiers s) && every (row_ok (count s)) s.rows && every (message_ok (count s) s.asked) s.messages

-- 'form (1), hub count n (1 to 64), message count m (0 to 256)'
unfoldable pub header_ok : List ℕ → Bool
header_ok w = nat_eq (get_or w 0 0) form && nat_le 1 (count_in w) && nat_le (count_in w) most_nodes && nat_le (messages_in w) most_messages

-- 'unused rows and messages are all 0'
abbrev pub unused_rows : List ℕ → List ℕ
unused_rows w = take (unused_row_words (count_in w)) (drop (row_start (count_in w)) w)

abbrev pub unused_messages : List ℕ → List ℕ
unused_messages w = take (unused_message_words (messages_in w)) (drop (message_start (messages_in w)) w)

unfoldable pub unused_ok : List ℕ → Bool
unused_ok w = every (λ x. nat_eq x 0) (unused_rows w) && every (λ x. nat_eq x 0) (unused_messages w)

unfoldable pub well_formed : List ℕ → Bool
well_formed w = header_ok w && unused_ok w && formed (read w)
