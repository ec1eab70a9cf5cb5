-- Document 01, 'Each kind below names what t, the receiver, must be. f is the sender.'
-- m is the delivered message, so t is m.to and f is m.from; h is t's row, and p the identifier of the hub that is its pred.
-- 'Receiver, and hub a for JOIN, as required? 10.'
use Rattle.std.specs.Prelude.{◌&&◌, ℕ, ◌+◌, nat_lt, nat_eq}
use Rattle.lists.specs.Basics.{when◌then◌else◌}
use Rattle.protocol.specs.declared.Row.{Row}
use Rattle.protocol.specs.declared.Message.{Message}
use Rattle.protocol.specs.declared.Answer.TheVariants.{Quiet, Found, Entered, Gone, JoinTurnedAway, LeaveTurnedAway, Joined, Left}
use Rattle.protocol.specs.declared.Route.{Route}
use Rattle.protocol.specs.declared.Route.TheVariants.{Own, To}
use Rattle.protocol.specs.Outcomes.{Decided}
use Rattle.protocol.specs.declared.Decision.TheVariants.{Reply, Send}
use Rattle.std.specs.Prelude.{Err, Ok}
use Rattle.protocol.specs.Names.{LOOKUP, JOIN, JOINRETRY, JOINPOINT, NEWSUCC, NEWSUCCACK, JOINDONE, LEAVEREQ, LEAVERETRY, LEAVEGRANT, LEAVEPOINT, UPDATESUCC, STOPFORWARD, LEAVEDONE, INSIDE, JOINING, LEAVING, OUTSIDE, WANTING_TO_LEAVE}
use Rattle.protocol.specs.declared.refusal.Refusal.TheVariants.{NotExpected}
use Rattle.protocol.specs.Record.{none}
use Rattle.protocol.specs.Routing.{in_ring, responsible, route}

-- A question, and a message of any other kind, in which b and hops are 0.
abbrev pub question : ℕ → ℕ → ℕ → ℕ → ℕ → Message
question from to v ticket hops = record { kind = LOOKUP; from = from; to = to; a = v; b = ticket; hops = hops }

abbrev pub note : ℕ → ℕ → ℕ → ℕ → Message
note kind from to a = record { kind = kind; from = from; to = to; a = a; b = 0; hops = 0 }

-- Rows with some fields changed.
abbrev pub with_state : Row → ℕ → Row
with_state h v =
    record { identifier = h.identifier; state = v; lock = h.lock; flag = h.flag; pred = h.pred; succ = h.succ; oldpred = h.oldpred }

abbrev pub with_lock : Row → ℕ → Row
with_lock h v =
    record { identifier = h.identifier; state = h.state; lock = v; flag = h.flag; pred = h.pred; succ = h.succ; oldpred = h.oldpred }

abbrev pub with_flag : Row → ℕ → ℕ → Row
with_flag h v o =
    record { identifier = h.identifier; state = h.state; lock = h.lock; flag = v; pred = h.pred; succ = h.succ; oldpred = o }

abbrev pub with_pred : Row → ℕ → Row
with_pred h v =
    record { identifier = h.identifier; state = h.state; lock = h.lock; flag = h.flag; pred = v; succ = h.succ; oldpred = h.oldpred }

abbrev pub with_succ : Row → ℕ → Row
with_succ h v =
    record { identifier = h.identifier; state = h.state; lock = h.lock; flag = h.flag; pred = h.pred; succ = v; oldpred = h.oldpred }

-- 1 LOOKUP (a number, b ticket), at a hub in the ring: it is routed, and its owner answers found. Hops count the links that the question has
-- used: one more at each delivery, but none where a hub sent it to itself (document 02, 2026-01); 65535 stays.
unfoldable pub grown : Message → ℕ
grown m =
    when nat_eq m.from m.to then m.hops
    else when nat_lt m.hops 65535 then m.hops + 1
    else m.hops

unfoldable pub lookup_routed : Row → Message → Route → Decided
lookup_routed h m Own = Ok (Reply h (Found m.to m.a m.b (grown m)))
lookup_routed h m (To z) = Ok (Send h (question m.to z m.a m.b (grown m)) Quiet)

unfoldable pub lookup : ℕ → Row → Message → Decided
lookup p h m = when in_ring h then lookup_routed h m (route p h m.from m.a) else Err NotExpected

-- 2 JOIN: 'hub a in state 1. At t in state 0 or 1: JOINRETRY to a. Otherwise routed by a's identifier; an owner with lock 1 sends
-- JOINRETRY to a; with lock 0 it locks, sets the flag, oldpred = pred, pred = a, sends JOINPOINT (a = oldpred) to hub a and answers
-- entered.' g is the row of hub a.
abbrev pub join_retried : Row → Message → Decided
join_retried h m = Ok (Send h (note JOINRETRY m.to m.a 0) Quiet)

abbrev pub admitted : Row → ℕ → Row
admitted h a = with_pred (with_flag (with_lock h 1) 1 h.pred) a

unfoldable pub join_routed : Row → Message → Route → Decided
join_routed h m Own =
    when nat_eq h.lock 1 then join_retried h m else Ok (Send (admitted h m.a) (note JOINPOINT m.to m.a h.pred) (Entered m.a))
join_routed h m (To z) = Ok (Send h (note JOIN m.to z m.a) Quiet)

unfoldable pub join : ℕ → Row → Row → Message → Decided
join p h g m =
    when nat_eq g.state JOINING
    then (when nat_lt h.state INSIDE then join_retried h m else join_routed h m (route p h m.from g.identifier))
    else Err NotExpected

-- 3 JOINRETRY: 'state 1. State 0, lock 0. Join turned away.'
unfoldable pub join_retry : Row → Message → Decided
join_retry h m = when nat_eq h.state JOINING then Ok (Reply (with_lock (with_state h OUTSIDE) 0) (JoinTurnedAway m.to)) else Err NotExpected

-- 4 JOINPOINT: 'state 1. State 2, pred = a, succ = f; NEWSUCC to a.'
unfoldable pub join_point : Row → Message → Decided
join_point h m =
    when nat_eq h.state JOINING
    then Ok (Send (with_succ (with_pred (with_state h INSIDE) m.a) m.from) (note NEWSUCC m.to m.a 0) Quiet)
    else Err NotExpected

-- 5 NEWSUCC: 'state 2 or 3. NEWSUCCACK (a = f) to succ; then succ = f.'
unfoldable pub new_succ : Row → Message → Decided
new_succ h m = when responsible h then Ok (Send (with_succ h m.from) (note NEWSUCCACK m.to h.succ m.from) Quiet) else Err NotExpected

-- 6 NEWSUCCACK: 'flag 1. Flag 0, oldpred none, lock 0; JOINDONE to a.'
unfoldable pub new_succ_ack : Row → Message → Decided
new_succ_ack h m = when nat_eq h.flag 1 then Ok (Send (with_lock (with_flag h 0 none) 0) (note JOINDONE m.to m.a 0) Quiet) else Err NotExpected

-- 7 JOINDONE: 'state 2, lock 1, flag 0. Lock 0. Joined.'
unfoldable pub join_done : Row → Message → Decided
join_done h m =
    when nat_eq h.state INSIDE && nat_eq h.lock 1 && nat_eq h.flag 0 then Ok (Reply (with_lock h 0) (Joined m.to)) else Err NotExpected

-- 8 LEAVEREQ: 'state 2 to 4. Lock 1: LEAVERETRY to f. Lock 0: lock, LEAVEGRANT to f.'
unfoldable pub leave_req : Row → Message → Decided
leave_req h m =
    when in_ring h
    then (when nat_eq h.lock 1
    then Ok (Send h (note LEAVERETRY m.to m.from 0) Quiet)
    else Ok (Send (with_lock h 1) (note LEAVEGRANT m.to m.from 0) Quiet))
    else Err NotExpected

-- 9 LEAVERETRY: 'state 3. State 2, lock 0. Leave turned away.'
unfoldable pub leave_retry : Row → Message → Decided
leave_retry h m = when nat_eq h.state WANTING_TO_LEAVE then Ok (Reply (with_lock (with_state h INSIDE) 0) (LeaveTurnedAway m.to)) else Err NotExpected

-- 10 LEAVEGRANT: 'state 3. State 4; LEAVEPOINT (a = pred) to f.'
unfoldable pub leave_grant : Row → Message → Decided
leave_grant h m = when nat_eq h.state WANTING_TO_LEAVE then Ok (Send (with_state h LEAVING) (note LEAVEPOINT m.to m.from h.pred) Quiet) else Err NotExpected

-- 11 LEAVEPOINT: 'state 2, lock 1. pred = a; UPDATESUCC to a. Gone, hub f.'
unfoldable pub leave_point : Row → Message → Decided
leave_point h m =
    when nat_eq h.state INSIDE && nat_eq h.lock 1 then Ok (Send (with_pred h m.a) (note UPDATESUCC m.to m.a 0) (Gone m.from)) else Err NotExpected

-- 12 UPDATESUCC: 'state 2 or 3. STOPFORWARD to succ; then succ = f.'
unfoldable pub update_succ : Row → Message → Decided
update_succ h m = when responsible h then Ok (Send (with_succ h m.from) (note STOPFORWARD m.to h.succ 0) Quiet) else Err NotExpected

-- 13 STOPFORWARD: 'state 4. LEAVEDONE to succ; state 0, lock 0, pointers none. Left.'
abbrev pub departed : Row → Row
departed h = with_flag (with_succ (with_pred (with_lock (with_state h OUTSIDE) 0) none) none) h.flag none

unfoldable pub stop_forward : Row → Message → Decided
stop_forward h m = when nat_eq h.state LEAVING then Ok (Send (departed h) (note LEAVEDONE m.to h.succ 0) (Left m.to)) else Err NotExpected

-- 14 LEAVEDONE: 'state 2, lock 1, flag 0. Lock 0.'
unfoldable pub leave_done : Row → Message → Decided
leave_done h m = when nat_eq h.state INSIDE && nat_eq h.lock 1 && nat_eq h.flag 0 then Ok (Reply (with_lock h 0) Quiet) else Err NotExpected

-- By kind; g is the row of the hub that a names in a JOIN. (No other kind is well formed.)
unfoldable pub handle : ℕ → Row → Row → Message → Decided
handle p h g m =
    when nat_eq m.kind LOOKUP then lookup p h m
    else when nat_eq m.kind JOIN then join p h g m
    else when nat_eq m.kind JOINRETRY then join_retry h m
    else when nat_eq m.kind JOINPOINT then join_point h m
    else when nat_eq m.kind NEWSUCC then new_succ h m
    else when nat_eq m.kind NEWSUCCACK then new_succ_ack h m
    else when nat_eq m.kind JOINDONE then join_done h m
    else when nat_eq m.kind LEAVEREQ then leave_req h m
    else when nat_eq m.kind LEAVERETRY then leave_retry h m
    else when nat_eq m.kind LEAVEGRANT then leave_grant h m
    else when nat_eq m.kind LEAVEPOINT then leave_point h m
    else when nat_eq m.kind UPDATESUCC then update_succ h m
    else when nat_eq m.kind STOPFORWARD then stop_forward h m
    else when nat_eq m.kind LEAVEDONE then leave_done h m
    else Err NotExpected
