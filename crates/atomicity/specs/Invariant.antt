-- The hubs, the waiting messages with their participants, and the invariant.
use Rattle.std.specs.Prelude.{◌≡◌, ◌⊎◌, ◌≢◌, Bool, true, false, List, [], ◌∷◌, ℕ, ◌+◌, ◌≤◌, ◌<◌, T}
use Rattle.lists.specs.Basics.{Mem, times}
use Rattle.protocol.specs.declared.Message.{Message}
use Rattle.protocol.specs.Names.{INSIDE, JOINING, LEAVING, OUTSIDE, WANTING_TO_LEAVE}
use Rattle.protocol.specs.Kinds.{question, note}
use Rattle.atomicity.specs.Neighbours.{PredL}

-- A hub's row without succ. succ stands apart: it is the one word that a message changes at a hub that it has not locked.
pub record Core : Type 0 where
  pub state : ℕ
  pub lock : ℕ
  pub flag : ℕ
  pub pred : ℕ
  pub oldpred : ℕ

-- All hubs, and the ledger: led h is 1 for a member and 0 for the others.
pub record Hubs : Type 0 where
  pub core : ℕ → Core
  pub succ : ℕ → ℕ
  pub led : ℕ → ℕ

-- The rows that a step writes, but for succ. 255 is none.
abbrev pub locking : Core → ℕ → Core
locking x c = record { state = c; lock = 1; flag = x.flag; pred = x.pred; oldpred = x.oldpred }

abbrev pub free : Core → ℕ → Core
free x c = record { state = c; lock = 0; flag = x.flag; pred = x.pred; oldpred = x.oldpred }

abbrev pub turned : Core → ℕ → Core
turned x c = record { state = c; lock = x.lock; flag = x.flag; pred = x.pred; oldpred = x.oldpred }

abbrev pub between : Core → ℕ → ℕ → Core
between x c p = record { state = c; lock = x.lock; flag = x.flag; pred = p; oldpred = x.oldpred }

abbrev pub flagged : Core → ℕ → Core
flagged x a = record { state = x.state; lock = 1; flag = 1; pred = a; oldpred = x.pred }

abbrev pub acked : Core → Core
acked x = record { state = x.state; lock = 0; flag = 0; pred = x.pred; oldpred = 255 }

abbrev pub departed : Core → Core
departed x = record { state = OUTSIDE; lock = 0; flag = x.flag; pred = 255; oldpred = 255 }

-- A waiting message with its participants. a joins between p and t; q leaves from between p and t.
pub data Msg : Type 0 where
  lookup : (x y v k hops : ℕ) → Msg
  join : (x y a : ℕ) → Msg
  join_retry : (x a : ℕ) → Msg
  join_point : (a t p : ℕ) → Msg
  new_succ : (a t p : ℕ) → Msg
  new_succ_ack : (a t p : ℕ) → Msg
  join_done : (a t : ℕ) → Msg
  leave_req : (q y : ℕ) → Msg
  leave_retry : (x q : ℕ) → Msg
  leave_grant : (q t : ℕ) → Msg
  leave_point : (q t p : ℕ) → Msg
  update_succ : (q t p : ℕ) → Msg
  stop_forward : (q t p : ℕ) → Msg
  leave_done : (q t : ℕ) → Msg

-- the message as the record has it
abbrev pub erase : Msg → Message
erase (lookup x y v k hops) = question x y v k hops
erase (join x y a) = note 2 x y a
erase (join_retry x a) = note 3 x a 0
erase (join_point a t p) = note 4 t a p
erase (new_succ a t p) = note 5 a p 0
erase (new_succ_ack a t p) = note 6 p t a
erase (join_done a t) = note 7 t a 0
erase (leave_req q y) = note 8 q y 0
erase (leave_retry x q) = note 9 x q 0
erase (leave_grant q t) = note 10 t q 0
erase (leave_point q t p) = note 11 q t p
erase (update_succ q t p) = note 12 t p 0
erase (stop_forward q t p) = note 13 p q 0
erase (leave_done q t) = note 14 q t 0

abbrev pub from : Msg → ℕ
from m = (erase m).from

abbrev pub to : Msg → ℕ
to m = (erase m).to

-- the hubs whose lock the message carries
abbrev pub owners : Msg → List ℕ
owners (lookup x y v k hops) = []
owners (join x y a) = a ∷ []
owners (join_retry x a) = a ∷ []
owners (join_point a t p) = a ∷ t ∷ []
owners (new_succ a t p) = a ∷ t ∷ []
owners (new_succ_ack a t p) = a ∷ t ∷ []
owners (join_done a t) = a ∷ []
owners (leave_req q y) = q ∷ []
owners (leave_retry x q) = q ∷ []
owners (leave_grant q t) = q ∷ t ∷ []
owners (leave_point q t p) = q ∷ t ∷ []
owners (update_succ q t p) = q ∷ t ∷ []
owners (stop_forward q t p) = q ∷ t ∷ []
owners (leave_done q t) = t ∷ []

abbrev pub carriers : List Msg → ℕ → ℕ
carriers [] h = 0
carriers (m ∷ ms) h = times (owners m) h + carriers ms h

-- p is in the ring and its succ is h
pub record Points (S : Hubs) (p h : ℕ) : Type 0 where
  pub low : INSIDE ≤ (S.core p).state
  pub high : (S.core p).state ≤ WANTING_TO_LEAVE
  pub at : S.succ p ≡ h

-- h in state c, without a newcomer before it, its pred p
pub record Plain (S : Hubs) (h c p : ℕ) : Type 0 where
  pub state : (S.core h).state ≡ c
  pub flag : (S.core h).flag ≡ 0
  pub pred : (S.core h).pred ≡ p

-- t sends what comes from p on to the newcomer a
pub record Flagged (S : Hubs) (t a p : ℕ) : Type 0 where
  pub state : (S.core t).state ≡ INSIDE
  pub flag : (S.core t).flag ≡ 1
  pub pred : (S.core t).pred ≡ a
  pub oldpred : (S.core t).oldpred ≡ p

-- h in state c, and its pred points to it
pub record Linked (S : Hubs) (h c : ℕ) : Type 0 where
  pub state : (S.core h).state ≡ c
  pub flag : (S.core h).flag ≡ 0
  pub back : Points S (S.core h).pred h

-- what holds of the participants while the message waits
abbrev pub Loc : Hubs → Msg → Type 0
Loc S (lookup x y v k hops) = Unit {0}
Loc S (join x y a) = ((S.core a).state ≡ JOINING) × (S.led a ≡ 0)
Loc S (join_retry x a) = ((S.core a).state ≡ JOINING) × (S.led a ≡ 0)
Loc S (join_point a t p) = ((S.core a).state ≡ JOINING) × (S.led a ≡ 1) × Flagged S t a p × Points S p t
Loc S (new_succ a t p) = Plain S a INSIDE p × (S.succ a ≡ t) × Flagged S t a p × Points S p t
Loc S (new_succ_ack a t p) = Plain S a INSIDE p × (S.succ a ≡ t) × Flagged S t a p × Points S p a
Loc S (join_done a t) = Linked S a INSIDE
Loc S (leave_req q y) = Linked S q WANTING_TO_LEAVE × (S.succ q ≢ q)
Loc S (leave_retry x q) = Linked S q WANTING_TO_LEAVE × (S.succ q ≢ q)
Loc S (leave_grant q t) = Linked S q WANTING_TO_LEAVE × (S.succ q ≡ t) × Plain S t INSIDE q
Loc S (leave_point q t p) = Plain S q LEAVING p × (S.led q ≡ 1) × Points S p q × (S.succ q ≡ t) × Plain S t INSIDE q
Loc S (update_succ q t p) = Plain S q LEAVING p × (S.led q ≡ 0) × Points S p q × (S.succ q ≡ t) × Plain S t INSIDE p
Loc S (stop_forward q t p) = Plain S q LEAVING p × (S.led q ≡ 0) × Points S p t × (S.succ q ≡ t) × Plain S t INSIDE p
Loc S (leave_done q t) = Linked S t INSIDE

-- a hub that nobody has locked
abbrev pub Idle : Hubs → ℕ → Type 0
Idle S h = ((S.core h).state ≡ OUTSIDE) ⊎ Linked S h INSIDE

-- h's succ is in the ring, and knows h while h is a member
pub record Fwd (S : Hubs) (h : ℕ) : Type 0 where
  pub low : INSIDE ≤ (S.core (S.succ h)).state
  pub high : (S.core (S.succ h)).state ≤ LEAVING
  pub knows : S.led h ≡ 1
      → ((S.core (S.succ h)).pred ≡ h) ⊎ (((S.core (S.succ h)).flag ≡ 1) × ((S.core (S.succ h)).oldpred ≡ h))

-- the flag stands in state 2 alone
abbrev pub Flags : Core → Type 0
Flags c = (c.flag ≡ 0) ⊎ ((c.flag ≡ 1) × (c.state ≡ INSIDE))

-- members by state
pub record Member (c : Core) (l : ℕ) : Type 0 where
  pub out : c.state ≡ OUTSIDE → l ≡ 0
  pub inside : INSIDE ≤ c.state → c.state ≤ WANTING_TO_LEAVE → l ≡ 1

-- questions on the way, and requests to leave
abbrev pub asks : Msg → Bool
asks (lookup x y v k hops) = true
asks (join x y a) = false
asks (join_retry x a) = false
asks (join_point a t p) = false
asks (new_succ a t p) = false
asks (new_succ_ack a t p) = false
asks (join_done a t) = false
asks (leave_req q y) = true
asks (leave_retry x q) = false
asks (leave_grant q t) = false
asks (leave_point q t p) = false
asks (update_succ q t p) = false
asks (stop_forward q t p) = false
asks (leave_done q t) = false

-- the last message of a link that is given up
abbrev pub closes : Msg → Bool
closes (lookup x y v k hops) = false
closes (join x y a) = false
closes (join_retry x a) = false
closes (join_point a t p) = false
closes (new_succ a t p) = false
closes (new_succ_ack a t p) = true
closes (join_done a t) = true
closes (leave_req q y) = false
closes (leave_retry x q) = false
closes (leave_grant q t) = false
closes (leave_point q t p) = false
closes (update_succ q t p) = false
closes (stop_forward q t p) = true
closes (leave_done q t) = true

-- why a question on the link x to y finds y in the ring; v are the messages behind it
pub record Closed (x y : ℕ) (v : List Msg) : Type 0 where
  pub last : Msg
  pub waits : Mem last v
  pub is : T (closes last)
  pub src : from last ≡ x
  pub dst : to last ≡ y

pub record Open (S : Hubs) (x y : ℕ) : Type 0 where
  pub low : INSIDE ≤ (S.core x).state
  pub high : (S.core x).state ≤ LEAVING
  pub at : S.succ x ≡ y

pub record Back (S : Hubs) (x y : ℕ) (v : List Msg) : Type 0 where
  pub flag : (S.core x).flag ≡ 1
  pub pred : (S.core x).pred ≡ y
  pub entered : (p : ℕ) → Mem (join_point y x p) v → ⊥

abbrev pub Way : Hubs → ℕ → ℕ → List Msg → Type 0
Way S x y v = Closed x y v ⊎ (Open S x y ⊎ Back S x y v)

abbrev pub Fifo : Hubs → List Msg → Type 0
Fifo S [] = Unit {0}
Fifo S (m ∷ v) = (T (asks m) → Way S (from m) (to m) v) × Fifo S v

-- n is the modulus, id the identifiers, c the number of hubs. g are hubs whose locks no waiting message carries: those of
-- the message that is being delivered, and none between two steps.
pub record Inv (n : ℕ) (id : ℕ → ℕ) (c : ℕ) (S : Hubs) (g : List ℕ) (ms : List Msg) : Type 0 where
  pub one : (h : ℕ) → (S.core h).lock ≤ 1
  pub count : (h : ℕ) → (S.core h).lock ≡ times g h + carriers ms h
  pub idle : (h : ℕ) → (S.core h).lock ≡ 0 → Idle S h
  pub loc : (m : Msg) → Mem m ms → Loc S m
  pub fwd : (h : ℕ) → INSIDE ≤ (S.core h).state → (S.core h).state ≤ LEAVING → Fwd S h
  pub flags : (h : ℕ) → Flags (S.core h)
  pub member : (h : ℕ) → Member (S.core h) (S.led h)
  pub next : (h : ℕ) → INSIDE ≤ (S.core h).state → S.led h ≡ 1 → PredL n id S.led (S.core h).pred h
  pub entry : (a t p : ℕ) → Mem (join_point a t p) ms → PredL n id S.led p a
  pub fifo : Fifo S ms
  pub below : (h : ℕ) → JOINING ≤ (S.core h).state → h < c
