-- What holds between two calls: the invariant of the rows and messages, of the tickets and of the numbers in the messages.
-- And what a step has to show of its result. Assumes nothing.
use Rattle.std.specs.Prelude.{◌≡◌, ◌⊎◌, ◌≢◌, Bool, true, false, ◌&&◌, List, [], ◌∷◌, ◌++◌, map, ℕ, ◌+◌, ◌≤◌, ◌<◌, T, length, get_or, set}
use Rattle.std.proofs.Common.{sym, ◌∙◌, ap, inl, inr, arith, eqb→eq, length-set, get_or-set_same, get_or-set_other}
use Rattle.std.proofs.lemmas.List.{map-append}
use Rattle.std.proofs.Math.Decide.{dec_lt}
use Rattle.std.proofs.Common.{nat_eq}
use Rattle.std.proofs.Math.Dec.{T_not}
use Rattle.std.proofs.Math.Seq.{set_out}
use Rattle.clockwise.specs.Laws.{In, within_in}
use Rattle.lists.specs.Basics.{Mem, All, times}
use Rattle.lists.specs.Choice.{choose}
use Rattle.lists.specs.Members.{mem_split, mem_put, all_mem, by_row}
use Rattle.lists.specs.Tests.{and_left, →eqb}
use Rattle.protocol.specs.declared.Row.{Row}
use Rattle.protocol.specs.declared.Message.{Message}
use Rattle.protocol.specs.declared.Answer.{Answer}
use Rattle.protocol.specs.declared.Answer.TheVariants.{Quiet, Found, Entered, Gone, JoinTurnedAway, LeaveTurnedAway, Joined, Left}
use Rattle.protocol.specs.declared.Route.{Route}
use Rattle.protocol.specs.declared.Route.TheVariants.{Own, To}
use Rattle.protocol.specs.declared.refusal.Refusal.{Refusal}
use Rattle.protocol.specs.Names.{LEAVING, LOOKUP}
use Rattle.protocol.specs.Record.{round, State, outside}
use Rattle.protocol.specs.Routing.{covers, onward, route}
use Rattle.protocol.specs.Step.{Result, refused, accepted}
use Rattle.protocol.specs.Membership.{after_answer, found_ticket, mark}
use Rattle.atomicity.specs.Neighbours.{Owner}
use Rattle.atomicity.specs.Invariant.{Core, Hubs, Msg, erase, from, to, Inv}
use Rattle.atomicity.specs.Invariant.{lookup, join, join_retry, join_point, new_succ, new_succ_ack, join_done}
use Rattle.atomicity.specs.Invariant.{leave_req, leave_retry, leave_grant, leave_point, update_succ, stop_forward, leave_done}
use Rattle.atomicity.specs.Calm.{Rewritten}

-- the rows as the invariant sees them

abbrev pub core_of : Row → Core
core_of h = record { state = h.state; lock = h.lock; flag = h.flag; pred = h.pred; oldpred = h.oldpred }

abbrev pub row_of : List Row → ℕ → Row
row_of rows h = get_or rows h (outside 0)

abbrev pub hubs : List Row → (ℕ → ℕ) → Hubs
hubs rows led = record { core = λ h. core_of (row_of rows h); succ = λ h. (row_of rows h).succ; led = led }

pub rewritten : (rows : List Row) (led led' : ℕ → ℕ) (r : ℕ) (v : Row) → r < length rows
    → Rewritten (hubs rows led) (hubs (set rows r v) led') r (core_of v) v.succ
rewritten rows led led' r v l = record {
  core = ap core_of (get_or-set_same rows r v (outside 0) l);
  succ = ap (λ h. h.succ) (get_or-set_same rows r v (outside 0) l);
  off = λ h ne. ap core_of (get_or-set_other rows r h v (outside 0) ne);
  offs = λ h ne. ap (λ z. z.succ) (get_or-set_other rows r h v (outside 0) ne);
}

-- a changed row that keeps its identifier keeps all identifiers
pub kept_names : (rows : List Row) (r : ℕ) (v : Row) (id : ℕ → ℕ) → v.identifier ≡ (row_of rows r).identifier
    → ((h : ℕ) → (row_of rows h).identifier ≡ id h) → (h : ℕ) → (row_of (set rows r v) h).identifier ≡ id h
kept_names rows r v id e names =
    by_row r (there (dec_lt r (length rows))) (λ h ne. ap (λ z. z.identifier) (get_or-set_other rows r h v (outside 0) ne) ∙ names h)
  where
    there : Dec (r < length rows) → (row_of (set rows r v) r).identifier ≡ id r
    there (yes l) = ap (λ z. z.identifier) (get_or-set_same rows r v (outside 0) l) ∙ e ∙ names r
    there (no l) = ap (λ z. (row_of z r).identifier) (set_out rows r v (omega arith)) ∙ names r

-- the ticket of a question
abbrev pub ticket : Msg → List ℕ
ticket (lookup x y v k hops) = k ∷ []
ticket (join x y a) = []
ticket (join_retry x a) = []
ticket (join_point a t p) = []
ticket (new_succ a t p) = []
ticket (new_succ_ack a t p) = []
ticket (join_done a t) = []
ticket (leave_req q y) = []
ticket (leave_retry x q) = []
ticket (leave_grant q t) = []
ticket (leave_point q t p) = []
ticket (update_succ q t p) = []
ticket (stop_forward q t p) = []
ticket (leave_done q t) = []

abbrev pub total : (Msg → ℕ) → List Msg → ℕ
total f [] = 0
total f (m ∷ ms) = f m + total f ms

pub total_append : (f : Msg → ℕ) (s t : List Msg) → total f (s ++ t) ≡ total f s + total f t
total_append f [] t = omega arith
total_append f (m ∷ s) t = omega (arith, total_append f s t)

pub total_mid : (f : Msg → ℕ) (s : List Msg) (m : Msg) (t : List Msg) → total f (s ++ (m ∷ t)) ≡ f m + total f (s ++ t)
total_mid f s m t = omega (arith, total_append f s (m ∷ t), total_append f s t)

-- how often a ticket waits, and how many questions wait
abbrev pub waits : ℕ → Msg → ℕ
waits k m = times (ticket m) k

abbrev pub asks : Msg → ℕ
asks m = length (ticket m)

-- a message's numbers: sender and receiver are hubs, a question is about a number of the circle
pub record Numbers (c : ℕ) (m : Msg) : Type 0 where
  pub src : from m < c
  pub dst : to m < c
  pub point : (erase m).kind ≡ LOOKUP → (erase m).a < round

-- the numbers of a message that is no question
pub nums : {c : ℕ} (m : Msg) → from m < c → to m < c → (erase m).kind ≢ LOOKUP → Numbers c m
nums m f t k = record { src = f; dst = t; point = λ e. absurd (k e) }

-- id are the identifiers, c the number of hubs, members the ledger, ks the tickets answered, ms the messages with their participants
pub record Holds (id : ℕ → ℕ) (c : ℕ) (rows : List Row) (asked : ℕ) (members ks : List ℕ) (ms : List Msg) : Type 0 where
  pub inv : Inv round id c (hubs rows (mark members)) [] ms
  pub size : length rows ≡ c
  pub names : (h : ℕ) → (row_of rows h).identifier ≡ id h
  pub once : (k : ℕ) → times ks k + total (waits k) ms ≤ 1
  pub later : (k : ℕ) → asked ≤ k → times ks k + total (waits k) ms ≡ 0
  pub sum : asked ≡ length ks + total asks ms
  pub numbers : (m : Msg) → Mem m ms → Numbers c m

pub record Good (id : ℕ → ℕ) (c : ℕ) (s : State) (members ks : List ℕ) : Type 0 where
  pub ms : List Msg
  pub same : s.messages ≡ map erase ms
  pub holds : Holds id c s.rows s.asked members ks ms

-- a found answer is about a number of the circle and names its owner
abbrev pub Names : (ℕ → ℕ) → List ℕ → Answer → Type 0
Names id members Quiet = Unit {0}
Names id members (Found hub number ticket hops) = (number < round) × Owner round id (mark members) number hub
Names id members (Entered hub) = Unit {0}
Names id members (Gone hub) = Unit {0}
Names id members (JoinTurnedAway hub) = Unit {0}
Names id members (LeaveTurnedAway hub) = Unit {0}
Names id members (Joined hub) = Unit {0}
Names id members (Left hub) = Unit {0}

module _ (id : ℕ → ℕ) (c : ℕ) (members ks : List ℕ) (q : ℕ) where
  -- a step went well: a found answer names the owner, q questions are asked now, and all is good again
  pub record Next (a : Answer) (s : State) : Type 0 where
    pub named : Names id members a
    pub asked : s.asked ≡ q
    pub good : Good id c s (after_answer members a) (found_ticket a ++ ks)

  -- refusals are allowed if b says so
  pub Fine : Bool → Result → Type 0
  Fine b (refused k) = T b
  Fine b (accepted a s) = Next a s

  pub fine_refused : (k : Refusal) → Fine true (refused k)
  unfolding Fine
  fine_refused k = tt

  pub fine_accepted : (b : Bool) (a : Answer) (s : State) → Next a s → Fine b (accepted a s)
  unfolding Fine
  fine_accepted b a s x = x

  pub fine_next : (b : Bool) (a : Answer) (s : State) → Fine b (accepted a s) → Next a s
  unfolding Fine
  fine_next b a s x = x

  pub not_refused : (k : Refusal) → Fine false (refused k) → ⊥
  unfolding Fine
  not_refused k x = x

-- the end of a delivery that changed row r to v (and kept its identifier): m is taken out, new are sent, l is left
module _ {id : ℕ → ℕ} {c : ℕ} {rows : List Row} {asked : ℕ} {members ks : List ℕ} (s : List Msg) (m : Msg) (t : List Msg)
    (H : Holds id c rows asked members ks (s ++ (m ∷ t))) where
  pub finish : (a : Answer) (r : ℕ) (v : Row) (new : List Msg) (l : List Message)
      → l ≡ (map erase s ++ map erase t) ++ map erase new → v.identifier ≡ (row_of rows r).identifier
      → Inv round id c (hubs (set rows r v) (mark (after_answer members a))) [] ((s ++ t) ++ new)
      → ((k : ℕ) → times (found_ticket a ++ ks) k + total (waits k) new ≡ times ks k + waits k m)
      → length (found_ticket a ++ ks) + total asks new ≡ length ks + asks m
      → All (Numbers c) new
      → Good id c (record { rows = set rows r v; messages = l; asked = asked }) (after_answer members a) (found_ticket a ++ ks)
  finish a r v new l lis e i tk ln nu = record {
    ms = (s ++ t) ++ new;
    same = lis ∙ ap (λ z. z ++ map erase new) (sym (map-append erase s t)) ∙ sym (map-append erase (s ++ t) new);
    holds = record {
      inv = i;
      size = length-set rows r v ∙ H.size;
      names = kept_names rows r v id e H.names;
      once = λ k. omega (arith, tk k, total_append (waits k) (s ++ t) new, total_mid (waits k) s m t, H.once k);
      later = λ k l. omega (arith, tk k, total_append (waits k) (s ++ t) new, total_mid (waits k) s m t, H.later k l);
      sum = omega (arith, total_append asks (s ++ t) new, total_mid asks s m t, H.sum);
      numbers = λ x k. go x (mem_split x (s ++ t) new k);
    };
  }
    where
      go : (x : Msg) → Mem x (s ++ t) ⊎ Mem x new → Numbers c x
      go x (inl k) = H.numbers x (mem_put x s m t k)
      go x (inr k) = all_mem (Numbers c) new nu x k

-- routing: what holds of a decision by a route, from what holds where the hub owns the number and where it sends it on
module _ {A : Type 0} (P : A → Type 0) (f : Route → A) (p : ℕ) (h : Row) (v : ℕ) where
  pub onward_fine : P (f (To h.succ)) → (h.state ≢ LEAVING → In round p h.identifier v → P (f Own)) → P (f (onward p h v))
  unfolding onward covers
  onward_fine s o =
      choose (λ z. P (f z)) (nat_eq h.state LEAVING) (To h.succ) _ (λ _. s)
      (λ n. choose (λ z. P (f z)) _ Own (To h.succ) (λ i. o (λ e. T_not (nat_eq h.state LEAVING) n (→eqb _ _ e)) (within_in round p h.identifier v i)) (λ _. s))

  pub route_fine : (x : ℕ) → (h.flag ≡ 1 → P (f (To h.pred))) → P (f (To h.succ)) → (h.state ≢ LEAVING → In round p h.identifier v → P (f Own))
      → P (f (route p h x v))
  unfolding route
  route_fine x r s o =
      choose (λ z. P (f z)) (nat_eq h.flag 1 && nat_eq x h.oldpred) (To h.pred) _
      (λ b. r (eqb→eq _ 1 (and_left (nat_eq h.flag 1) (nat_eq x h.oldpred) b))) (λ _. onward_fine s o)
