-- A hub that is struck off leaves another one inside: only LEAVEPOINT answers gone, and its receiver is and stays in state 2. For every state
-- and command. So from a fresh ring on, the ledger always has a member. Assumes nothing.
use Rattle.std.specs.Prelude.{◌≡◌, Bool, true, ◌&&◌, List, ℕ, ◌+◌, ◌<◌, T, length, get_or}
use Rattle.std.proofs.Math.Path.{ap}
use Rattle.std.proofs.Common.{◌∙◌, arith, ltb→lt, get_or-set_same}
use Rattle.std.proofs.Common.{nat_lt, nat_eq}
use Rattle.std.proofs.Math.Dec.{eqb→eq}
use Rattle.lists.specs.Basics.{when◌then◌else◌}
use Rattle.lists.specs.Choice.{choose, tested}
use Rattle.lists.specs.Tests.{and_left, and_right}
use Rattle.protocol.specs.declared.Row.{Row}
use Rattle.protocol.specs.declared.Message.{Message}
use Rattle.protocol.specs.declared.Answer.{Answer}
use Rattle.protocol.specs.declared.Answer.TheVariants.{Quiet, Found, Entered, Gone, JoinTurnedAway, LeaveTurnedAway, Joined, Left}
use Rattle.protocol.specs.declared.Route.{Route}
use Rattle.protocol.specs.declared.Route.TheVariants.{Own, To}
use Rattle.protocol.specs.Outcomes.{Decided}
use Rattle.protocol.specs.declared.Decision.TheVariants.{Reply, Send}
use Rattle.std.specs.Prelude.{Err, Ok}
use Rattle.protocol.specs.Names.{INSIDE}
use Rattle.protocol.specs.declared.refusal.Refusal.TheVariants.{NotExpected}
use Rattle.protocol.specs.Record.{State, count, row, outside, without_message, message}
use Rattle.protocol.specs.Routing.{in_ring}
use Rattle.protocol.specs.Kinds as kinds
use Rattle.protocol.specs.Kinds.{lookup_routed, join_routed, handle}
use Rattle.protocol.specs.Step as step
use Rattle.protocol.specs.Step.{Result, refused, accepted, conclude, asking, oldest, delivered}
use Rattle.protocol.specs.Membership.{mark, after_answer}
use Rattle.atomicity.specs.Members.{taken_in_same}
use Rattle.atomicity.specs.Good.{Good, Fine, fine_next}
use Rattle.atomicity.specs.Run.{question, step_fine}
use Rattle.atomicity.specs.Theorem.{Keeps, Kept as Held}

-- an answer that strikes a hub off the ledger
abbrev pub Strikes : Answer → Type 0
Strikes Quiet = ⊥
Strikes (Found hub number ticket hops) = ⊥
Strikes (Entered hub) = ⊥
Strikes (Gone hub) = Unit {0}
Strikes (JoinTurnedAway hub) = ⊥
Strikes (LeaveTurnedAway hub) = ⊥
Strikes (Joined hub) = ⊥
Strikes (Left hub) = ⊥

-- where a decision strikes off, the receiver is in state 2 afterwards
abbrev Mild : Decided → Type 0
Mild (Err k) = Unit {0}
Mild (Ok (Reply v a)) = Strikes a → v.state ≡ INSIDE
Mild (Ok (Send v n a)) = Strikes a → v.state ≡ INSIDE

if_else : (b : Bool) (x : Decided) → (T b → Mild x) → Mild (when b then x else Err NotExpected)
if_else b x f = choose Mild b x (Err NotExpected) f (λ _. tt)

module _ (h : Row) (m : Message) where
  lookup_routed_lem : (r : Route) → Mild (lookup_routed h m r)
  unfolding lookup_routed
  lookup_routed_lem Own = λ s. absurd s
  lookup_routed_lem (To z) = λ s. absurd s

  join_routed_lem : (r : Route) → Mild (join_routed h m r)
  unfolding join_routed
  join_routed_lem Own = choose Mild (nat_eq h.lock 1) _ _ (λ _ s. absurd s) (λ _ s. absurd s)
  join_routed_lem (To z) = λ s. absurd s

  leave_point_lem : Mild (kinds.leave_point h m)
  unfolding kinds.leave_point
  leave_point_lem = if_else (nat_eq h.state INSIDE && nat_eq h.lock 1) _ (λ t _. eqb→eq _ INSIDE (and_left (nat_eq h.state INSIDE) (nat_eq h.lock 1) t))

  -- the match over the kinds
  pub turns : (p : ℕ) (g : Row) → Mild (handle p h g m)
  unfolding handle kinds.lookup kinds.join kinds.join_retry kinds.join_point kinds.new_succ kinds.new_succ_ack kinds.join_done kinds.leave_req kinds.leave_retry kinds.leave_grant kinds.update_succ kinds.stop_forward kinds.leave_done
  turns p g =
      by 1 _ _ (if_else (in_ring h) _ (λ _. lookup_routed_lem _))
      (by 2 _ _ (if_else (nat_eq g.state 1) _ (λ _. choose Mild (nat_lt h.state 2) _ _ (λ _ s. absurd s) (λ _. join_routed_lem _)))
      (by 3 _ _ (if_else _ _ (λ _ s. absurd s)) (by 4 _ _ (if_else _ _ (λ _ s. absurd s)) (by 5 _ _ (if_else _ _ (λ _ s. absurd s))
      (by 6 _ _ (if_else _ _ (λ _ s. absurd s)) (by 7 _ _ (if_else _ _ (λ _ s. absurd s))
      (by 8 _ _ (if_else (in_ring h) _ (λ _. choose Mild (nat_eq h.lock 1) _ _ (λ _ s. absurd s) (λ _ s. absurd s)))
      (by 9 _ _ (if_else _ _ (λ _ s. absurd s)) (by 10 _ _ (if_else _ _ (λ _ s. absurd s)) (by 11 _ _ leave_point_lem
      (by 12 _ _ (if_else _ _ (λ _ s. absurd s)) (by 13 _ _ (if_else _ _ (λ _ s. absurd s)) (by 14 _ _ (if_else _ _ (λ _ s. absurd s)) tt)))))))))))))
    where
      by : (k : ℕ) (x y : Decided) → Mild x → Mild y → Mild (when nat_eq m.kind k then x else y)
      by k x y f g = choose Mild (nat_eq m.kind k) x y (λ _. f) (λ _. g)

-- a step's result: where it strikes off, some hub is inside
abbrev pub Lasts : Result → Type 0
Lasts (refused k) = Unit {0}
Lasts (accepted a s) = Strikes a → (t : ℕ) × ((row s t).state ≡ INSIDE)

module _ (s : State) where
  decided : (j t : ℕ) → t < count s → (d : Decided) → Mild d → Lasts (conclude (without_message s j) t d)
  unfolding conclude
  decided j t l (Err k) x = tt
  decided j t l (Ok (Reply v a)) x = λ g. (t, ap (λ r. r.state) (get_or-set_same s.rows t v (outside 0) l) ∙ x g)
  decided j t l (Ok (Send v n a)) x = λ g. (t, ap (λ r. r.state) (get_or-set_same s.rows t v (outside 0) l) ∙ x g)

  deliver_lasts : (x y : ℕ) → Lasts (step.deliver s x y)
  unfolding step.deliver delivered
  deliver_lasts x y =
      tested Lasts (nat_lt x (count s) && nat_lt y (count s)) _ _ tt
      (λ b. tested Lasts _ _ _ tt
      (λ _. decided (oldest s x y) y (ltb→lt y (count s) (and_right (nat_lt x (count s)) (nat_lt y (count s)) b)) _ (turns (row s y) (message s (oldest s x y)) _ _)))

  asking_lasts : (x v : ℕ) (r : Route) → Lasts (asking s x v r)
  unfolding asking
  asking_lasts x v Own = λ g. absurd g
  asking_lasts x v (To z) = tested Lasts _ _ _ tt (λ _ g. absurd g)

  -- one step, whatever the command
  pub step_lasts : (operation x y : ℕ) → Lasts (step.step s operation x y)
  unfolding step.step step.ask step.join step.leave conclude
  step_lasts operation x y =
      choose Lasts (nat_eq operation 0) _ _ (λ _. tested Lasts _ _ _ tt (λ _. tested Lasts _ _ _ tt (λ _. tested Lasts _ _ _ tt (λ _. asking_lasts x y _))))
      (λ _. choose Lasts (nat_eq operation 1) _ _ (λ _. tested Lasts _ _ _ tt (λ _. tested Lasts _ _ _ tt (λ _. tested Lasts _ _ _ tt (λ _. tested Lasts _ _ _ tt (λ _ g. absurd g)))))
      (λ _. choose Lasts (nat_eq operation 2) _ _ (λ _. tested Lasts _ _ _ tt (λ _. tested Lasts _ _ _ tt (λ _. tested Lasts _ _ _ tt (λ _. tested Lasts _ _ _ tt (λ _. tested Lasts _ _ _ tt (λ _ g. absurd g))))))
      (λ _. choose Lasts (nat_eq operation 3) _ _ (λ _. deliver_lasts x y) (λ _. tt))))

-- So some member is left after every step.
abbrev pub Some : List ℕ → State → Type 0
Some members s = (h : ℕ) × (mark members h ≡ 1)

pub some_kept : (ids : List ℕ) → Keeps ids Some
some_kept ids ring s members ks f G p operation x y ly =
    go (step.step s operation x y) (step_fine _ ring.small (length ids) ring.inj s members ks G operation x y ly) (step_lasts s operation x y)
  where
    some : (a : Answer) (t : State) (ks' : List ℕ) → Good (λ h. get_or ids h 0) (length ids) t (after_answer members a) ks'
        → (Strikes a → (j : ℕ) × ((row t j).state ≡ INSIDE)) → Some (after_answer members a) t
    some Quiet t ks' H l = p
    some (Found hub number ticket hops) t ks' H l = p
    some (Entered hub) t ks' H l = (hub, taken_in_same members hub)
    some (Gone hub) t ks' H l = let j = l tt in (j.0, (H.holds.inv.member j.0).inside (omega (arith, j.1)) (omega (arith, j.1)))
    some (JoinTurnedAway hub) t ks' H l = p
    some (LeaveTurnedAway hub) t ks' H l = p
    some (Joined hub) t ks' H l = p
    some (Left hub) t ks' H l = p

    go : (r : Result) → Fine (λ h. get_or ids h 0) (length ids) members ks (s.asked + question operation) true r → Lasts r → Held ids Some members r
    go (refused k) n l = tt
    go (accepted a t) n l = some a t _ (fine_next _ (length ids) members ks (s.asked + question operation) true a t n).good l
