-- The hub of an entered or gone answer is one of the record's. For every well-formed state and command. Assumes nothing.
use Rattle.std.specs.Prelude.{◌≡◌, refl, List, Bool, ◌&&◌, ℕ, ◌<◌, ◌≤◌, length}
use Rattle.std.proofs.Common.{sym, subst, arith, eqb→eq, ltb→lt}
use Rattle.std.proofs.Common.{nat_lt, nat_eq}
use Rattle.std.proofs.Math.Dec.{T}
use Rattle.lists.specs.Basics.{when◌then◌else◌}
use Rattle.lists.specs.Choice.{choose, tested}
use Rattle.lists.specs.Members.{mem_at}
use Rattle.protocol.specs.declared.Row.{Row}
use Rattle.protocol.specs.declared.Message.{Message}
use Rattle.protocol.specs.declared.Answer.{Answer}
use Rattle.protocol.specs.declared.Answer.TheVariants.{Quiet, Found, Entered, Gone, JoinTurnedAway, LeaveTurnedAway, Joined, Left}
use Rattle.protocol.specs.declared.Route.{Route}
use Rattle.protocol.specs.declared.Route.TheVariants.{Own, To}
use Rattle.protocol.specs.Outcomes.{Decided}
use Rattle.protocol.specs.declared.Decision.TheVariants.{Reply, Send}
use Rattle.protocol.specs.declared.refusal.Refusal.TheVariants.{NotExpected}
use Rattle.std.specs.Prelude.{Err, Ok}
use Rattle.protocol.specs.Record.{State, count, row, without_message, message, no_message}
use Rattle.protocol.specs.Routing.{in_ring}
use Rattle.protocol.specs.WellFormed.{names_node}
use Rattle.protocol.specs.Kinds as kinds
use Rattle.protocol.specs.Kinds.{lookup_routed, join_routed, handle}
use Rattle.protocol.specs.Step as step
use Rattle.protocol.specs.Step.{Result, refused, accepted, conclude, asking, oldest, delivered}
use Rattle.protocol.specs.Cards.{following}
use Rattle.layout.specs.Form.{Form, MessageForm}

-- the hub that an answer moves is below n
abbrev pub Bound : ℕ → Answer → Type 0
Bound n Quiet = Unit {0}
Bound n (Found hub number ticket hops) = Unit {0}
Bound n (Entered hub) = hub < n
Bound n (Gone hub) = hub < n
Bound n (JoinTurnedAway hub) = Unit {0}
Bound n (LeaveTurnedAway hub) = Unit {0}
Bound n (Joined hub) = Unit {0}
Bound n (Left hub) = Unit {0}

pub bound_more : (n m : ℕ) (a : Answer) → n ≤ m → Bound n a → Bound m a
bound_more n m Quiet l b = tt
bound_more n m (Found hub number ticket hops) l b = tt
bound_more n m (Entered hub) l b = omega arith
bound_more n m (Gone hub) l b = omega arith
bound_more n m (JoinTurnedAway hub) l b = tt
bound_more n m (LeaveTurnedAway hub) l b = tt
bound_more n m (Joined hub) l b = tt
bound_more n m (Left hub) l b = tt

-- An answer in which no hub enters or goes is handed on: record and cards stay.
pub handed_on : (w k slice : List ℕ) (a : Answer) → ((x : ℕ) → a ≡ Entered x → ⊥) → ((x : ℕ) → a ≡ Gone x → ⊥)
    → following w k slice a ≡ record { outcome = Ok a; slice = slice; cards = k }
unfolding following
handed_on w k slice Quiet e g = refl
handed_on w k slice (Found hub number ticket hops) e g = refl
handed_on w k slice (Entered hub) e g = absurd (e hub refl)
handed_on w k slice (Gone hub) e g = absurd (g hub refl)
handed_on w k slice (JoinTurnedAway hub) e g = refl
handed_on w k slice (LeaveTurnedAway hub) e g = refl
handed_on w k slice (Joined hub) e g = refl
handed_on w k slice (Left hub) e g = refl

module _ (n : ℕ) where
  abbrev Mild : Decided → Type 0
  Mild (Err k) = Unit {0}
  Mild (Ok (Reply v a)) = Bound n a
  Mild (Ok (Send v u a)) = Bound n a

  if_else : (b : Bool) (x : Decided) → Mild x → Mild (when b then x else Err NotExpected)
  if_else b x f = choose Mild b x (Err NotExpected) (λ _. f) (λ _. tt)

  module _ (h : Row) (asked : ℕ) (m : Message) (M : MessageForm n asked m) where
    lookup_routed_lem : (r : Route) → Mild (lookup_routed h m r)
    unfolding lookup_routed
    lookup_routed_lem Own = tt
    lookup_routed_lem (To z) = tt

    join_routed_lem : m.a < n → (r : Route) → Mild (join_routed h m r)
    unfolding join_routed
    join_routed_lem l Own = choose Mild (nat_eq h.lock 1) _ _ (λ _. tt) (λ _. l)
    join_routed_lem l (To z) = tt

    names : m.kind ≡ 2 → m.a < n
    unfolding names_node
    names e = M.node (subst (λ z. T (names_node z)) (sym e) tt) (omega (arith, e))

    pub turns : (p : ℕ) (g : Row) → Mild (handle p h g m)
    unfolding handle kinds.lookup kinds.join kinds.join_retry kinds.join_point kinds.new_succ kinds.new_succ_ack kinds.join_done kinds.leave_req kinds.leave_retry kinds.leave_grant kinds.leave_point kinds.update_succ kinds.stop_forward kinds.leave_done
    turns p g =
        by 1 _ _ (λ _. if_else (in_ring h) _ (lookup_routed_lem _))
        (by 2 _ _ (λ e. if_else (nat_eq g.state 1) _ (choose Mild (nat_lt h.state 2) _ _ (λ _. tt) (λ _. join_routed_lem (names e) _)))
        (by 3 _ _ (λ _. if_else _ _ tt) (by 4 _ _ (λ _. if_else _ _ tt) (by 5 _ _ (λ _. if_else _ _ tt)
        (by 6 _ _ (λ _. if_else _ _ tt) (by 7 _ _ (λ _. if_else _ _ tt)
        (by 8 _ _ (λ _. if_else (in_ring h) _ (choose Mild (nat_eq h.lock 1) _ _ (λ _. tt) (λ _. tt)))
        (by 9 _ _ (λ _. if_else _ _ tt) (by 10 _ _ (λ _. if_else _ _ tt) (by 11 _ _ (λ _. if_else _ _ M.from)
        (by 12 _ _ (λ _. if_else _ _ tt) (by 13 _ _ (λ _. if_else _ _ tt) (by 14 _ _ (λ _. if_else _ _ tt) tt)))))))))))))
      where
        by : (k : ℕ) (x y : Decided) → (m.kind ≡ k → Mild x) → Mild y → Mild (when nat_eq m.kind k then x else y)
        by k x y f g = choose Mild (nat_eq m.kind k) x y (λ t. f (eqb→eq m.kind k t)) (λ _. g)

-- a step's result
abbrev pub Bounded : ℕ → Result → Type 0
Bounded n (refused k) = Unit {0}
Bounded n (accepted a s) = Bound n a

module _ (s : State) (f : Form s) where
  abbrev n : ℕ
  n = count s

  decided : (j t : ℕ) (d : Decided) → Mild n d → Bounded n (conclude (without_message s j) t d)
  unfolding conclude
  decided j t (Err k) x = tt
  decided j t (Ok (Reply v a)) x = x
  decided j t (Ok (Send v u a)) x = x

  deliver_bounded : (x y : ℕ) → Bounded n (step.deliver s x y)
  unfolding step.deliver delivered
  deliver_bounded x y =
      tested (Bounded n) (nat_lt x (count s) && nat_lt y (count s)) _ _ tt
      (λ _. tested (Bounded n) (nat_lt (oldest s x y) (length s.messages)) _ _ tt
      (λ l. decided (oldest s x y) y _ (turns n (row s y) s.asked (message s (oldest s x y)) (f.messages _ (mem_at s.messages (oldest s x y) no_message (ltb→lt _ _ l))) _ _)))

  asking_bounded : (x v : ℕ) (r : Route) → Bounded n (asking s x v r)
  unfolding asking
  asking_bounded x v Own = tt
  asking_bounded x v (To z) = tested (Bounded n) _ _ _ tt (λ _. tt)

  pub step_bounded : (operation x y : ℕ) → Bounded (count s) (step.step s operation x y)
  unfolding step.step step.ask step.join step.leave conclude
  step_bounded operation x y =
      choose (Bounded n) (nat_eq operation 0) _ _ (λ _. tested (Bounded n) _ _ _ tt (λ _. tested (Bounded n) _ _ _ tt (λ _. tested (Bounded n) _ _ _ tt (λ _. asking_bounded x y _))))
      (λ _. choose (Bounded n) (nat_eq operation 1) _ _ (λ _. tested (Bounded n) _ _ _ tt (λ _. tested (Bounded n) _ _ _ tt (λ _. tested (Bounded n) _ _ _ tt (λ _. tested (Bounded n) _ _ _ tt (λ _. tt)))))
      (λ _. choose (Bounded n) (nat_eq operation 2) _ _ (λ _. tested (Bounded n) _ _ _ tt (λ _. tested (Bounded n) _ _ _ tt (λ _. tested (Bounded n) _ _ _ tt (λ _. tested (Bounded n) _ _ _ tt (λ _. tested (Bounded n) _ _ _ tt (λ _. tt))))))
      (λ _. choose (Bounded n) (nat_eq operation 3) _ _ (λ _. deliver_bounded x y) (λ _. tt))))
