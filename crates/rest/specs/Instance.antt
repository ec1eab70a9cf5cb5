-- The premises of the theorem can be met, in any slice that is long enough: a ring of three hubs, founded by hub 1, whether it is named or not, whom
-- the others join, and then with one that has left again. What the roll is there, is computed beside what is claimed of it. Assumes nothing.
use Rattle.std.specs.Prelude.{◌≡◌, Ok, List, [], ◌∷◌, ◌++◌, ℕ, ◌≤◌, length, drop}
use Rattle.std.proofs.Math.Path.{refl, sym, ap, subst}
use Rattle.std.proofs.Common.{◌∙◌, arith}
use Rattle.clockwise.specs.Clockwise.{dist, within}
use Rattle.lists.specs.Basics.{when◌then◌else◌, require, every, distinct, first, All}
use Rattle.lists.specs.Tests.{says_distinct}
use Rattle.protocol.specs.declared.Answer.TheVariants.{Quiet}
use Rattle.protocol.specs.Record.{record_size, State, count, count_in, read, words}
use Rattle.protocol.specs.Fresh.{smallest, fresh}
use Rattle.protocol.specs.Routing.{in_ring, responsible, covers, onward, route}
use Rattle.protocol.specs.Kinds as kinds
use Rattle.protocol.specs.Step as step
use Rattle.protocol.specs.Step.{Result, refused, accepted}
use Rattle.protocol.specs.Calls.{Called, written, complete, roll, fresh_call, fresh_by_call}
use Rattle.layout.specs.Words.{read_words, drop_words, messages_read, count_read}
use Rattle.layout.specs.Form.{Form}
use Rattle.layout.specs.Asks.{Leaves, leaves_form}
use Rattle.atomicity.specs.Preserved.{step_form, fresh_form}
use Rattle.atomicity.specs.Demand3.{Call, ThreeWords, present, history, record_after, from_fresh}
use Rattle.atomicity.specs.Probes.{join, leave, deliver}
use Rattle.atomicity.specs.Record.{fresh_gives}
use Rattle.atomicity.specs.Engines.{call_is}
use Rattle.rest.specs.AtRest.{Rests, ledger, Resting, AtRest}
use Rattle.rest.specs.Theorem.{at_rest}

-- The state that calls leave: this is computed.
then_left : State → Result → State
then_left s (refused k) = s
then_left s (accepted a s') = s'

state_after : State → List Call → State
state_after s [] = s
state_after s (c ∷ calls) = state_after (then_left s (step.step s c.operation c.x c.y)) calls

record Arrived (tail : List ℕ) (s : State) (w : List ℕ) : Type 0 where
  form : Form s
  is : w ≡ words s ++ tail

arrives : (tail : List ℕ) (s : State) → Form s → (calls : List Call) → Arrived tail (state_after s calls) (record_after present (words s ++ tail) calls)
unfolding record_after state_after written then_left
arrives tail s f [] = record { form = f; is = refl }
arrives tail s f (c ∷ calls) =
    subst (λ z. Arrived tail (state_after (then_left s r) calls) (record_after present z.slice calls)) (sym (call_is s tail c f))
    (go r (step_form s f c.operation c.x c.y) (λ s' f'. arrives tail s' f' calls))
  where
    r : Result
    r = step.step s c.operation c.x c.y

    go : (r : Result) → Leaves r → ((s' : State) → Form s' → Arrived tail (state_after s' calls) (record_after present (words s' ++ tail) calls))
        → Arrived tail (state_after (then_left s r) calls) (record_after present (written (words s ++ tail) r).slice calls)
    go (refused k) l ih = ih s f
    go (accepted a s') l ih =
        subst (λ t. Arrived tail (state_after s' calls) (record_after present (words s' ++ t) calls)) (sym (drop_words s tail f.few f.short)) (ih s' (leaves_form a s' l))

-- What stands after these calls: no message waits, so all that is claimed holds; and the roll from this hub is this list.
abbrev pub three : List ℕ
three = 300 ∷ 100 ∷ 200 ∷ []

pub record Stands (begun : Called) (calls : List Call) (start : ℕ) (list : List ℕ) : Type 0 where
  pub rests : Rests (record_after present begun.slice calls)
  pub claimed : Resting three (ledger 1 (history present begun.slice calls)) (record_after present begun.slice calls)
  pub rolls : roll (read (record_after present begun.slice calls)) start (count_in (record_after present begun.slice calls)) start ≡ complete list

-- Hub 0 joins by hub 1, and hub 2 by hub 0; then hub 0 leaves. Each up to its last message.
abbrev pub joins : List Call
joins =
    join 0 1 ∷ deliver 0 1 ∷ deliver 1 0 ∷ deliver 0 1 ∷ deliver 1 1 ∷ deliver 1 0
    ∷ join 2 0 ∷ deliver 2 0 ∷ deliver 0 2 ∷ deliver 2 1 ∷ deliver 1 0 ∷ deliver 0 2 ∷ []

abbrev pub joins_and_leave : List Call
joins_and_leave = joins ++ (leave 0 ∷ deliver 0 1 ∷ deliver 1 0 ∷ deliver 0 1 ∷ deliver 1 2 ∷ deliver 2 0 ∷ deliver 0 1 ∷ [])

Computes : List Call → ℕ → List ℕ → Type 0
Computes calls start list = let s = state_after (fresh three 1) calls in (s.messages ≡ []) × (roll s start (count s) start ≡ complete list)

computed : Computes joins 1 (1 ∷ 2 ∷ 0 ∷ []) × Computes joins_and_leave 1 (1 ∷ 2 ∷ [])
unfolding Computes state_after then_left fresh step.step step.ask step.asking step.join step.leave step.on_link step.delivered step.deliver require step.conclude step.room when◌then◌else◌ first within dist in_ring responsible covers onward route kinds.grown kinds.lookup_routed kinds.lookup kinds.join_routed kinds.join kinds.join_retry kinds.join_point kinds.new_succ kinds.new_succ_ack kinds.join_done kinds.leave_req kinds.leave_retry kinds.leave_grant kinds.leave_point kinds.update_succ kinds.stop_forward kinds.leave_done kinds.handle roll
computed = ((refl, refl), (refl, refl))

module _ (slice : List ℕ) (l : record_size ≤ length slice) where
  stands : (calls : List Call) (start : ℕ) (list : List ℕ) → All ThreeWords calls → Computes calls start list → Stands (fresh_by_call slice three 1) calls start list
  unfolding Computes AtRest distinct every
  stands calls start list t k =
      record {
        rests = rests;
        claimed = at_rest three 1 _ _ (from_fresh (record {
          slice = slice;
          calls = calls;
          identifiers = (omega arith, (omega arith, (omega arith, tt)));
          commands = t;
          accepted = ap (λ z. z.outcome) gives;
          happened = refl;
          is = refl;
        })) rests;
        rolls = subst (λ w. roll (read w) start (count_in w) start ≡ complete list) (sym is)
            (ap (λ z. roll z start (count_in (words s ++ tail)) start) (read_words s tail a.form.few) ∙ ap (λ n. roll s start n start) (count_read s tail) ∙ k.1);
      }
    where
      tail : List ℕ
      tail = drop record_size slice

      gives : fresh_by_call slice three 1 ≡ record { outcome = Ok Quiet; slice = words (fresh three 1) ++ tail }
      gives = fresh_gives slice three 1 l tt tt tt

      s : State
      s = state_after (fresh three 1) calls

      a : Arrived tail s (record_after present (words (fresh three 1) ++ tail) calls)
      a = arrives tail (fresh three 1) (fresh_form three 1 (omega arith) (omega arith) ((says_distinct three).to tt)) calls

      is : record_after present (fresh_by_call slice three 1).slice calls ≡ words s ++ tail
      is = ap (λ z. record_after present z.slice calls) gives ∙ a.is

      rests : Rests (record_after present (fresh_by_call slice three 1).slice calls)
      rests = subst Rests (sym is) (messages_read s tail ∙ ap length k.0)

  pub three_hubs_at_rest : Stands (fresh_by_call slice three 1) joins 1 (1 ∷ 2 ∷ 0 ∷ [])
  three_hubs_at_rest = stands joins 1 _ (omega arith) computed.0

  pub one_has_left : Stands (fresh_by_call slice three 1) joins_and_leave 1 (1 ∷ 2 ∷ [])
  one_has_left = stands joins_and_leave 1 _ (omega arith) computed.1

  pub none_named : Stands (fresh_call slice three) joins_and_leave 1 (1 ∷ 2 ∷ [])
  unfolding smallest first every when◌then◌else◌
  none_named = one_has_left
