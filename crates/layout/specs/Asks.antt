-- A question leaves a well-formed state well formed: of EVERY well-formed state, and of the words of a record. (That every step does is shown
-- with demand 3, in `atomicity`.) Assumes nothing.
use Rattle.std.specs.Prelude.{◌≡◌, refl, ◌⊎◌, Bool, List, [], ◌∷◌, ◌++◌, ℕ, ◌+◌, ◌≤◌, ◌<◌, T, nat_le, length, drop}
use Rattle.std.proofs.Common.{sym, ◌∙◌, subst, inl, inr, arith, leb→le, length-append, length-drop}
use Rattle.std.proofs.Math.Dec.{ltb→lt}
use Rattle.lists.specs.Basics.{when◌then◌else◌, require, Mem}
use Rattle.lists.specs.Choice.{choose, tested}
use Rattle.lists.specs.Members.{mem_split}
use Rattle.lists.specs.Tests.{and_left, and_right, T_true}
use Rattle.protocol.specs.declared.Row.{Row}
use Rattle.protocol.specs.declared.Message.{Message}
use Rattle.protocol.specs.declared.Answer.{Answer}
use Rattle.protocol.specs.declared.Answer.TheVariants.{Quiet, Found}
use Rattle.protocol.specs.Outcomes.{Outcome}
use Rattle.std.specs.Prelude.{Err, Ok}
use Rattle.protocol.specs.declared.Route.{Route}
use Rattle.protocol.specs.declared.Route.TheVariants.{Own, To}
use Rattle.protocol.specs.Names.{INSIDE, LEAVING}
use Rattle.protocol.specs.declared.refusal.Refusal.{Refusal}
use Rattle.protocol.specs.declared.refusal.Refusal.TheVariants.{MessagesFull, NotInRing, NotWellFormed, NoHub, RecordShort, TicketsUsedUp}
use Rattle.protocol.specs.Record.{most_messages, record_size, State, count, row, identifier, read, words, sent, ticketed}
use Rattle.protocol.specs.WellFormed.{names_node}
use Rattle.protocol.specs.Routing.{in_ring, onward}
use Rattle.protocol.specs.Step as step
use Rattle.protocol.specs.Step.{Result, refused, accepted, room, asking}
use Rattle.protocol.specs.Calls.{Called, on_record, turned_down, written, step_call}
use Rattle.layout.specs.Words.{length_words}
use Rattle.layout.specs.Form.{MessageForm, Form, row_at, well_formed_words, long_words, Valid, valid, valid_form}
use Rattle.layout.specs.Questions.{record_rest}

-- state 2 to 4
pub ring_states : (h : Row) → T (in_ring h) → (INSIDE ≤ h.state) × (h.state ≤ LEAVING)
unfolding in_ring
ring_states h t =
    (leb→le INSIDE h.state (and_left (nat_le INSIDE h.state) (nat_le h.state LEAVING) t), leb→le h.state LEAVING (and_right (nat_le INSIDE h.state) (nat_le h.state LEAVING) t))

-- where a number goes is a hub
abbrev pub Leads : ℕ → Route → Type 0
Leads n Own = Unit {0}
Leads n (To z) = z < n

pub onward_leads : (n p : ℕ) (h : Row) (v : ℕ) → h.succ < n → Leads n (onward p h v)
unfolding onward
onward_leads n p h v l = choose (Leads n) _ _ _ (λ _. l) (λ _. choose (Leads n) _ _ _ (λ _. tt) (λ _. l))

-- a step's result
pub Leaves : Result → Type 0
Leaves (refused k) = Unit {0}
Leaves (accepted a s) = Form s

pub leaves_refused : (k : Refusal) → Leaves (refused k)
unfolding Leaves
leaves_refused k = tt

pub leaves_form : (a : Answer) (s : State) → Leaves (accepted a s) → Form s
unfolding Leaves
leaves_form a s f = f

pub leaves_accepted : (a : Answer) (s : State) → Form s → Leaves (accepted a s)
unfolding Leaves
leaves_accepted a s f = f

-- a message is put last
pub sent_form : (s : State) (m : Message) → Form s → length s.messages < most_messages → MessageForm (count s) s.asked m → Form (sent s m)
sent_form s m f l o = record {
  some = f.some;
  few = f.few;
  short = omega (arith, length-append s.messages (m ∷ []));
  differ = f.differ;
  rows = f.rows;
  messages = λ x k. go x (mem_split x s.messages (m ∷ []) k);
}
  where
    go : (x : Message) → Mem x s.messages ⊎ Mem x (m ∷ []) → MessageForm (count s) s.asked x
    go x (inl k) = f.messages x k
    go x (inr (inl e)) = subst (MessageForm (count s) s.asked) (sym e) o
    go x (inr (inr k)) = absurd k

-- what holds of a question's result
pub ask_yes : (b : Bool) (k : Refusal) (r : Result) → (T b → Leaves r) → Leaves (require b (refused k) r)
ask_yes b k r g = tested Leaves b (refused k) r (leaves_refused k) g

pub roomy : (s : State) → T (room s) → length s.messages < most_messages
unfolding room
roomy s t = ltb→lt (length s.messages) most_messages t

module _ (s : State) (f : Form s) where
  -- one question more asked
  more_asked : (m : Message) → MessageForm (count s) s.asked m → MessageForm (count s) (s.asked + 1) m
  more_asked m o = record {
    low = o.low;
    high = o.high;
    from = o.from;
    to = o.to;
    node = o.node;
    zero = o.zero;
    lookup = λ e. (omega (arith, (o.lookup e).0), (o.lookup e).1);
    plain = o.plain;
  }

  ticketed_form : Form (ticketed s)
  ticketed_form = record { some = f.some; few = f.few; short = f.short; differ = f.differ; rows = f.rows; messages = λ m k. more_asked m (f.messages m k) }

  asking_form : (x v : ℕ) → x < count s → (z : Route) → Leads (count s) z → Leaves (asking s x v z)
  unfolding asking names_node
  asking_form x v lx Own l = leaves_accepted _ _ ticketed_form
  asking_form x v lx (To z) l = ask_yes _ _ _ λ t11.
      leaves_accepted _ _ (sent_form (ticketed s) _ ticketed_form (roomy s t11)
      (record {
        low = omega arith;
        high = omega arith;
        from = lx;
        to = l;
        node = λ _ ne. absurd (ne refl);
        zero = λ _ ne. absurd (ne refl);
        lookup = λ _. omega arith;
        plain = λ ne. absurd (ne refl);
      }))

  pub ask_form : (x v : ℕ) → Leaves (step.ask s x v)
  unfolding step.ask
  ask_form x v = ask_yes _ _ _ λ t4. ask_yes _ _ _ λ t5. ask_yes _ _ _ λ t12.
      let lx : x < count s = ltb→lt x (count s) t4 in
      asking_form x v lx (onward (identifier s (row s x).pred) (row s x) v)
      (onward_leads (count s) _ (row s x) v ((row_at f x lx).linked (ring_states (row s x) t5).0).1)

-- The same of words: a question leaves a valid record valid, also where it is refused, and as long as it was.
pub record Again (w z : List ℕ) : Type 0 where
  pub valid : Valid z
  pub length : length z ≡ length w

pub ask_again : (w : List ℕ) → Valid w → (hub v : ℕ) → Again w (step_call w 0 hub v).slice
unfolding step_call written step.step when◌then◌else◌
ask_again w ok hub v =
    subst (λ (c : Called). Again w c.slice) (sym (record_rest w (turned_down w) _ ok.long ok.formed))
    (go (step.ask (read w) hub v) (ask_form (read w) (valid_form w ok) hub v))
  where
    go : (r : Result) → Leaves r → Again w (written w r).slice
    go (refused k) l = record { valid = ok; length = refl }
    go (accepted a s) l =
        let f = leaves_form a s l in
        let t = drop record_size w in
        record {
          valid = valid (words s ++ t) (long_words s t f) (T_true _ (well_formed_words s t f));
          length = length-append (words s) t ∙ omega (arith, length_words s t f.few f.short, length-drop record_size w, ok.long);
        }

-- What holds of a question's outcome, whatever the record is: it is refused, or found at its hub, or quiet.
pub ask_cases : (P : Outcome → Type 0) (w : List ℕ) (hub v : ℕ) → ((k : Refusal) → P (Err k)) → ((ticket : ℕ) → P (Ok (Found hub v ticket 0))) → P (Ok Quiet)
    → P (step_call w 0 hub v).outcome
unfolding step_call on_record written step.step step.ask asking when◌then◌else◌
ask_cases P w hub v refuses found quiet =
    tested CalledP _ _ _ (refuses RecordShort) (λ _. tested CalledP _ _ _ (refuses NotWellFormed)
    (λ _. tested ResultP _ _ _ (refuses NoHub) (λ _. tested ResultP _ _ _ (refuses NotInRing) (λ _. tested ResultP _ _ _ (refuses TicketsUsedUp)
    (λ _. routed (onward (identifier (read w) (row (read w) hub).pred) (row (read w) hub) v))))))
  where
    CalledP : Called → Type 0
    CalledP c = P c.outcome

    ResultP : Result → Type 0
    ResultP r = P (written w r).outcome

    routed : (z : Route) → ResultP (asking (read w) hub v z)
    routed Own = found (read w).asked
    routed (To z) = tested ResultP _ _ _ (refuses MessagesFull) (λ _. quiet)
