-- What demand 3's proof needs of an engine: which states its records hold, how they stand in words, and that its calls are the steps of
-- these states. Assumes nothing.
use Rattle.std.specs.Prelude.{◌≡◌, refl, List, ◌++◌, ℕ, ◌≤◌, ◌<◌, T, length, drop}
use Rattle.std.proofs.Common.{sym, ◌∙◌, ap, subst, le→leb}
use Rattle.lists.specs.Basics.{distinct}
use Rattle.lists.specs.Choice.{granted}
use Rattle.protocol.specs.declared.Answer.{Answer}
use Rattle.protocol.specs.declared.Answer.TheVariants.{Quiet}
use Rattle.protocol.specs.declared.refusal.Refusal.{Refusal}
use Rattle.protocol.specs.Outcomes.{Outcome}
use Rattle.std.specs.Prelude.{Err, Ok}
use Rattle.protocol.specs.Record.{most_nodes, record_size, State, words}
use Rattle.protocol.specs.Fresh.{fresh}
use Rattle.protocol.specs.Step.{Result, refused, step}
use Rattle.protocol.specs.Step.{accepted as went}
use Rattle.protocol.specs.Calls.{Called, long, on_record, written, turned_down, step_call, fresh_by_call}
use Rattle.layout.specs.Words.{read_words, drop_words}
use Rattle.layout.specs.Form.{Form, well_formed_words, long_words}
use Rattle.layout.specs.Questions.{fresh_cases}
use Rattle.layout.specs.Asks.{Leaves, leaves_form}
use Rattle.atomicity.specs.Preserved.{step_form}
use Rattle.atomicity.specs.Demand3.{Call, Engine, present, called}

answered_is : Outcome → Type 0
answered_is (Err k) = ⊥
answered_is (Ok a) = Unit {0}

pub refused_answered : {k : Refusal} {a : Answer} → Err k ≡ Ok a → ⊥
unfolding answered_is
refused_answered e = subst answered_is (sym e) tt

-- What a step's result leaves in words, and what holds of its state.
abbrev pub left : (State → List ℕ → List ℕ) → List ℕ → List ℕ → Result → Called
left put w tail (refused k) = turned_down w k
left put w tail (went a s) = record { outcome = Ok a; slice = put s tail }

abbrev pub On : (State → Type 0) → Result → Type 0
On P (refused k) = Unit {0}
On P (went a s) = P s

-- What a fresh call has accepted, and what it wrote.
pub record Begun (put : State → List ℕ → List ℕ) (ids : List ℕ) (founder : ℕ) (w : List ℕ) : Type 0 where
  pub below : founder < length ids
  pub few : length ids ≤ most_nodes
  pub differ : T (distinct ids)
  pub tail : List ℕ
  pub is : w ≡ put (fresh ids founder) tail

pub record Laws (engine : Engine) : Type 1 where
  pub Fits : State → Type 0
  pub put : State → List ℕ → List ℕ
  pub form : (s : State) → Fits s → Form s
  pub reads : (s : State) (tail : List ℕ) → Fits s → engine.reads (put s tail) ≡ s
  pub calls : (s : State) (tail : List ℕ) (c : Call) → Fits s
      → called engine (put s tail) c ≡ left put (put s tail) tail (step s c.operation c.x c.y)
  pub keeps : (s : State) → Fits s → (operation x y : ℕ) → On Fits (step s operation x y)
  pub begins : (slice ids : List ℕ) (founder : ℕ) → (engine.founds slice ids founder).outcome ≡ Ok Quiet
      → Begun put ids founder (engine.founds slice ids founder).slice
  pub starts : (ids : List ℕ) (founder : ℕ) → Form (fresh ids founder) → Fits (fresh ids founder)

-- On the words of a well-formed state a call is the step of that state.
pub call_is : (s : State) (tail : List ℕ) (c : Call) → Form s
    → called present (words s ++ tail) c ≡ written (words s ++ tail) (step s c.operation c.x c.y)
unfolding step_call on_record long
call_is s tail c f =
    granted (λ z. z ≡ written w r) _ _ _ (le→leb _ _ (long_words s tail f))
    (granted (λ z. z ≡ written w r) _ _ _ (well_formed_words s tail f)
    (ap (λ z. written w (step z c.operation c.x c.y)) (read_words s tail f.few)))
  where
    w : List ℕ
    w = words s ++ tail

    r : Result
    r = step s c.operation c.x c.y

pub written_left : (s : State) (tail : List ℕ) → Form s → (r : Result) → written (words s ++ tail) r ≡ left (λ z t. words z ++ t) (words s ++ tail) tail r
unfolding written
written_left s tail f (refused k) = refl
written_left s tail f (went a s') = ap (λ t. record { outcome = Ok a; slice = words s' ++ t }) (drop_words s tail f.few f.short)

pub leaves_on : (r : Result) → Leaves r → On Form r
leaves_on (refused k) l = tt
leaves_on (went a s) l = leaves_form a s l

pub present_begins : (slice ids : List ℕ) (founder : ℕ) → (fresh_by_call slice ids founder).outcome ≡ Ok Quiet
    → Begun (λ s tail. words s ++ tail) ids founder (fresh_by_call slice ids founder).slice
unfolding written
present_begins slice ids founder =
    fresh_cases slice ids founder (λ z. z.outcome ≡ Ok Quiet → Begun (λ s tail. words s ++ tail) ids founder z.slice)
    (λ k m e. absurd (refused_answered e))
    (λ a e. record { below = a.below; few = a.few; differ = a.differ; tail = drop record_size slice; is = refl })

abbrev pub present_laws : Laws present
present_laws = record {
  Fits = Form;
  put = λ s tail. words s ++ tail;
  form = λ s f. f;
  reads = λ s tail f. read_words s tail f.few;
  calls = λ s tail c f. call_is s tail c f ∙ written_left s tail f (step s c.operation c.x c.y);
  keeps = λ s f operation x y. leaves_on (step s operation x y) (step_form s f operation x y);
  begins = present_begins;
  starts = λ ids founder f. f;
}
