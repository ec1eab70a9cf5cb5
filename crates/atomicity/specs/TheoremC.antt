-- DEMAND 3 of the C calls, proved: the words that the bytes carry go through the steps of the calls that made one. Assumes nothing.
use Rattle.std.specs.Prelude.{◌≡◌, Bool, ℕ, nat_le, length}
use Rattle.std.proofs.Math.Path.{refl}
use Rattle.std.proofs.Common.{sym, ◌∙◌, ap, subst, arith}
use Rattle.std.proofs.Math.Bool.{true, false}
use mathlib.Core.List.{List, [], ◌∷◌, ◌++◌, map, append_assoc, append-nil}
use Rattle.lists.specs.Basics.{when◌then◌else◌, require, All}
use Rattle.lists.specs.Choice.{tested}
use Rattle.lists.specs.Members.{all_append}
use Rattle.protocol.specs.declared.Answer.TheVariants.{Quiet}
use Rattle.std.specs.Prelude.{Ok}
use Rattle.protocol.specs.declared.refusal.Refusal.{Refusal}
use Rattle.protocol.specs.declared.refusal.Refusal.TheVariants.{RecordShort, NotWellFormed, OutputShort}
use Rattle.protocol.specs.Record.{read}
use Rattle.protocol.specs.WellFormed.{well_formed}
use Rattle.protocol.specs.Step as meaning
use Rattle.protocol.specs.Step.{Result, refused, accepted}
use Rattle.protocol.specs.Calls.{Called, long, on_record, turned_down, written, step_call, fresh_by_call}
use Rattle.protocol.specs.Refusals.{number_of}
use Rattle.protocol.specs.Answers.{refusal}
use Rattle.protocol.specs.Bytes.{Byte, words_of, over, bytes_after, carried, step_bytes, fresh_carried, fresh_by_bytes}
use Rattle.protocol.specs.Batch.{ask_each, unasked, batch_written, batch_call, batch_carried, batch_bytes}
use Rattle.layout.specs.Bytes.{words_below, written_read}
use Rattle.layout.specs.Questions.{above_0, fresh_cases, batch_both}
use Rattle.atomicity.specs.Demand3.{Call, ThreeWords, Event, Word, present, called, history, record_after, Founded, Reached, from_fresh, Demand3}
use Rattle.atomicity.specs.Record.{step_sound, fresh_sound}
use Rattle.atomicity.specs.Theorem.{demand_3}
use Rattle.atomicity.specs.Small.{reached_words}
use Rattle.atomicity.specs.Demand3C.{CCall, step, route, Passed, called_bytes, ask, step_of, steps_of, bytes_left, FoundedBytes, CDemand3}

-- Some calls behind others.
pub history_append : (w : List ℕ) (a b : List Call) → history present w (a ++ b) ≡ history present w a ++ history present (record_after present w a) b
unfolding history record_after
history_append w [] b = refl
history_append w (c ∷ a) b = ap (λ l. record { call = c; outcome = (called present w c).outcome } ∷ l) (history_append (called present w c).slice a b)

pub record_append : (w : List ℕ) (a b : List Call) → record_after present w (a ++ b) ≡ record_after present (record_after present w a) b
unfolding record_after
record_append w [] b = refl
record_append w (c ∷ a) b = record_append (called present w c).slice a b

-- Some calls more on a record that was reached.
pub some_more : {ids : List ℕ} {founder : ℕ} {events : List Event} {w : List ℕ} → Founded present ids founder events w → (calls : List Call) → All ThreeWords calls
    → Founded present ids founder (events ++ history present w calls) (record_after present w calls)
some_more {ids} {founder} {events} {w} r calls t = record {
  slice = r.slice;
  calls = r.calls ++ calls;
  identifiers = r.identifiers;
  commands = all_append ThreeWords r.calls calls r.commands t;
  accepted = r.accepted;
  happened =
      ap (λ l. l ++ history present w calls) r.happened
      ∙ ap (λ z. history present (fresh_by_call r.slice ids founder).slice r.calls ++ history present z calls) r.is
      ∙ sym (history_append (fresh_by_call r.slice ids founder).slice r.calls calls);
  is = ap (λ z. record_after present z calls) r.is ∙ sym (record_append (fresh_by_call r.slice ids founder).slice r.calls calls);
}

-- Calls leave the record as long as it was.
same_size : (w : List ℕ) (calls : List Call) → length (record_after present w calls) ≡ length w
unfolding record_after
same_size w [] = refl
same_size w (c ∷ calls) = same_size (called present w c).slice calls ∙ (step_sound w c.operation c.x c.y).0.size

-- What the questions of a route leave is the record after the steps that ask them.
pub asked_record : (w : List ℕ) (hub : ℕ) (numbers : List ℕ) → (ask_each w hub numbers).slice ≡ record_after present w (map (ask hub) numbers)
unfolding ask_each record_after
asked_record w hub [] = refl
asked_record w hub (v ∷ numbers) = asked_record (step_call w 0 hub v).slice hub numbers

-- The numbers of these steps have 32 bits.
pub asks_words : (hub : ℕ) → Word hub → (numbers : List ℕ) → All Word numbers → All ThreeWords (map (ask hub) numbers)
asks_words hub h [] a = tt
asks_words hub h (v ∷ numbers) a = (record { operation = omega arith; x = h; y = a.0 }, asks_words hub h numbers a.1)

-- What a call on the words leaves is what is read from the bytes that it leaves.
module _ (b : List ℕ) where
  Back : Called → Type 0
  Back z = All Word z.slice → length z.slice ≡ length (words_of b) → words_of (bytes_after b z.slice z.outcome) ≡ z.slice

  turned_back : (k : Refusal) → Back (turned_down (words_of b) k)
  unfolding Back bytes_after
  turned_back k w l = refl

  written_back : (r : Result) → Back (written (words_of b) r)
  unfolding Back written bytes_after
  written_back (refused k) w l = refl
  written_back (accepted a s) w l = written_read b _ w l

  step_back : (operation x y : ℕ) → Back (step_call (words_of b) operation x y)
  unfolding step_call on_record
  step_back operation x y =
      tested Back (long (words_of b)) _ _ (turned_back RecordShort)
      (λ l. tested Back (well_formed (words_of b)) _ _ (turned_back NotWellFormed) (λ f. written_back (meaning.step (read (words_of b)) operation x y)))

  fresh_back : (ids : List ℕ) (founder : ℕ) → Back (fresh_by_call (words_of b) ids founder)
  fresh_back ids founder = fresh_cases (words_of b) ids founder Back (λ k m. turned_back k) (λ a. written_back (accepted Quiet _))

-- A record that was reached in a slice of 32-bit words; and bytes that carry one.
abbrev Reach : List ℕ → ℕ → List Event → List ℕ → Type 0
Reach ids founder events w = (r : Founded present ids founder events w) × All Word r.slice

abbrev At : List ℕ → ℕ → List Event → List ℕ → Type 0
At ids founder events bytes = Reach ids founder events (words_of bytes)

-- A call that makes a step.
abbrev event : List ℕ → Call → Event
event b c = record { call = c; outcome = (called present (words_of b) c).outcome }

steps_on : (ids : List ℕ) (founder : ℕ) (events : List Event) (b : List ℕ) → At ids founder events b → (c : Call) → ThreeWords c
    → At ids founder (events ++ (event b c ∷ [])) (bytes_after b (called present (words_of b) c).slice (called present (words_of b) c).outcome)
unfolding Back some_more history record_after
steps_on ids founder events b r c t =
    let next = some_more r.0 (c ∷ []) (t, tt) in
    subst (Reach ids founder (events ++ (event b c ∷ [])))
    (sym (step_back b c.operation c.x c.y (reached_words next r.1) (step_sound (words_of b) c.operation c.x c.y).0.size))
    (next, r.1)

-- A call that asks a route's numbers.
asks_on : (ids : List ℕ) (founder : ℕ) (events : List Event) (b : List ℕ) → At ids founder events b → (hub : ℕ) (numbers : List ℕ) → Word hub → All Word numbers
    → At ids founder (events ++ history present (words_of b) (map (ask hub) numbers)) (over b (ask_each (words_of b) hub numbers).slice)
unfolding some_more
asks_on ids founder events b r hub numbers h a =
    let asks = map (ask hub) numbers in
    let next = some_more r.0 asks (asks_words hub h numbers a) in
    let left = record_after present (words_of b) asks in
    subst (λ z. At ids founder (events ++ history present (words_of b) asks) (over b z)) (sym (asked_record (words_of b) hub numbers))
    (subst (Reach ids founder (events ++ history present (words_of b) asks))
    (sym (written_read b left (reached_words next r.1) (same_size (words_of b) asks)))
    (next, r.1))

-- Every call, by what it asks first.
module _ (ids : List ℕ) (founder : ℕ) (events : List Event) (b : List ℕ) (r : At ids founder events b) where
  none : At ids founder (events ++ []) b
  none = subst (λ l. At ids founder l b) (sym (append-nil events)) r

  one_call : (c : CCall) → Passed c → At ids founder (events ++ step_of b c) (called_bytes b c).bytes
  unfolding step_bytes carried batch_bytes batch_carried batch_call batch_written require when◌then◌else◌ bytes_after
  one_call (step c out) t = go (nat_le 20 (length out))
    where
      go : (z : Bool) → At ids founder (events ++ require z [] (event b c ∷ [])) (require z (record { code = number_of OutputShort; bytes = b; output = out }) (carried b out (called present (words_of b) c))).bytes
      go true = steps_on ids founder events b r c t
      go false = none
  one_call (route hub numbers out) t =
      batch_both (λ z e. At ids founder (events ++ e) (batch_carried b out z).bytes) (words_of b) (words_of numbers) (words_of out) (unasked (words_of b) (words_of out)) (λ k. [])
      (batch_written (words_of numbers) (words_of out) (ask_each (words_of b) hub (words_of numbers))) (history present (words_of b) (map (ask hub) (words_of numbers)))
      (λ k. none) (λ l. asks_on ids founder events b r hub (words_of numbers) t.0 (words_below numbers t.1))

-- Every list of calls.
every_call : (ids : List ℕ) (founder : ℕ) (events : List Event) (b : List ℕ) → At ids founder events b → (calls : List CCall) → All Passed calls
    → At ids founder (events ++ steps_of b calls) (bytes_left b calls)
unfolding steps_of bytes_left
every_call ids founder events b r [] t = subst (λ l. At ids founder l b) (sym (append-nil events)) r
every_call ids founder events b r (c ∷ calls) t =
    subst (λ l. At ids founder l (bytes_left (called_bytes b c).bytes calls)) (append_assoc events (step_of b c) (steps_of (called_bytes b c).bytes calls))
    (every_call ids founder (events ++ step_of b c) (called_bytes b c).bytes (one_call ids founder events b r c t.0) calls t.1)

-- A fresh call that returns 0 was accepted.
fresh_zero : (w ids : List ℕ) (founder : ℕ) → refusal (fresh_by_call w ids founder).outcome ≡ 0 → (fresh_by_call w ids founder).outcome ≡ Ok Quiet
unfolding refusal written
fresh_zero w ids founder =
    fresh_cases w ids founder (λ z. refusal z.outcome ≡ 0 → z.outcome ≡ Ok Quiet) (λ k m e. absurd (omega (arith, e, above_0 k))) (λ a e. refl)

begins : (lent ids : List ℕ) (founder : ℕ) → All Byte lent → All Word ids → refusal (fresh_by_call (words_of lent) ids founder).outcome ≡ 0
    → At ids founder [] (bytes_after lent (fresh_by_call (words_of lent) ids founder).slice (fresh_by_call (words_of lent) ids founder).outcome)
unfolding Back history record_after
begins lent ids founder bytes small zero =
    subst (Reach ids founder [])
    (sym (fresh_back lent ids founder (reached_words founded (words_below lent bytes)) (fresh_sound (words_of lent) ids founder).0.size))
    (founded, words_below lent bytes)
  where
    founded : Founded present ids founder [] (fresh_by_call (words_of lent) ids founder).slice
    founded = record {
      slice = words_of lent;
      calls = [];
      identifiers = small;
      commands = tt;
      accepted = fresh_zero (words_of lent) ids founder zero;
      happened = refl;
      is = refl;
    }

-- So the record that such bytes carry is one that calls on words reached.
pub c_reached : {ids : List ℕ} {founder : ℕ} {events : List Event} {bytes : List ℕ} → FoundedBytes ids founder events bytes → Reached ids founder events (words_of bytes)
unfolding fresh_by_bytes fresh_carried
c_reached {ids} {founder} {events} {bytes} r =
    subst (λ l. Reached ids founder l (words_of bytes)) (sym r.happened)
    (subst (λ b. Reached ids founder (steps_of first r.calls) (words_of b)) (sym r.is) (from_fresh all.0))
  where
    first : List ℕ
    first = (fresh_by_bytes r.lent r.identifiers founder).bytes

    start : At ids founder [] first
    start =
        subst (λ i. At i founder [] first) (sym r.names)
        (begins r.lent (words_of r.identifiers) founder r.lent_bytes (words_below r.identifiers r.identifier_bytes) r.accepted)

    all : At ids founder (steps_of first r.calls) (bytes_left first r.calls)
    all = every_call ids founder [] first start r.calls r.commands

pub c_demand_3 : CDemand3
unfolding CDemand3 Demand3
c_demand_3 ids founder events bytes r = demand_3 ids founder events (words_of bytes) (c_reached r)
