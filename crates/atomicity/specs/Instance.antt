-- The premises of demand 3 can be met, of the calls on words and of the C calls: the ring of the identifiers 200 and 100, in any slice or
-- bytes that are long enough, whichever of the two hubs is named as the founder; and where none is named, hub 1 is it. Assumes nothing.
use Rattle.std.specs.Prelude.{◌≡◌, refl, List, [], ◌∷◌, ℕ, ◌≤◌, T, nat_lt, length, replicate}
use Rattle.std.proofs.Math.Path.{ap}
use native.Mathlib.Omega.{arith}
use Rattle.lists.specs.Basics.{when◌then◌else◌, require, every, first, distinct, All}
use Rattle.lists.specs.Choice.{tested, granted}
use Rattle.protocol.specs.Record.{record_size}
use Rattle.protocol.specs.Fresh.{smallest}
use Rattle.protocol.specs.WellFormed.{well_formed}
use Rattle.protocol.specs.Calls.{Called, long, on_record, fresh_call, fresh_by_call}
use Rattle.protocol.specs.Answers.{refusal}
use Rattle.protocol.specs.Batch.{fitting, on_batch}
use Rattle.protocol.specs.Bytes.{Byte, words_of, FreshBytes, step_bytes, fresh_carried, fresh_bytes, fresh_by_bytes}
use Rattle.atomicity.specs.Demand3.{Call, ThreeWords, Event, present, called, history, record_after, from_fresh, Claims, Demand3}
use Rattle.atomicity.specs.Record.{fresh_gives}
use Rattle.atomicity.specs.Theorem.{demand_3}
use Rattle.atomicity.specs.Demand3C.{CCall, step, route, Passed, ask, step_of, steps_of, bytes_left, CDemand3}
use Rattle.atomicity.specs.TheoremC.{c_demand_3}

abbrev pub two : List ℕ
two = 200 ∷ 100 ∷ []

pub hub_1_founds : smallest two ≡ 1
unfolding smallest first every when◌then◌else◌
hub_1_founds = refl

-- What is claimed of the record that a fresh call left, after any list of calls.
abbrev pub Going : Called → ℕ → List Call → Type 0
Going begun founder calls = Claims present two founder (history present begun.slice calls) (record_after present begun.slice calls)

module _ (slice : List ℕ) (l : record_size ≤ length slice) (calls : List Call) (w : All ThreeWords calls) where
  pub two_hubs : (founder : ℕ) → T (nat_lt founder 2) → Going (fresh_by_call slice two founder) founder calls
  unfolding distinct every Demand3
  two_hubs founder below = demand_3 two founder _ _ (from_fresh (record {
    slice = slice;
    calls = calls;
    identifiers = (omega arith, (omega arith, tt));
    commands = w;
    accepted = ap (λ z. z.outcome) (fresh_gives slice two founder l below tt tt);
    happened = refl;
    is = refl;
  }))

  pub two_hubs_none_named : Going (fresh_call slice two) 1 calls
  unfolding smallest first every when◌then◌else◌
  two_hubs_none_named = two_hubs 1 tt

-- In C: the identifiers as bytes, and any list of calls with any outputs.
abbrev pub two_bytes : List ℕ
two_bytes = 200 ∷ 0 ∷ 0 ∷ 0 ∷ 100 ∷ 0 ∷ 0 ∷ 0 ∷ []

abbrev pub GoingBytes : FreshBytes → ℕ → List CCall → Type 0
GoingBytes begun founder calls = Claims present two founder (steps_of begun.bytes calls) (words_of (bytes_left begun.bytes calls))

module _ (lent : List ℕ) (bytes : All Byte lent) (l : record_size ≤ length (words_of lent)) (calls : List CCall) (w : All Passed calls) where
  pub two_hubs_in_c : (founder : ℕ) → T (nat_lt founder 2) → GoingBytes (fresh_by_bytes lent two_bytes founder) founder calls
  unfolding distinct every CDemand3 fresh_by_bytes fresh_carried words_of refusal
  two_hubs_in_c founder below = c_demand_3 two founder _ _ (record {
    lent = lent;
    identifiers = two_bytes;
    calls = calls;
    lent_bytes = bytes;
    identifier_bytes = (omega arith, (omega arith, (omega arith, (omega arith, (omega arith, (omega arith, (omega arith, (omega arith, tt))))))));
    commands = w;
    accepted = ap (λ z. refusal z.outcome) (fresh_gives (words_of lent) two founder l below tt tt);
    names = refl;
    happened = refl;
    is = refl;
  })

  pub two_hubs_in_c_none_named : GoingBytes (fresh_bytes lent two_bytes) 1 calls
  unfolding smallest first every when◌then◌else◌ words_of
  two_hubs_in_c_none_named = two_hubs_in_c 1 tt

-- A call with an output of 19 bytes makes no step and leaves the bytes; one with 20 bytes makes one.
pub with_19_bytes : (b : List ℕ) (c : Call) → (steps_of b (step c (replicate 19 0) ∷ []) ≡ []) × (bytes_left b (step c (replicate 19 0) ∷ []) ≡ b)
unfolding steps_of bytes_left step_bytes require when◌then◌else◌
with_19_bytes b c = (refl, refl)

pub with_20_bytes : (b : List ℕ) (c : Call) → steps_of b (step c (replicate 20 0) ∷ []) ≡ record { call = c; outcome = (called present (words_of b) c).outcome } ∷ []
unfolding steps_of require when◌then◌else◌
with_20_bytes b c = refl

-- A route of one number with 23 bytes for its outcome asks nothing, whatever the record is; with 24 it asks, where the record passes 1 and 2.
abbrev seven : List ℕ
seven = 7 ∷ 0 ∷ 0 ∷ 0 ∷ []

no_place_lem : (e : List Event) → fitting (words_of seven) (words_of (replicate 23 0)) (λ k. []) e ≡ []
unfolding fitting words_of require when◌then◌else◌
no_place_lem e = refl

a_place : (e : List Event) → fitting (words_of seven) (words_of (replicate 24 0)) (λ k. []) e ≡ e
unfolding fitting words_of require when◌then◌else◌
a_place e = refl

pub with_23_bytes : (b : List ℕ) (hub : ℕ) → step_of b (route hub seven (replicate 23 0)) ≡ []
unfolding on_batch on_record
with_23_bytes b hub = tested (λ e. e ≡ []) _ _ _ refl (λ _. tested (λ e. e ≡ []) _ _ _ refl (λ _. no_place_lem _))

pub with_24_bytes : (b : List ℕ) → T (long (words_of b)) → T (well_formed (words_of b)) → (hub : ℕ)
    → step_of b (route hub seven (replicate 24 0)) ≡ record { call = ask hub 7; outcome = (called present (words_of b) (ask hub 7)).outcome } ∷ []
unfolding on_batch on_record history words_of
with_24_bytes b l f hub =
    granted (λ e. e ≡ record { call = ask hub 7; outcome = (called present (words_of b) (ask hub 7)).outcome } ∷ []) _ _ _ l
    (granted (λ e. e ≡ record { call = ask hub 7; outcome = (called present (words_of b) (ask hub 7)).outcome } ∷ []) _ _ _ f (a_place _))
