-- Each claim of demand 3 can be false: for each of them rings, events and records that it rules out. None of these can be reached; a claim
-- that was weakened would no longer rule out its case, and the case's proof would fail (tests/mutants tries that). Assumes nothing.
use Rattle.std.specs.Prelude.{◌≡◌, refl, true, List, [], ◌∷◌, ◌++◌, ℕ, T}
use Rattle.std.proofs.Common.{sym, ap, subst, inl, arith}
use Rattle.clockwise.specs.Clockwise.{dist, within}
use Rattle.lists.specs.Basics.{when◌then◌else◌, require, every, distinct, first, table, Mem}
use Rattle.lists.specs.Members.{ind_same}
use Rattle.protocol.specs.declared.Row.{Row}
use Rattle.protocol.specs.declared.Message.{Message}
use Rattle.protocol.specs.declared.Answer.TheVariants.{Quiet, Found, Entered}
use Rattle.protocol.specs.Outcomes.{Outcome}
use Rattle.std.specs.Prelude.{Err, Ok}
use Rattle.protocol.specs.declared.refusal.Refusal.TheVariants.{RecordShort, NotExpected}
use Rattle.protocol.specs.Record.{State, outside, read, words}
use Rattle.protocol.specs.Fresh.{alone}
use Rattle.protocol.specs.Routing.{in_ring, responsible, covers}
use Rattle.protocol.specs.Kinds.{question, lookup, handle}
use Rattle.protocol.specs.WellFormed.{pointers_ok, lock_ok, flag_ok, row_ok, names_node, a_ok, b_ok, hops_ok, message_ok, formed}
use Rattle.protocol.specs.Step.{conclude, on_link, delivered, deliver, step}
use Rattle.protocol.specs.Calls.{written, step_call, on_record, long}
use Rattle.protocol.specs.Membership.{Owner, nobody, node, nearer, owner_among, after_outcome, holds, waiting, ticket_of, accepted_ask}
use Rattle.layout.specs.Words.{read_words}
use Rattle.layout.specs.Form.{tested_form}
use Rattle.atomicity.specs.Demand3.{Event, present, called, members_after, questions_accepted, found_tickets, Claims}
use Rattle.atomicity.specs.Engines.{call_is}

-- Two hubs with the identifiers 100 and 200, of which hub 0 founds the ring.
abbrev pub two : List ℕ
two = 100 ∷ 200 ∷ []

abbrev pub ring : Row → Row → List Message → List ℕ
ring h g messages = words (record { rows = h ∷ g ∷ []; messages = messages; asked = 1 }) ++ []

pub same : (h g : Row) (messages : List Message) → read (ring h g messages) ≡ record { rows = h ∷ g ∷ []; messages = messages; asked = 1 }
same h g messages = read_words (record { rows = h ∷ g ∷ []; messages = messages; asked = 1 }) [] (omega arith)

-- An event: an ask at hub 0 for 150, or a delivery from hub 1 to hub 0, with what it gave.
abbrev asked : Outcome → Event
asked o = record { call = record { operation = 0; x = 0; y = 150 }; outcome = o }

abbrev arrived : Outcome → Event
arrived o = record { call = record { operation = 3; x = 1; y = 0 }; outcome = o }

hub_of_lem : Owner → ℕ
hub_of_lem nobody = 2
hub_of_lem (node hub) = hub

-- (a) Both hubs are alone in a ring of their own, and each holds every number.
pub two_holders : Claims present two 0 [] (ring (alone 0 100) (alone 1 200) []) → ⊥
unfolding holds responsible covers within dist
two_holders claims = let e = claims.single 150 0 1 (omega arith) (holding 0 refl) (holding 1 refl) in omega (arith, e)
  where
    s : State
    s = record { rows = alone 0 100 ∷ alone 1 200 ∷ []; messages = []; asked = 1 }

    holding : (hub : ℕ) → holds s hub 150 ≡ true → holds (read (ring (alone 0 100) (alone 1 200) [])) hub 150 ≡ true
    holding hub e = subst (λ z. holds z hub 150 ≡ true) (sym (same (alone 0 100) (alone 1 200) [])) e

-- Hub 1 holds every number, and was never taken in: the ledger starts with the founder, hub 0, alone.
pub holder_no_member : Claims present two 0 [] (ring (outside 100) (alone 1 200) []) → ⊥
unfolding holds responsible covers within dist owner_among nearer members_after hub_of_lem
holder_no_member claims =
    let e = claims.owner 150 1 (omega arith) (subst (λ z. holds z 1 150 ≡ true) (sym (same (outside 100) (alone 1 200) [])) refl) in
    omega (arith, ap hub_of_lem e)

-- (b) Hub 1 answers before it is taken in: the ledger at that call has hub 0 alone, though the ledger after the list has hub 1 too.
pub answered_too_early : (w : List ℕ) → Claims present two 0 (asked (Ok Quiet) ∷ arrived (Ok (Found 1 150 0 1)) ∷ arrived (Ok (Entered 1)) ∷ []) w → ⊥
unfolding owner_among nearer members_after after_outcome hub_of_lem
answered_too_early w claims =
    let e = claims.found (asked (Ok Quiet) ∷ []) (arrived (Ok (Found 1 150 0 1))) (arrived (Ok (Entered 1)) ∷ []) refl 1 150 0 1 refl in
    omega (arith, ap hub_of_lem e)

-- (c) A question was accepted, and neither answered nor does it wait.
pub question_lost : Claims present two 0 (asked (Ok Quiet) ∷ []) (ring (alone 0 100) (outside 200) []) → ⊥
unfolding questions_accepted found_tickets accepted_ask ticket_of waiting when◌then◌else◌
question_lost claims = omega (arith, claims.questions, ap (λ z. waiting z.messages) (same (alone 0 100) (outside 200) []))

-- A question was answered that nobody asked.
pub question_invented : Claims present two 0 (arrived (Ok (Found 0 150 0 1)) ∷ []) (ring (alone 0 100) (outside 200) []) → ⊥
unfolding questions_accepted found_tickets accepted_ask ticket_of waiting when◌then◌else◌
question_invented claims = omega (arith, claims.questions, ap (λ z. waiting z.messages) (same (alone 0 100) (outside 200) []))

-- (d) The question with ticket 7 was answered twice.
pub answered_twice : (w : List ℕ) → Claims present two 0 (arrived (Ok (Found 0 150 7 1)) ∷ arrived (Ok (Found 0 150 7 2)) ∷ []) w → ⊥
unfolding found_tickets ticket_of
answered_twice w claims = omega (arith, claims.once 7, ind_same 7)

-- (e) A question waits at hub 1, which is outside: the record is well formed, and the delivery is refused.
abbrev stranded : State
stranded = record { rows = alone 0 100 ∷ outside 200 ∷ []; messages = question 0 1 150 0 0 ∷ []; asked = 1 }

well_formed_lem : T (formed stranded)
unfolding formed distinct every row_ok pointers_ok lock_ok flag_ok message_ok names_node a_ok b_ok hops_ok when◌then◌else◌
well_formed_lem = tt

refuses : (called present (words stranded ++ []) (record { operation = 3; x = 0; y = 1 })).outcome ≡ Err NotExpected
unfolding written step deliver delivered on_link first handle lookup in_ring conclude require when◌then◌else◌
refuses =
    ap (λ z. z.outcome) (call_is stranded [] (record { operation = 3; x = 0; y = 1 }) (tested_form stranded (omega arith) (omega arith) (omega arith) well_formed_lem))

pub question_stranded : (events : List Event) → Claims present two 0 events (words stranded ++ []) → ⊥
question_stranded events claims =
    claims.next (question 0 1 150 0 0)
    (subst (λ z. Mem (question 0 1 150 0 0) z.messages) (sym (read_words stranded [] (omega arith))) (inl refl)) NotExpected refuses

-- One message waits in a record that is cut short: every call is refused.
pub record_cut : (events : List Event) → Claims present two 0 events (1 ∷ 1 ∷ 1 ∷ 0 ∷ []) → ⊥
unfolding read table step_call on_record long require when◌then◌else◌
record_cut events claims = claims.next (record { kind = 0; from = 0; to = 0; a = 0; b = 0; hops = 0 }) (inl refl) RecordShort refl
