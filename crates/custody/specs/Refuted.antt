-- Each claim about cards can be false: for each of them events and slices that it rules out. None of these can be reached; a claim that was weakened
-- would no longer rule out its case, and the case's proof would fail (tests/mutants tries that). The ring has the identifiers 100 and 200, hub 0
-- founded it, and nothing has happened unless a case says so. Assumes nothing.
use Rattle.std.specs.Prelude.{◌≡◌, refl, List, [], ◌∷◌, ◌++◌, ℕ, nat_le, length, replicate}
use Rattle.std.proofs.Common.{sym, ap, subst, inl, arith}
use Rattle.lists.specs.Basics.{when◌then◌else◌, require, table, Mem}
use Rattle.lists.specs.Choice.{on_no, tested}
use Rattle.protocol.specs.declared.Message.{Message}
use Rattle.protocol.specs.declared.Answer.TheVariants.{Quiet}
use Rattle.std.specs.Prelude.{Err, Ok}
use Rattle.protocol.specs.declared.refusal.Refusal.{Refusal}
use Rattle.protocol.specs.declared.refusal.Refusal.TheVariants.{NoHub, NotWellFormed, RecordShort}
use Rattle.protocol.specs.Record.{State, outside, words}
use Rattle.protocol.specs.Fresh.{alone}
use Rattle.protocol.specs.Kinds.{question}
use Rattle.protocol.specs.Calls.{long, on_record, owner_call, step_call}
use Rattle.protocol.specs.Answers.{refusal}
use Rattle.protocol.specs.Batch.{fitting}
use Rattle.protocol.specs.Membership.{nearer, owner_among, mark}
use Rattle.protocol.specs.Cards.{book_size, hub_of, read_book, CardsCalled, unchanged, both_long, on_both, step_cards}
use Rattle.layout.specs.Words.{read_words}
use Rattle.atomicity.specs.Demand3.{Call, Event, history, record_after, members_after}
use Rattle.atomicity.specs.Demand3C.{ask}
use Rattle.custody.specs.Custody.{Offer, Route, CardEvent, step, offer, route, steps, step_events, put, prices_after, CardClaims}

abbrev two : List ℕ
two = 100 ∷ 200 ∷ []

-- A card slice: the first two marks, and the words of the cards.
abbrev slice : ℕ → ℕ → ℕ → List ℕ → List ℕ
slice count first second cards = count ∷ first ∷ second ∷ (replicate 62 0 ++ cards)

abbrev founded : List ℕ → Type 0
founded k = CardClaims two 0 [] [] [] [] k

-- (a) Hub 1 is marked, and has not entered; or nobody is.
pub stranger_marked : founded (slice 0 1 1 []) → ⊥
unfolding mark members_after step_events when◌then◌else◌
stranger_marked c = let e = c.members 1 (omega arith) in omega (arith, e)

pub founder_not_marked : founded (slice 0 0 0 []) → ⊥
unfolding mark members_after step_events when◌then◌else◌
founder_not_marked c = let e = c.members 0 (omega arith) in omega (arith, e)

-- (b) Of two cards the second is with hub 1, which has not entered.
pub with_a_stranger : founded (slice 2 1 0 (7 ∷ 1 ∷ 50 ∷ 0 ∷ 8 ∷ 1 ∷ 50 ∷ 1 ∷ [])) → ⊥
unfolding owner_among nearer members_after step_events hub_of
with_a_stranger c = let e = ap hub_of (c.held 1 (omega arith)) in omega (arith, e)

-- (c) A card that nobody offered; one that was offered, accepted, and is lost; one that is kept with another price; and one that is kept twice.
abbrev offered : CardEvent
offered = record { call = offer (record { machine = 7; revision = 1; price = 50 }); outcome = Ok Quiet }

abbrev once : List ℕ → Type 0
once k = CardClaims two 0 [] [] (offered ∷ []) [] k

pub card_invented : founded (slice 1 1 0 (7 ∷ 1 ∷ 50 ∷ 0 ∷ [])) → ⊥
unfolding read_book table prices_after
card_invented c = let e = ap length c.prices in omega (arith, e)

pub card_lost : once (slice 0 1 0 []) → ⊥
unfolding read_book table prices_after put
card_lost c = let e = ap length c.prices in omega (arith, e)

pub price_changed : once (slice 1 1 0 (7 ∷ 1 ∷ 60 ∷ 0 ∷ [])) → ⊥
unfolding read_book table prices_after put
price_changed c = let e = ap first_price c.prices in omega (arith, e)
  where
    first_price : List Offer → ℕ
    first_price = elim [ [] ↦ 0 | x ∷ l ↦ x.price ]

pub card_doubled : once (slice 2 1 0 (7 ∷ 1 ∷ 50 ∷ 0 ∷ 7 ∷ 1 ∷ 50 ∷ 0 ∷ [])) → ⊥
unfolding read_book table prices_after put
card_doubled c = let e = ap length c.prices in omega (arith, e)

-- (d) Slices that the next call refuses by 1.
code : CardsCalled → ℕ
code z = refusal z.outcome

pub slices_too_short : founded [] → ⊥
unfolding code on_both both_long long refusal require when◌then◌else◌
slices_too_short c = let e = ap code (c.ready (unchanged [] [] NoHub)) in omega (arith, e)

-- (e) A step that is refused by 2 with cards, and by 1 without them (the record is empty).
abbrev leaving : Call
leaving = record { operation = 2; x = 0; y = 0 }

number : List Event → ℕ
number [] = 0
number (e ∷ events) = refusal e.outcome

pub refused_by_the_cards : CardClaims two 0 [] (leaving ∷ []) (record { call = step leaving; outcome = Err NotWellFormed } ∷ []) [] [] → ⊥
unfolding step_events history number refusal step_call on_record long require when◌then◌else◌
refused_by_the_cards c = let e = ap number c.outcomes in omega (arith, e)

-- A route whose question was refused by 2, where asking is refused by 1; one whose question is missing; and one with too few places for its number,
-- whose question was asked all the same.
abbrev one_place : Route
one_place = record { hub = 0; numbers = 7 ∷ []; out = replicate 6 0 }

abbrev no_place : Route
no_place = record { hub = 0; numbers = 7 ∷ []; out = replicate 5 0 }

abbrev routed : Route → List CardEvent → Type 0
routed r events = CardClaims two 0 [] (steps (route r ∷ [])) (record { call = route r; outcome = Ok Quiet } ∷ events) [] []

abbrev asked : Refusal → List CardEvent
asked k = record { call = step (ask 0 7); outcome = Err k } ∷ []

pub route_differs_from_asking : routed one_place (asked NotWellFormed) → ⊥
unfolding steps fitting step_events history number refusal step_call on_record long require when◌then◌else◌
route_differs_from_asking c = let e = ap number c.outcomes in omega (arith, e)

pub question_not_asked : routed one_place [] → ⊥
unfolding steps fitting step_events history require when◌then◌else◌
question_not_asked c = let e = ap length c.outcomes in omega (arith, e)

pub asked_without_a_place : routed no_place (asked RecordShort) → ⊥
unfolding steps fitting step_events history require when◌then◌else◌
asked_without_a_place c = let e = ap length c.outcomes in omega (arith, e)

-- A record that is not the one without cards.
pub record_differs : CardClaims two 0 [] [] [] (1 ∷ []) [] → ⊥
unfolding record_after
record_differs c = let e = ap length c.same in omega (arith, e)

-- (f) A question waits from hub 0 to itself, and with cards its delivery is refused: there is no slice for them.
abbrev waits : Message
waits = question 0 0 150 0 0

abbrev ring : State
ring = record { rows = alone 0 100 ∷ outside 200 ∷ []; messages = waits ∷ []; asked = 1 }

pub delivery_refused : CardClaims two 0 [] [] [] (words ring ++ []) [] → ⊥
unfolding step_cards on_both both_long
delivery_refused c =
    c.next waits (subst (λ z. Mem waits z.messages) (sym (read_words ring [] (omega arith))) (inl refl)) RecordShort
    (tested (λ (z : CardsCalled). z.outcome ≡ Err RecordShort) _ _ _ refl (λ _. ap (λ (z : CardsCalled). z.outcome) (on_no (nat_le book_size (length {A = ℕ} [])) _ _ refl)))

-- (g) A record that is cut short, so that nothing waits in it, and the owner query is refused.
pub not_at_rest : founded [] → ⊥
unfolding owner_call on_record long refusal require when◌then◌else◌
not_at_rest c = omega (arith, ap refusal ((c.at_rest refl).owner 150 (omega arith)).call)
