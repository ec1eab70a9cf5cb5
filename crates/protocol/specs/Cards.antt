-- Document 02, 2026-04, 'Price cards travel with the holder': the book of members and cards, the 2,113 words that stand for it and the way back,
-- when it is well formed beside a record, and what each call that lends both slices gives, for every two lists of words.
use Rattle.std.specs.Prelude.{Bool, ◌&&◌, List, [], ◌∷◌, ◌++◌, map, ℕ, suc, ◌+◌, ◌-◌, ◌*◌, nat_le, nat_lt, nat_eq, length, get_or, set, take, drop, replicate}
use Rattle.lists.specs.Basics.{when◌then◌else◌, require, every, distinct, first, table, flat}
use Rattle.protocol.specs.declared.Card.{Card}
use Rattle.protocol.specs.declared.Answer.{Answer}
use Rattle.protocol.specs.declared.Answer.TheVariants.{Quiet, Found, Entered, Gone, JoinTurnedAway, LeaveTurnedAway, Joined, Left}
use Rattle.protocol.specs.Outcomes.{Outcome}
use Rattle.std.specs.Prelude.{Err, Ok}
use Rattle.protocol.specs.declared.refusal.Refusal.{Refusal}
use Rattle.protocol.specs.declared.refusal.Refusal.TheVariants.{CardsFull, NotWellFormed, PriceDiffers, RecordShort, RevisionLower}
use Rattle.protocol.specs.Record.{most_nodes, none, read}
use Rattle.protocol.specs.WellFormed.{identifiers, well_formed}
use Rattle.protocol.specs.Fresh.{smallest}
use Rattle.protocol.specs.Membership.{Owner, nobody, node, owner_among}
use Rattle.protocol.specs.Calls.{long, step_call, fresh_by_call}

-- The numbers of the form: how many cards there are stands first, then 64 marks, one for each hub, then the cards, of four words each.
abbrev pub most_cards : ℕ
most_cards = 512

abbrev pub card_size : ℕ
card_size = 4

abbrev pub card_start : ℕ → ℕ
card_start j = 65 + card_size * j

abbrev pub book_size : ℕ
book_size = 2113

-- What a card slice stands for. A mark is 1 for a member of the ledger and 0 for the other hubs.
pub record Book : Type 0 where
  pub marks : List ℕ
  pub cards : List Card

-- A card's words.
abbrev pub card_words : Card → List ℕ
card_words c = c.machine ∷ c.revision ∷ c.price ∷ c.hub ∷ []

abbrev pub unused_card_words : ℕ → ℕ
unused_card_words m = card_size * (most_cards - m)

-- The words of a book; those of cards that are not there are 0.
unfoldable pub book_words : Book → List ℕ
book_words b = length b.cards ∷ (b.marks ++ (flat card_words b.cards ++ replicate (unused_card_words (length b.cards)) 0))

-- The book that words stand for.
abbrev pub cards_in : List ℕ → ℕ
cards_in k = get_or k 0 0

abbrev pub marks_in : List ℕ → List ℕ
marks_in k = take most_nodes (drop 1 k)

abbrev pub card_from : List ℕ → ℕ → Card
card_from k at = record { machine = get_or k at 0; revision = get_or k (at + 1) 0; price = get_or k (at + 2) 0; hub = get_or k (at + 3) 0 }

unfoldable pub read_book : List ℕ → Book
read_book k = record { marks = marks_in k; cards = table (cards_in k) (λ j. card_from k (card_start j)) }

abbrev pub unused_cards : List ℕ → List ℕ
unused_cards k = take (unused_card_words (cards_in k)) (drop (card_start (cards_in k)) k)

-- The members: the hubs whose mark is 1. The first mark is that of `hub`.
unfoldable pub marked_from : ℕ → List ℕ → List ℕ
marked_from hub [] = []
marked_from hub (mark ∷ marks) = when nat_eq mark 1 then hub ∷ marked_from (suc hub) marks else marked_from (suc hub) marks

abbrev pub marked : List ℕ → List ℕ
marked marks = marked_from 0 marks

-- The hub that keeps the card of machine v: the owner of v among the members, as the ledger reckons it. (Without members: none.)
unfoldable pub hub_of : Owner → ℕ
hub_of nobody = none
hub_of (node hub) = hub

abbrev pub home : List ℕ → List ℕ → ℕ → ℕ
home ids members v = hub_of (owner_among ids members v)

-- Well formed, beside a record whose hubs have the identifiers ids. Marks are 0 or 1; there is a member, and each is a hub of the record.
unfoldable pub marks_ok : ℕ → List ℕ → Bool
marks_ok n marks = every (λ x. nat_lt x 2) marks && nat_le 1 (length (marked marks)) && every (λ hub. nat_lt hub n) (marked marks)

-- No machine has two cards, and each card is with its owner.
unfoldable pub cards_ok : List ℕ → Book → Bool
cards_ok ids b =
    distinct (map (λ c. c.machine) b.cards)
    && every (λ c. nat_eq c.hub (home ids (marked b.marks) c.machine)) b.cards

unfoldable pub book_ok : List ℕ → List ℕ → Bool
book_ok ids k =
    nat_le (cards_in k) most_cards
    && marks_ok (length ids) (marks_in k)
    && every (λ x. nat_eq x 0) (unused_cards k)
    && cards_ok ids (read_book k)

-- The book made with a fresh ring: its founder is the only member.
unfoldable pub new_book : ℕ → Book
new_book hub = record { marks = set (replicate most_nodes 0) hub 1; cards = [] }

-- The book with other marks: every card goes to its owner among the new members, and nothing else of it changes.
unfoldable pub rehoused : List ℕ → List ℕ → Card → Card
rehoused ids members c = record { machine = c.machine; revision = c.revision; price = c.price; hub = home ids members c.machine }

unfoldable pub moved : List ℕ → Book → List ℕ → Book
moved ids b marks = record { marks = marks; cards = map (rehoused ids (marked marks)) b.cards }

-- What an offered card does to the cards: it is declined, or these are the cards kept.
pub data Offered : Type 0 where
  declined : Refusal → Offered
  kept : List Card → Offered

abbrev pub no_card : Card
no_card = record { machine = 0; revision = 0; price = 0; hub = 0 }

-- The place of a machine's card, or the number of cards where it has none.
abbrev pub place : List Card → ℕ → ℕ
place cards machine = first (λ j. nat_eq (get_or cards j no_card).machine machine) (length cards)

-- The machine has a card, `old` at place j: one of a higher revision takes its place, and an equal one changes nothing.
unfoldable pub renewed : List Card → ℕ → Card → Card → Offered
renewed cards j old c =
    when nat_lt old.revision c.revision then kept (set cards j c)
    else require (nat_eq old.revision c.revision) (declined RevisionLower)
    (require (nat_eq old.price c.price) (declined PriceDiffers)
    (kept cards))

-- The card of a new machine goes last.
unfoldable pub offered : List Card → Card → Offered
offered cards c =
    when nat_lt (place cards c.machine) (length cards)
    then renewed cards (place cards c.machine) (get_or cards (place cards c.machine) no_card) c
    else require (nat_lt (length cards) most_cards) (declined CardsFull) (kept (cards ++ (c ∷ [])))

-- What a call leaves: its outcome, the slice lent for the record and the one lent for the cards.
pub record CardsCalled : Type 0 where
  pub outcome : Outcome
  pub slice : List ℕ
  pub cards : List ℕ

abbrev pub unchanged : List ℕ → List ℕ → Refusal → CardsCalled
unchanged w k number = record { outcome = Err number; slice = w; cards = k }

-- The first questions: are both slices long enough, the record's first? Are both well formed, the record first?
unfoldable pub both_long : List ℕ → List ℕ → CardsCalled → CardsCalled
both_long w k rest = require (long w) (unchanged w k RecordShort) (require (nat_le book_size (length k)) (unchanged w k RecordShort) rest)

unfoldable pub on_both : List ℕ → List ℕ → CardsCalled → CardsCalled
on_both w k rest =
    both_long w k
    (require (well_formed w) (unchanged w k NotWellFormed)
    (require (book_ok (identifiers (read w)) k) (unchanged w k NotWellFormed)
    rest))

-- The words of a book in the lent slice; those behind them stay.
unfoldable pub put_book : List ℕ → Book → List ℕ
put_book k b = book_words b ++ drop book_size k

-- What a step's answer does to the cards in k; `slice` is the record as the step leaves it. Entered and gone change a mark, and the cards
-- follow; where gone would leave no member, the last question refuses the whole step.
abbrev pub remarked : List ℕ → List ℕ → ℕ → ℕ → List ℕ
remarked w k hub mark = put_book k (moved (identifiers (read w)) (read_book k) (set (marks_in k) hub mark))

unfoldable pub following : List ℕ → List ℕ → List ℕ → Answer → CardsCalled
following w k slice Quiet = record { outcome = Ok Quiet; slice = slice; cards = k }
following w k slice (Found hub number ticket hops) = record { outcome = Ok (Found hub number ticket hops); slice = slice; cards = k }
following w k slice (Entered hub) = record { outcome = Ok (Entered hub); slice = slice; cards = remarked w k hub 1 }
following w k slice (Gone hub) =
    require (nat_le 1 (length (marked (set (marks_in k) hub 0)))) (unchanged w k NotWellFormed)
    (record { outcome = Ok (Gone hub); slice = slice; cards = remarked w k hub 0 })
following w k slice (JoinTurnedAway hub) = record { outcome = Ok (JoinTurnedAway hub); slice = slice; cards = k }
following w k slice (LeaveTurnedAway hub) = record { outcome = Ok (LeaveTurnedAway hub); slice = slice; cards = k }
following w k slice (Joined hub) = record { outcome = Ok (Joined hub); slice = slice; cards = k }
following w k slice (Left hub) = record { outcome = Ok (Left hub); slice = slice; cards = k }

unfoldable pub after_call : List ℕ → List ℕ → List ℕ → Outcome → CardsCalled
after_call w k slice (Err number) = unchanged w k number
after_call w k slice (Ok a) = following w k slice a

-- The step with cards: the questions of both slices, the step's own, and last the only member.
unfoldable pub step_cards : List ℕ → List ℕ → ℕ → ℕ → ℕ → CardsCalled
step_cards w k operation x y =
    on_both w k (after_call w k (step_call w operation x y).slice (step_call w operation x y).outcome)

-- An offer: the hub of the card is filled in. It answers quiet, and leaves the record.
unfoldable pub offer_written : List ℕ → List ℕ → Offered → CardsCalled
offer_written w k (declined number) = unchanged w k number
offer_written w k (kept cards) = record { outcome = Ok Quiet; slice = w; cards = put_book k (record { marks = marks_in k; cards = cards }) }

unfoldable pub offer_call : List ℕ → List ℕ → ℕ → ℕ → ℕ → CardsCalled
offer_call w k machine revision price =
    on_both w k (offer_written w k (offered (read_book k).cards
    (record { machine = machine; revision = revision; price = price; hub = home (identifiers (read w)) (marked (marks_in k)) machine })))

-- Fresh with cards, the founder named: the lengths of both slices, then the questions of fresh. Only an accepted call writes the new book.
unfoldable pub with_new_book : List ℕ → List ℕ → ℕ → List ℕ → Outcome → CardsCalled
with_new_book w k hub slice (Err number) = unchanged w k number
with_new_book w k hub slice (Ok a) = record { outcome = Ok a; slice = slice; cards = put_book k (new_book hub) }

unfoldable pub fresh_by_cards : List ℕ → List ℕ → List ℕ → ℕ → CardsCalled
fresh_by_cards w k ids founder =
    both_long w k (with_new_book w k founder (fresh_by_call w ids founder).slice (fresh_by_call w ids founder).outcome)

-- The same where nobody is named.
abbrev pub fresh_cards : List ℕ → List ℕ → List ℕ → CardsCalled
fresh_cards w k ids = fresh_by_cards w k ids (smallest ids)
