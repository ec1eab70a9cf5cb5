-- What 'well formed' says of a card slice, in both directions. Assumes nothing.
use Rattle.std.specs.Prelude.{◌≡◌, List, ◌++◌, map, ℕ, zero, suc, ◌≤◌, ◌<◌, T, nat_lt, nat_eq, length, replicate}
use Rattle.std.proofs.Common.{inl, inr}
use Rattle.lists.specs.Basics.{Mem}
use Rattle.lists.specs.Tests.{Says, says_and, says_as, says_le, says_lt, says_eq, says_every, Distinct, says_distinct}
use Rattle.protocol.specs.declared.Card.{Card}
use Rattle.protocol.specs.Cards.{most_cards, book_size, Book, book_words, cards_in, marks_in, read_book, unused_cards, unused_card_words, marked, home, marks_ok, cards_ok, book_ok}
use Rattle.cardlayout.specs.Marks.{Marked, mem_marked, marked_mem, some_member, member_some}
use Rattle.cardlayout.specs.Books.{Fits, Neat, count_book, marks_read, read_book_lem, unused_read}

-- marks of a ring of n hubs
pub record MarksForm (n : ℕ) (marks : List ℕ) : Type 0 where
  pub bits : (x : ℕ) → Mem x marks → x < 2
  pub some : (h : ℕ) × Marked marks h
  pub below : (h : ℕ) → Marked marks h → h < n

pub says_marks : (n : ℕ) (marks : List ℕ) → Says (marks_ok n marks) (MarksForm n marks)
unfolding marks_ok
says_marks n marks =
    says_as
    (says_and (says_and (says_every (λ x. nat_lt x 2) (λ x. x < 2) (λ x. says_lt x 2) marks) (says_le 1 (length (marked marks))))
    (says_every (λ h. nat_lt h n) (λ h. h < n) (λ h. says_lt h n) (marked marks)))
    (λ k. record {
      bits = k.0.0;
      some = (let s = some_member (marked marks) k.0.1 in (s.0, mem_marked marks s.0 s.1));
      below = λ h m. k.1 h (marked_mem marks h m);
    })
    (λ r. ((r.bits, member_some (marked marks) r.some.0 (marked_mem marks r.some.0 r.some.1)), λ h i. r.below h (mem_marked marks h i)))

-- a book beside the identifiers of its ring
pub record BookForm (ids : List ℕ) (b : Book) : Type 0 where
  pub marks : MarksForm (length ids) b.marks
  pub differ : Distinct (map (λ c. c.machine) b.cards)
  pub homes : (c : Card) → Mem c b.cards → c.hub ≡ home ids (marked b.marks) c.machine

pub says_cards : (ids : List ℕ) (b : Book)
    → Says (cards_ok ids b) (Distinct (map (λ c. c.machine) b.cards) × ((c : Card) → Mem c b.cards → c.hub ≡ home ids (marked b.marks) c.machine))
unfolding cards_ok
says_cards ids b =
    says_and (says_distinct (map (λ c. c.machine) b.cards))
    (says_every (λ c. nat_eq c.hub (home ids (marked b.marks) c.machine)) (λ c. c.hub ≡ home ids (marked b.marks) c.machine)
    (λ c. says_eq c.hub (home ids (marked b.marks) c.machine)) b.cards)

abbrev pub Zero : List ℕ → Type 0
Zero l = (x : ℕ) → Mem x l → x ≡ 0

pub says_book : (ids k : List ℕ)
    → Says (book_ok ids k) ((((cards_in k ≤ most_cards) × MarksForm (length ids) (marks_in k)) × Zero (unused_cards k))
    × (Distinct (map (λ c. c.machine) (read_book k).cards) × ((c : Card) → Mem c (read_book k).cards → c.hub ≡ home ids (marked (read_book k).marks) c.machine)))
unfolding book_ok
says_book ids k =
    says_and (says_and (says_and (says_le (cards_in k) most_cards) (says_marks (length ids) (marks_in k)))
    (says_every (λ x. nat_eq x 0) (λ x. x ≡ 0) (λ x. says_eq x 0) (unused_cards k)))
    (says_cards ids (read_book k))

-- A well-formed slice is neat, and stands for a well-formed book.
pub neat : (ids k : List ℕ) → book_size ≤ length k → T (book_ok ids k) → Neat k
neat ids k l t = let s = (says_book ids k).to t in record { long = l; few = s.0.0.0; unused = s.0.1 }

pub form_of_book : (ids k : List ℕ) → T (book_ok ids k) → BookForm ids (read_book k)
unfolding read_book
form_of_book ids k t = let s = (says_book ids k).to t in record { marks = s.0.0.1; differ = s.1.0; homes = s.1.1 }

pub zero_padding : (n : ℕ) → Zero (replicate n 0)
zero_padding zero x k = absurd k
zero_padding (suc n) x (inl e) = e
zero_padding (suc n) x (inr k) = zero_padding n x k

-- The words of a well-formed book are well formed, whatever is behind them.
pub book_well_formed : (ids : List ℕ) (b : Book) (t : List ℕ) → Fits b → BookForm ids b → T (book_ok ids (book_words b ++ t))
book_well_formed ids b t f F = (says_book ids (book_words b ++ t)).fro (
  (
    (rw (count_book b t f) f.cards, rw (marks_read b t f) F.marks),
    rw (unused_read b t f) (zero_padding (unused_card_words (length b.cards))),
  ),
  rw (read_book_lem b t f) (F.differ, F.homes),
)
