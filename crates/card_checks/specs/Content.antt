-- The parts of 'well formed' of a card slice, in the order in which the code asks them. Assumes nothing.
use Rattle.std.specs.Prelude.{◌≡◌, refl, true, false, ◌&&◌, List, map, ℕ, ◌-◌, ◌≤◌, ◌<◌, nat_le, length, get_or, take, drop}
use Rattle.std.proofs.Math.Path.{sym, ap}
use Rattle.std.proofs.Common.{◌∙◌, arith, le-leb}
use Rattle.std.proofs.Math.Bool.{Bool}
use Rattle.std.proofs.Common.{nat_eq}
use Rattle.std.proofs.lemmas.Bool.{lt-leb}
use Rattle.lists.specs.Basics.{table, every, distinct}
use Rattle.lists.specs.Blocks.{map_table}
use Rattle.lists.specs.Tests.{and_false, true_T}
use Rattle.protocol.specs.Cards.{most_cards, book_size, card_start, cards_in, marks_in, card_from, read_book, unused_cards, unused_card_words, marked, home, marks_ok, cards_ok, book_ok}
use Rattle.cardlayout.specs.Sound.{MarksForm, says_marks}

-- the machines of the cards, as the code reads them
pub machines_law : (k : List ℕ) (m : ℕ) → m ≡ cards_in k → distinct (table m (λ j. get_or k (card_start j) 0)) ≡ distinct (map (λ c. c.machine) (read_book k).cards)
unfolding read_book
machines_law k m e = ap distinct (ap (λ z. table z (λ j. get_or k (card_start j) 0)) e ∙ sym (map_table (λ c. c.machine) (λ j. card_from k (card_start j)) (cards_in k)))

-- the unused words
pub unused_law : (k : List ℕ) (m : ℕ) → m ≡ cards_in k → m ≤ most_cards → take (book_size - card_start m) (drop (card_start m) k) ≡ unused_cards k
unused_law k m e l =
    let q : book_size - card_start m ≡ unused_card_words m = omega arith in
    ap (λ z. take z (drop (card_start m) k)) q ∙ ap (λ z. take (unused_card_words z) (drop (card_start z) k)) e

module _ (ids k : List ℕ) where
  pub book_many : most_cards < cards_in k → book_ok ids k ≡ false
  unfolding book_ok
  book_many l = ap (λ z. z && marks_ok (length ids) (marks_in k) && every (λ x. nat_eq x 0) (unused_cards k) && cards_ok ids (read_book k)) (lt-leb (cards_in k) most_cards l)

  abbrev few : Bool
  few = nat_le (cards_in k) most_cards

  abbrev zeros : Bool
  zeros = every (λ x. nat_eq x 0) (unused_cards k)

  and3 : (a b c : Bool) → ((a && false) && b && c) ≡ false
  and3 true b c = refl
  and3 false b c = refl

  and4 : (a b c : Bool) → (((a && b) && false) && c) ≡ false
  and4 true true c = refl
  and4 true false c = refl
  and4 false b c = refl

  pub book_marks : marks_ok (length ids) (marks_in k) ≡ false → book_ok ids k ≡ false
  unfolding book_ok
  book_marks e = ap (λ z. few && z && zeros && cards_ok ids (read_book k)) e ∙ and3 few zeros (cards_ok ids (read_book k))

  pub book_unused : every (λ x. nat_eq x 0) (unused_cards k) ≡ false → book_ok ids k ≡ false
  unfolding book_ok
  book_unused e = ap (λ z. few && marks_ok (length ids) (marks_in k) && z && cards_ok ids (read_book k)) e ∙ and4 few (marks_ok (length ids) (marks_in k)) (cards_ok ids (read_book k))

  pub book_machines : distinct (map (λ c. c.machine) (read_book k).cards) ≡ false → book_ok ids k ≡ false
  unfolding book_ok cards_ok
  book_machines e =
      ap (λ z. few && marks_ok (length ids) (marks_in k) && zeros && (z && every (λ c. nat_eq c.hub (home ids (marked (read_book k).marks) c.machine)) (read_book k).cards)) e
      ∙ and_false (few && marks_ok (length ids) (marks_in k) && zeros)

  -- the last part decides where the others pass
  pub book_homes : cards_in k ≤ most_cards → marks_ok (length ids) (marks_in k) ≡ true → every (λ x. nat_eq x 0) (unused_cards k) ≡ true
      → distinct (map (λ c. c.machine) (read_book k).cards) ≡ true → (r : Bool)
      → r ≡ every (λ c. nat_eq c.hub (home ids (marked (marks_in k)) c.machine)) (table (cards_in k) (λ j. card_from k (card_start j))) → r ≡ book_ok ids k
  unfolding book_ok cards_ok read_book
  book_homes l m u d r e =
      e ∙ sym (ap (λ z. z && marks_ok (length ids) (marks_in k) && zeros && last) (le-leb (cards_in k) most_cards l)
      ∙ ap (λ z. z && zeros && last) m ∙ ap (λ z. z && last) u ∙ ap (λ z. z && homes) d)
    where
      homes : Bool
      homes = every (λ c. nat_eq c.hub (home ids (marked (marks_in k)) c.machine)) (table (cards_in k) (λ j. card_from k (card_start j)))

      last : Bool
      last = distinct (map (λ c. c.machine) (read_book k).cards) && homes

pub marks_form : (n : ℕ) (marks : List ℕ) → marks_ok n marks ≡ true → MarksForm n marks
marks_form n marks e = (says_marks n marks).to (true_T _ e)
