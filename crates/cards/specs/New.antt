-- The fresh call with cards, in the words' terms. Assumes nothing.
use Rattle.std.specs.Prelude.{◌≡◌, refl, false, ◌&&◌, List, [], ◌∷◌, ◌++◌, ℕ, ◌+◌, ◌≤◌, ◌<◌, nat_le, length, set, drop, replicate}
use Rattle.std.proofs.Common.{sym, ◌∙◌, one-add, arith}
use Rattle.std.proofs.Math.Path.{ap}
use Rattle.std.proofs.lemmas.List.{replicate-append-replicate, length-replicate}
use Rattle.protocol.specs.declared.Answer.{Answer}
use Rattle.protocol.specs.Outcomes.{Outcome}
use Rattle.std.specs.Prelude.{Err, Ok}
use Rattle.protocol.specs.declared.refusal.Refusal.{Refusal}
use Rattle.protocol.specs.declared.refusal.Refusal.TheVariants.{RecordShort}
use Rattle.protocol.specs.Record.{most_nodes, record_size}
use Rattle.protocol.specs.Calls.{written, fresh_by_call}
use Rattle.protocol.specs.Cards.{book_size, Book, book_words, unchanged, new_book, put_book, with_new_book, fresh_by_cards}
use Rattle.layout.specs.Questions.{fresh_cases}
use Rattle.cardlayout.specs.Books.{mark_is}
use Rattle.card_checks.specs.Ready.{long_1, long_cards_1, long_rest, both_short}
use Rattle.cards.specs.Asked.{refused_answered}

-- What a fresh call leaves where it refuses, and where it answers.
module _ (w ids : List ℕ) (founder : ℕ) where
  fresh_kept : (number : Refusal) → (fresh_by_call w ids founder).outcome ≡ Err number → (fresh_by_call w ids founder).slice ≡ w
  unfolding written
  fresh_kept number =
      fresh_cases w ids founder (λ z. z.outcome ≡ Err number → z.slice ≡ w) (λ k m e. refl) (λ a e. absurd (refused_answered (sym e)))

  pub fresh_below : (o : Outcome) (slice : List ℕ) (a : Answer) → fresh_by_call w ids founder ≡ record { outcome = o; slice = slice } → o ≡ Ok a → founder < most_nodes
  fresh_below o slice a e g =
      fresh_cases w ids founder (λ z. z.outcome ≡ Ok a → founder < most_nodes) (λ k m q. absurd (refused_answered q))
      (λ s q. omega (arith, s.below, s.few)) (ap (λ z. z.outcome) e ∙ g)

module _ (w k ids : List ℕ) (founder : ℕ) where
  pub new_1 : length w < record_size → fresh_by_cards w k ids founder ≡ unchanged w k RecordShort
  unfolding fresh_by_cards
  new_1 l = long_1 w k _ l

  pub new_cards_1 : record_size ≤ length w → length k < book_size → fresh_by_cards w k ids founder ≡ unchanged w k RecordShort
  unfolding fresh_by_cards
  new_cards_1 l m = long_cards_1 w k _ l m

  -- both lengths asked at once
  pub new_short : (nat_le record_size (length w) && nat_le book_size (length k)) ≡ false → fresh_by_cards w k ids founder ≡ unchanged w k RecordShort
  unfolding fresh_by_cards
  new_short e = both_short w k _ e

  module _ (l : record_size ≤ length w) (m : book_size ≤ length k) (o : Outcome) (slice : List ℕ) (e : fresh_by_call w ids founder ≡ record { outcome = o; slice = slice }) where
    rest : fresh_by_cards w k ids founder ≡ with_new_book w k founder slice o
    unfolding fresh_by_cards
    rest = long_rest w k _ l m ∙ ap (λ z. with_new_book w k founder z.slice z.outcome) e

    pub new_refused : (number : Refusal) → o ≡ Err number → fresh_by_cards w k ids founder ≡ record { outcome = Err number; slice = slice; cards = k }
    unfolding with_new_book
    new_refused number g =
        rest ∙ ap (with_new_book w k founder slice) g
        ∙ ap (λ z. record { outcome = Err number; slice = z; cards = k }) (sym (sym (ap (λ z. z.slice) e) ∙ fresh_kept w ids founder number (ap (λ z. z.outcome) e ∙ g)))

    pub new_made : (a : Answer) → o ≡ Ok a → (hub : ℕ) → hub ≡ founder → (out : List ℕ) → out ≡ put_book k (new_book hub)
        → fresh_by_cards w k ids founder ≡ record { outcome = Ok a; slice = slice; cards = out }
    unfolding with_new_book
    new_made a g hub h out q =
        rest ∙ ap (with_new_book w k founder slice) g ∙ ap (λ z. record { outcome = Ok a; slice = slice; cards = z }) (sym (q ∙ ap (λ z. put_book k (new_book z)) h))

-- A new book, written over cleared words.
abbrev empty : Book
empty = record { marks = replicate most_nodes 0; cards = [] }

empty_is : book_words empty ≡ replicate book_size 0
unfolding book_words
empty_is = ap (λ l. 0 ∷ l) (replicate-append-replicate {A = ℕ} most_nodes 2048 0)

pub new_law : (k : List ℕ) (hub : ℕ) → hub < most_nodes → set (replicate book_size 0 ++ drop book_size k) (1 + hub) 1 ≡ put_book k (new_book hub)
unfolding put_book new_book
new_law k hub l =
    ap (λ z. set (z ++ drop book_size k) (1 + hub) 1) (sym empty_is)
    ∙ ap (λ z. set (book_words empty ++ drop book_size k) z 1) (one-add hub)
    ∙ mark_is empty (drop book_size k) (record { marks = length-replicate {A = ℕ} most_nodes 0; cards = omega arith }) hub 1 l
