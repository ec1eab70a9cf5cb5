-- An offer in the words' terms: where the kept card stands, and what each outcome leaves. Assumes nothing.
use Rattle.std.specs.Prelude.{◌≡◌, refl, Bool, true, false, Option, Some, None, MatchOption, List, [], ◌∷◌, ◌++◌, ℕ, zero, suc, ◌+◌, ◌≤◌, ◌<◌, nat_eq, length, get_or}
use Rattle.std.proofs.Math.Path.{sym, ap, subst}
use Rattle.std.specs.List.{find, range_with_len}
use Rattle.std.specs.Option.{option_map}
use Rattle.std.proofs.Common.{cond}
use Rattle.std.proofs.Math.Nat.{zero-add}
use Rattle.std.proofs.Common.{◌∙◌, arith, lt-ltb, le-ltb, eq-eqb, ne_eqb}
use Rattle.std.proofs.Common.{nat_lt}
use Rattle.std.proofs.Math.ListN.{set, drop}
use Rattle.lists.specs.Basics.{when◌then◌else◌, require, first}
use Rattle.lists.specs.Blocks.{get_or_table}
use Rattle.lists.specs.Choice.{on_yes, on_no}
use Rattle.lists.specs.Search.{first_none, first_more, first_at, first_cong}
use Rattle.lists.specs.Splice.{splice}
use Rattle.protocol.specs.declared.Card.{Card}
use Rattle.protocol.specs.declared.Answer.TheVariants.{Quiet}
use Rattle.protocol.specs.declared.refusal.Refusal.TheVariants.{CardsFull, PriceDiffers, RevisionLower}
use Rattle.std.specs.Prelude.{Ok}
use Rattle.protocol.specs.Cards.{most_cards, book_size, card_start, Book, card_words, book_words, cards_in, marks_in, card_from, read_book, no_card, place, Offered, declined, kept, renewed, offered, CardsCalled, unchanged, put_book, offer_written}
use Rattle.cardlayout.specs.Books.{Neat, read_fits, book_read, count_of_book, put_card_is, push_card_is}

-- the card at a place
pub card_of_read : (k : List ℕ) (j : ℕ) → j < cards_in k → get_or (read_book k).cards j no_card ≡ card_from k (card_start j)
unfolding read_book
card_of_read k j l = get_or_table (cards_in k) (λ i. card_from k (card_start i)) j no_card l

pub place_read : (k : List ℕ) (machine : ℕ) → place (read_book k).cards machine ≡ first (λ j. nat_eq (get_or k (card_start j) 0) machine) (cards_in k)
place_read k machine =
    ap (first (λ j. nat_eq (get_or (read_book k).cards j no_card).machine machine)) (count_of_book k)
    ∙ first_cong _ (λ j. nat_eq (get_or k (card_start j) 0) machine) (cards_in k) (λ j l. ap (λ c. nat_eq c.machine machine) (card_of_read k j l))

-- The search for a card: the least number that passes, or none.
abbrev pub Found : (ℕ → Bool) → ℕ → Option ℕ → Type 0
Found f n r = MatchOption r (first f n ≡ n) (λ j. (j ≡ first f n) × (j < n))

found_from : (f : ℕ → Bool) (a k n : ℕ) → a + k ≡ n → first f a ≡ a → Found f n (find f (range_with_len a k))
found_from f a zero n e p = let q : a ≡ n = omega arith in subst (λ z. first f z ≡ z) q p
found_from f a (suc k) n e p = go (f a) refl (λ q. found_from f (a + 1) k n (omega arith) q)
  where
    go : (b : Bool) → f a ≡ b → (first f (a + 1) ≡ a + 1 → Found f n (find f (range_with_len (a + 1) k))) → Found f n (cond b (Some a) (find f (range_with_len (a + 1) k)))
    go true t h = (sym (first_at f n a p t (omega arith)), omega arith)
    go false t h = h (first_more f a p t)

pub found_by : (f : ℕ → Bool) (n : ℕ) (r : Option ℕ) → option_map (λ j. j) r ≡ find f (range_with_len 0 n) → Found f n r
found_by f n r e = subst (Found f n) (sym (same r ∙ e)) (found_from f 0 n n (zero-add n) (first_none f))
  where
    same : (o : Option ℕ) → o ≡ option_map (λ j. j) o
    same (Some j) = refl
    same None = refl

-- What an accepted offer leaves.
module _ (k : List ℕ) (n : Neat k) where
  abbrev b : Book
  b = read_book k

  pub same_is : k ≡ put_book k (record { marks = marks_in k; cards = (read_book k).cards })
  unfolding put_book read_book
  same_is = sym (book_read k n)

  pub renewed_is : (j : ℕ) (c : Card) → j < cards_in k → splice k (card_start j) (card_words c) ≡ put_book k (record { marks = marks_in k; cards = set (read_book k).cards j c })
  unfolding put_book read_book
  renewed_is j c l =
      ap (λ z. splice z (card_start j) (card_words c)) (sym (book_read k n))
      ∙ put_card_is b (drop book_size k) (read_fits k n) j c (omega (arith, count_of_book k))

  pub added_is : (c : Card) → cards_in k < most_cards
      → set (splice k (card_start (cards_in k)) (card_words c)) 0 (cards_in k + 1) ≡ put_book k (record { marks = marks_in k; cards = (read_book k).cards ++ (c ∷ []) })
  unfolding put_book read_book
  added_is c l =
      ap (λ z. set (splice z (card_start (cards_in k)) (card_words c)) 0 (cards_in k + 1)) (sym (book_read k n))
      ∙ ap (λ z. set (splice (book_words b ++ drop book_size k) (card_start z) (card_words c)) 0 (z + 1)) (sym (count_of_book k))
      ∙ push_card_is b (drop book_size k) (read_fits k n) c (omega (arith, count_of_book k))

-- The questions of an offer that finds a card of its machine, `old`, at place j.
module _ (w k : List ℕ) (j : ℕ) (old c : Card) where
  abbrev given : CardsCalled
  given = offer_written w k (renewed (read_book k).cards j old c)

  pub offer_higher : old.revision < c.revision → (out : List ℕ) → out ≡ put_book k (record { marks = marks_in k; cards = set (read_book k).cards j c })
      → given ≡ record { outcome = Ok Quiet; slice = w; cards = out }
  unfolding renewed offer_written when◌then◌else◌
  offer_higher l out e = ap (λ z. offer_written w k (when z then kept (set (read_book k).cards j c) else low)) (lt-ltb _ _ l) ∙ ap (λ z. record { outcome = Ok Quiet; slice = w; cards = z }) (sym e)
    where
      low : Offered
      low = require (nat_eq old.revision c.revision) (declined RevisionLower) (require (nat_eq old.price c.price) (declined PriceDiffers) (kept (read_book k).cards))

  module _ (l : c.revision ≤ old.revision) where
    lower : given ≡ offer_written w k (require (nat_eq old.revision c.revision) (declined RevisionLower) (require (nat_eq old.price c.price) (declined PriceDiffers) (kept (read_book k).cards)))
    unfolding renewed when◌then◌else◌
    lower = ap (λ z. offer_written w k (when z then kept (set (read_book k).cards j c) else require (nat_eq old.revision c.revision) (declined RevisionLower) (require (nat_eq old.price c.price) (declined PriceDiffers) (kept (read_book k).cards)))) (le-ltb _ _ l)

    pub offer_22 : (old.revision ≡ c.revision → ⊥) → given ≡ unchanged w k RevisionLower
    unfolding offer_written
    offer_22 ne = lower ∙ ap (offer_written w k) (on_no _ _ _ (ne_eqb _ _ ne))

    pub offer_23 : old.revision ≡ c.revision → (old.price ≡ c.price → ⊥) → given ≡ unchanged w k PriceDiffers
    unfolding offer_written
    offer_23 e ne = lower ∙ ap (offer_written w k) (on_yes _ _ _ (eq-eqb _ _ e) ∙ on_no _ _ _ (ne_eqb _ _ ne))

    pub offer_same : Neat k → old.revision ≡ c.revision → old.price ≡ c.price → given ≡ record { outcome = Ok Quiet; slice = w; cards = k }
    unfolding offer_written
    offer_same n e p =
        lower ∙ ap (offer_written w k) (on_yes _ _ _ (eq-eqb _ _ e) ∙ on_yes _ _ _ (eq-eqb _ _ p))
        ∙ ap (λ z. record { outcome = Ok Quiet; slice = w; cards = z }) (sym (same_is k n))

-- The whole offer, by where the search for its machine ended.
module _ (w k : List ℕ) (c : Card) (j : ℕ) (ej : j ≡ first (λ i. nat_eq (get_or k (card_start i) 0) c.machine) (cards_in k)) where
  at_place : place (read_book k).cards c.machine ≡ j
  at_place = place_read k c.machine ∙ sym ej

  pub offer_kept : j < cards_in k → offer_written w k (offered (read_book k).cards c) ≡ offer_written w k (renewed (read_book k).cards j (get_or (read_book k).cards j no_card) c)
  unfolding offered when◌then◌else◌
  offer_kept l =
      ap (offer_written w k)
      (ap (λ z. when nat_lt z (length (read_book k).cards) then renewed (read_book k).cards z (get_or (read_book k).cards z no_card) c else new) at_place
      ∙ ap (λ z. when z then renewed (read_book k).cards j (get_or (read_book k).cards j no_card) c else new) (lt-ltb j (length (read_book k).cards) (omega (arith, count_of_book k))))
    where
      new : Offered
      new = require (nat_lt (length (read_book k).cards) most_cards) (declined CardsFull) (kept ((read_book k).cards ++ (c ∷ [])))

  module _ (l : cards_in k ≤ j) where
    new_one : offered (read_book k).cards c ≡ require (nat_lt (length (read_book k).cards) most_cards) (declined CardsFull) (kept ((read_book k).cards ++ (c ∷ [])))
    unfolding offered when◌then◌else◌
    new_one =
        ap (λ z. when nat_lt z (length (read_book k).cards) then renewed (read_book k).cards z (get_or (read_book k).cards z no_card) c else require (nat_lt (length (read_book k).cards) most_cards) (declined CardsFull) (kept ((read_book k).cards ++ (c ∷ [])))) at_place
        ∙ ap (λ z. when z then renewed (read_book k).cards j (get_or (read_book k).cards j no_card) c else require (nat_lt (length (read_book k).cards) most_cards) (declined CardsFull) (kept ((read_book k).cards ++ (c ∷ [])))) (le-ltb j (length (read_book k).cards) (omega (arith, count_of_book k)))

    pub offer_24 : most_cards ≤ cards_in k → offer_written w k (offered (read_book k).cards c) ≡ unchanged w k CardsFull
    unfolding offer_written
    offer_24 m = ap (offer_written w k) (new_one ∙ on_no _ _ _ (le-ltb (length (read_book k).cards) most_cards (omega (arith, count_of_book k))))

    pub offer_last : cards_in k < most_cards → (out : List ℕ) → out ≡ put_book k (record { marks = marks_in k; cards = (read_book k).cards ++ (c ∷ []) })
        → offer_written w k (offered (read_book k).cards c) ≡ record { outcome = Ok Quiet; slice = w; cards = out }
    unfolding offer_written
    offer_last m out e =
        ap (offer_written w k) (new_one ∙ on_yes _ _ _ (lt-ltb (length (read_book k).cards) most_cards (omega (arith, count_of_book k)))) ∙ ap (λ z. record { outcome = Ok Quiet; slice = w; cards = z }) (sym e)
