-- What the code leaves when a hub is marked, and when its mark is taken away. Assumes nothing.
use Rattle.std.specs.Prelude.{◌≡◌, ℕ, ◌+◌, ◌≤◌, ◌<◌}
use Rattle.std.proofs.Math.Path.{sym, ap}
use Rattle.std.proofs.Common.{◌∙◌, subst, one-add}
use mathlib.Core.List.{List, ◌++◌, map}
use Rattle.std.proofs.Math.Decide.{ℕ_discrete}
use native.Mathlib.Omega.{arith}
use Rattle.std.proofs.Math.ListN.{length, get_or, set, drop, length-set}
use Rattle.std.proofs.Math.Seq.{get_or-set_same, get_or-set_other}
use Rattle.lists.specs.Basics.{Mem}
use Rattle.lists.specs.Members.{mem_at, place}
use Rattle.lists.specs.Blocks.{get_or_table}
use Rattle.protocol.specs.declared.Card.{Card}
use Rattle.protocol.specs.Record.{round, most_nodes}
use Rattle.protocol.specs.Cards.{book_size, card_start, Book, book_words, cards_in, marks_in, card_from, read_book, unused_card_words, marked, home, moved, no_card, put_book}
use Rattle.cardlayout.specs.Marks.{Marked}
use Rattle.cardlayout.specs.Reach.{reach, below_off}
use Rattle.cardlayout.specs.Books.{Fits, Neat, with_mark, read_fits, book_read, read_book_lem, mark_is, marks_read, drop_book, long_book, count_book, unused_read, count_of_book}
use Rattle.cardlayout.specs.Sound.{MarksForm, zero_padding}
use Rattle.card_checks.specs.Ready.{Ready}
use Rattle.card_checks.specs.Marks.{mark_at}
use Rattle.card_checks.specs.Homes.{reach_same, nearest, nearest_below, nearest_home}
use Rattle.cards.specs.Moves.{handed, entered_cards, left_cards, stay_cards}

-- the words of a book are neat
pub words_neat : (b : Book) (t : List ℕ) → Fits b → Neat (book_words b ++ t)
words_neat b t f = record {
  long = long_book b t f;
  few = rw (count_book b t f) f.cards;
  unused = rw (unused_read b t f) (zero_padding (unused_card_words (length b.cards)));
}

-- One mark written.
module _ (k : List ℕ) (n : Neat k) (h x : ℕ) (l : h < most_nodes) where
  abbrev b : Book
  b = read_book k

  abbrev t : List ℕ
  t = drop book_size k

  marked_fits : Fits (with_mark (read_book k) h x)
  marked_fits = let f = read_fits k n in record { marks = length-set b.marks h x ∙ f.marks; cards = f.cards }

  marked_is : set k (1 + h) x ≡ book_words (with_mark (read_book k) h x) ++ drop book_size k
  marked_is = ap (λ z. set z (1 + h) x) (sym (book_read k n)) ∙ ap (λ z. set (book_words b ++ t) z x) (one-add h) ∙ mark_is b t (read_fits k n) h x l

  pub marked_neat : Neat (set k (1 + h) x)
  marked_neat = subst Neat (sym marked_is) (words_neat (with_mark b h x) t marked_fits)

  pub marked_marks : marks_in (set k (1 + h) x) ≡ set (marks_in k) h x
  unfolding read_book
  marked_marks = ap marks_in marked_is ∙ marks_read (with_mark b h x) t marked_fits

  pub marked_count : cards_in (set k (1 + h) x) ≡ cards_in k
  marked_count = ap cards_in marked_is ∙ count_book (with_mark b h x) t marked_fits ∙ count_of_book k

  pub marked_cards : (read_book (set k (1 + h) x)).cards ≡ (read_book k).cards
  marked_cards = ap (λ z. z.cards) (ap read_book marked_is ∙ read_book_lem (with_mark b h x) t marked_fits)

  pub marked_rest : drop book_size (set k (1 + h) x) ≡ drop book_size k
  marked_rest = ap (drop book_size) marked_is ∙ drop_book (with_mark b h x) t marked_fits

  -- the book with its cards handed over, put into the marked slice
  pub marked_put : (f : Card → Card) → put_book (set k (1 + h) x) (record { marks = marks_in (set k (1 + h) x); cards = map f (read_book (set k (1 + h) x)).cards })
      ≡ book_words (record { marks = set (marks_in k) h x; cards = map f (read_book k).cards }) ++ drop book_size k
  unfolding put_book
  marked_put f =
      ap (λ z. book_words (record { marks = z; cards = map f (read_book (set k (1 + h) x)).cards }) ++ drop book_size (set k (1 + h) x)) marked_marks
      ∙ ap (λ z. book_words (record { marks = set (marks_in k) h x; cards = map f z }) ++ drop book_size (set k (1 + h) x)) marked_cards
      ∙ ap (λ z. book_words (record { marks = set (marks_in k) h x; cards = map f (read_book k).cards }) ++ z) marked_rest

-- the machines are words
pub machines_small : (k : List ℕ) → ((i : ℕ) → get_or k i 0 < round) → (c : Card) → Mem c (read_book k).cards → c.machine < round
unfolding read_book
machines_small k small c i =
    let p = place c (read_book k).cards no_card i in
    let l : p.0 < cards_in k = omega (arith, p.1, count_of_book k) in
    omega (arith, ap (λ z. z.machine) (sym (get_or_table (cards_in k) (λ j. card_from k (card_start j)) p.0 no_card l) ∙ p.2), small (card_start p.0))

module _ (ids names k : List ℕ) (R : Ready ids names k) (h : ℕ) (lh : h < length ids) where
  lm : h < most_nodes
  lm = omega (arith, R.few)

  size : length (read_book k).marks ≡ most_nodes
  size = (read_fits k R.neat).marks

  pub enter_law : (id far : ℕ) (out : List ℕ) → id ≡ get_or names h 0 → far ≡ reach names (marks_in (set k (1 + h) 1)) h
      → out ≡ put_book (set k (1 + h) 1) (record { marks = marks_in (set k (1 + h) 1); cards = map (handed id far h) (read_book (set k (1 + h) 1)).cards })
      → out ≡ put_book k (moved ids (read_book k) (set (marks_in k) h 1))
  unfolding put_book moved read_book
  enter_law id far out ei ef eo =
      eo ∙ marked_put k R.neat h 1 lm (handed id far h)
      ∙ ap (λ z. book_words (record { marks = set (marks_in k) h 1; cards = map (handed z far h) (read_book k).cards }) ++ drop book_size k) (ei ∙ R.copied.at h)
      ∙ ap (λ z. book_words (record { marks = set (marks_in k) h 1; cards = map (handed (get_or ids h 0) z h) (read_book k).cards }) ++ drop book_size k)
      (ef ∙ ap (λ z. reach names z h) (marked_marks k R.neat h 1 lm) ∙ reach_same ids names (set (marks_in k) h 1) R.copied h)
      ∙ ap (λ z. book_words (record { marks = set (marks_in k) h 1; cards = z }) ++ drop book_size k)
      (entered_cards ids (read_book k) R.apart R.form (machines_small k R.words) h lh (omega (arith, lm, size)))

  -- h is no member
  pub stay_law : get_or k (1 + h) 0 ≡ 0 → k ≡ put_book k (moved ids (read_book k) (set (marks_in k) h 0))
  unfolding put_book read_book
  stay_law e = sym (ap (λ z. book_words z ++ drop book_size k) (stay_cards ids (read_book k) R.form h (mark_at k h lm ∙ e)) ∙ book_read k R.neat)

  pub off_bits : (x : ℕ) → Mem x (set (marks_in k) h 0) → x < 2
  unfolding read_book
  off_bits x i = let p = place x (set (marks_in k) h 0) 0 i in bit p.0 (omega (arith, p.1, length-set (marks_in k) h 0)) p.2 (ℕ_discrete p.0 h)
    where
      bit : (j : ℕ) → j < length (marks_in k) → get_or (set (marks_in k) h 0) j 0 ≡ x → Dec (j ≡ h) → x < 2
      bit j l e (yes q) = omega (arith, e, ap (λ z. get_or (set (marks_in k) h 0) z 0) q, get_or-set_same (marks_in k) h 0 0 (omega (arith, q)))
      bit j l e (no q) = omega (arith, e, get_or-set_other (marks_in k) h j 0 0 q, R.form.marks.bits (get_or (marks_in k) j 0) (mem_at (marks_in k) j 0 l))

  off_form : (m : ℕ) → Marked (set (marks_in k) h 0) m → MarksForm (length ids) (set (marks_in k) h 0)
  unfolding read_book
  off_form m i = record {
    bits = off_bits;
    some = (m, i);
    below = below_off ids (marks_in k) R.apart R.form.marks.below h lh (omega (arith, lm, size));
  }

  -- another hub is marked, so that one is the nearest
  pub others_found : (id : ℕ) → id < round → (m : ℕ) → Marked (set (marks_in k) h 0) m → nearest names (marks_in (set k (1 + h) 0)) id ≡ length (marks_in (set k (1 + h) 0)) → ⊥
  others_found id l m i e =
      omega (arith, e, nearest_below names (marks_in (set k (1 + h) 0)) id l m (subst (λ z. Marked z m) (sym (marked_marks k R.neat h 0 lm)) i))

  -- h is one, and there are others
  pub leave_law : (id far next : ℕ) (out : List ℕ) → (get_or k (1 + h) 0 ≡ 0 → ⊥) → (m : ℕ) → Marked (set (marks_in k) h 0) m → id ≡ get_or names h 0 → id < round
      → far ≡ reach names (marks_in k) h → next ≡ nearest names (marks_in (set k (1 + h) 0)) id
      → out ≡ put_book (set k (1 + h) 0) (record { marks = marks_in (set k (1 + h) 0); cards = map (handed id far next) (read_book (set k (1 + h) 0)).cards })
      → out ≡ put_book k (moved ids (read_book k) (set (marks_in k) h 0))
  unfolding put_book moved read_book
  leave_law id far next out nz m i ei li ef en eo =
      eo ∙ marked_put k R.neat h 0 lm (handed id far next)
      ∙ ap (λ z. book_words (record { marks = set (marks_in k) h 0; cards = map (handed id far z) (read_book k).cards }) ++ drop book_size k)
      (en ∙ ap (λ z. nearest names z id) (marked_marks k R.neat h 0 lm) ∙ nearest_home ids names (set (marks_in k) h 0) R.apart R.copied (off_form m i) id li)
      ∙ ap (λ z. book_words (record { marks = set (marks_in k) h 0; cards = map (handed z far (home ids (marked (set (marks_in k) h 0)) z)) (read_book k).cards }) ++ drop book_size k) (ei ∙ R.copied.at h)
      ∙ ap (λ z. book_words (record { marks = set (marks_in k) h 0; cards = map (handed (get_or ids h 0) z (home ids (marked (set (marks_in k) h 0)) (get_or ids h 0))) (read_book k).cards }) ++ drop book_size k)
      (ef ∙ reach_same ids names (marks_in k) R.copied h)
      ∙ ap (λ z. book_words (record { marks = set (marks_in k) h 0; cards = z }) ++ drop book_size k)
      (left_cards ids (read_book k) R.apart R.form (machines_small k R.words) h lh (omega (arith, lm, size)) is m i)
    where
      is : Marked (marks_in k) h
      is = record {
        below = omega (arith, lm, size);
        at = omega (arith, mark_at k h lm, R.form.marks.bits (get_or (marks_in k) h 0) (mem_at (marks_in k) h 0 (omega (arith, lm, size))), nonzero);
      }
        where
          nonzero : 1 ≤ get_or k (1 + h) 0
          nonzero = elim (ℕ_discrete (get_or k (1 + h) 0) 0) [ yes e ↦ absurd (nz e) | no e ↦ omega arith ]
