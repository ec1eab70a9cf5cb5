-- What each call with cards gives on bytes, question by question. Assumes nothing.
use Rattle.std.specs.Prelude.{◌≡◌, List, [], ◌++◌, ℕ, ◌*◌, ◌/◌, ◌<◌, ◌≤◌, take, drop}
use Rattle.std.proofs.Math.Path.{refl, ap, sym}
use Rattle.std.proofs.Common.{◌∙◌, arith, drop_of_length-le, take_at}
use Rattle.std.proofs.Math.ListN.{length, length-take}
use borrow.Author.Tests.{le-leb, lt-leb}
use Rattle.lists.specs.Choice.{on_yes, on_no}
use Rattle.lists.specs.Blocks.{length_table}
use Rattle.protocol.specs.declared.Answer.TheVariants.{Quiet}
use Rattle.protocol.specs.Outcomes.{Outcome}
use Rattle.std.specs.Prelude.{Err, Ok}
use Rattle.protocol.specs.declared.refusal.Refusal.TheVariants.{IdentifierCount, OutputShort, RecordShort}
use Rattle.protocol.specs.Refusals.{number_of}
use Rattle.protocol.specs.Record.{most_nodes, record_size, words}
use Rattle.protocol.specs.Fresh.{fresh}
use Rattle.protocol.specs.Answers.{refusal, outcome_words}
use Rattle.protocol.specs.Bytes.{words_of, over, bytes_after}
use Rattle.protocol.specs.Calls.{Called, turned_down, written, fresh_by_call}
use Rattle.protocol.specs.Cards.{book_size, book_words, new_book, put_book, step_cards, offer_call, with_new_book, fresh_by_cards}
use Rattle.protocol.specs.CardBytes.{record_of, book_of, carried_cards, step_cards_bytes, taken, offer_bytes, FreshCardsBytes, founded_cards, fresh_by_cards_bytes}
use Rattle.layout.specs.Questions.{long_yes}
use Rattle.card_checks.specs.Ready.{long_rest, both_1, both_cards_1}
use Rattle.cards.specs.New.{new_1, new_cards_1}
use Rattle.word_bytes.specs.First.{same_fresh}
use Rattle.word_bytes.specs.Carry.{word_at, first_words, words_split, words_all, words_length}

-- the words of bytes that are long enough, and of others
module _ (b : List ℕ) (n : ℕ) where
  pub first_long : 4 * n ≤ length b → take n (words_of b) ≡ first_words b n
  first_long l = ap (take n) (words_split b n l) ∙ take_at (first_words b n) (words_of (drop (4 * n) b)) n (length_table n (word_at b))

  pub first_short : length b < 4 * n → length (take n (words_of b)) < n
  first_short l = omega (arith, length-take n (words_of b), words_length b)

  pub first_enough : 4 * n ≤ length b → n ≤ length (take n (words_of b))
  first_enough l = omega (arith, length-take n (words_of b), words_length b)

module _ (b book out : List ℕ) (operation x y : ℕ) where
  pub step_cards_17 : length out < 20 → step_cards_bytes b book operation x y out ≡ record { code = number_of OutputShort; bytes = b; book = book; output = out }
  unfolding step_cards_bytes
  step_cards_17 h = on_no _ _ _ (lt-leb 20 (length out) h)

  pub step_cards_1 : 20 ≤ length out → length b < 4 * record_size → step_cards_bytes b book operation x y out ≡ record { code = number_of RecordShort; bytes = b; book = book; output = out }
  unfolding step_cards_bytes step_cards carried_cards refusal outcome_words bytes_after over
  step_cards_1 h l =
      on_yes _ _ _ (le-leb 20 (length out) h)
      ∙ ap (carried_cards b book out) (both_1 (record_of b) (book_of book) _ (first_short b record_size l))

  pub step_cards_short : 20 ≤ length out → 4 * record_size ≤ length b → length book < 4 * book_size
      → step_cards_bytes b book operation x y out ≡ record { code = number_of RecordShort; bytes = b; book = book; output = out }
  unfolding step_cards_bytes step_cards carried_cards refusal outcome_words bytes_after over
  step_cards_short h l m =
      on_yes _ _ _ (le-leb 20 (length out) h)
      ∙ ap (carried_cards b book out) (both_cards_1 (record_of b) (book_of book) _ (first_enough b record_size l) (first_short book book_size m))

  pub step_cards_rest : 20 ≤ length out → 4 * record_size ≤ length b → 4 * book_size ≤ length book → (o : Outcome) (s k : List ℕ)
      → step_cards (first_words b record_size) (first_words book book_size) operation x y ≡ record { outcome = o; slice = s; cards = k }
      → step_cards_bytes b book operation x y out ≡ carried_cards b book out (record { outcome = o; slice = s; cards = k })
  unfolding step_cards_bytes
  step_cards_rest h l m o s k e =
      on_yes _ _ _ (le-leb 20 (length out) h)
      ∙ ap (λ w. carried_cards b book out (step_cards w (book_of book) operation x y)) (first_long b record_size l)
      ∙ ap (λ z. carried_cards b book out (step_cards (first_words b record_size) z operation x y)) (first_long book book_size m)
      ∙ ap (carried_cards b book out) e

module _ (b book : List ℕ) (machine revision price : ℕ) where
  pub offer_1 : length b < 4 * record_size → offer_bytes b book machine revision price ≡ record { code = number_of RecordShort; book = book }
  unfolding offer_bytes offer_call taken refusal bytes_after
  offer_1 l = ap (taken book) (both_1 (record_of b) (book_of book) _ (first_short b record_size l))

  pub offer_short : 4 * record_size ≤ length b → length book < 4 * book_size → offer_bytes b book machine revision price ≡ record { code = number_of RecordShort; book = book }
  unfolding offer_bytes offer_call taken refusal bytes_after
  offer_short l m = ap (taken book) (both_cards_1 (record_of b) (book_of book) _ (first_enough b record_size l) (first_short book book_size m))

  pub offer_rest : 4 * record_size ≤ length b → 4 * book_size ≤ length book → (o : Outcome) (s k : List ℕ)
      → offer_call (first_words b record_size) (first_words book book_size) machine revision price ≡ record { outcome = o; slice = s; cards = k }
      → offer_bytes b book machine revision price ≡ taken book (record { outcome = o; slice = s; cards = k })
  unfolding offer_bytes
  offer_rest l m o s k e =
      ap (λ w. taken book (offer_call w (book_of book) machine revision price)) (first_long b record_size l)
      ∙ ap (λ z. taken book (offer_call (first_words b record_size) z machine revision price)) (first_long book book_size m)
      ∙ ap (taken book) e

-- Fresh with cards gives the same on any other words, where these are no longer than record and cards.
module _ (b book ids : List ℕ) (f : ℕ) where
  pub fresh_cards_1 : length b < 4 * record_size → fresh_by_cards_bytes b book ids f ≡ record { code = number_of RecordShort; bytes = b; book = book }
  unfolding fresh_by_cards_bytes founded_cards refusal bytes_after
  fresh_cards_1 l = ap (founded_cards b book) (new_1 (record_of b) (book_of book) (words_of ids) f (first_short b record_size l))

  module _ (l : 4 * record_size ≤ length b) where
    pub fresh_cards_short : length book < 4 * book_size → fresh_by_cards_bytes b book ids f ≡ record { code = number_of RecordShort; bytes = b; book = book }
    unfolding fresh_by_cards_bytes founded_cards refusal bytes_after
    fresh_cards_short m = ap (founded_cards b book) (new_cards_1 (record_of b) (book_of book) (words_of ids) f (first_enough b record_size l) (first_short book book_size m))

    module _ (m : 4 * book_size ≤ length book) where
      abbrev made : List ℕ → List ℕ → Called → FreshCardsBytes
      made w k z = founded_cards b book (with_new_book w k f z.slice z.outcome)

      both_long_lem : fresh_by_cards (record_of b) (book_of book) (words_of ids) f ≡ with_new_book (record_of b) (book_of book) f (fresh_by_call (record_of b) (words_of ids) f).slice (fresh_by_call (record_of b) (words_of ids) f).outcome
      unfolding fresh_by_cards
      both_long_lem = long_rest (record_of b) (book_of book) _ (first_enough b record_size l) (first_enough book book_size m)

      many : most_nodes < length ids / 4 → fresh_by_call (record_of b) (words_of ids) f ≡ turned_down (record_of b) IdentifierCount
      unfolding fresh_by_call
      many h =
          let n = length (words_of ids) in
          on_yes _ _ _ (long_yes (record_of b) (first_enough b record_size l))
          ∙ on_no _ _ _ (rw (lt-leb n most_nodes (omega (arith, words_length ids)), le-leb 1 n (omega (arith, words_length ids))))

      pub fresh_cards_13 : most_nodes < length ids / 4 → fresh_by_cards_bytes b book ids f ≡ record { code = number_of IdentifierCount; bytes = b; book = book }
      unfolding fresh_by_cards_bytes founded_cards refusal bytes_after with_new_book
      fresh_cards_13 h = ap (founded_cards b book) (both_long_lem ∙ ap (λ z. with_new_book (record_of b) (book_of book) f z.slice z.outcome) (many h))

      -- what is asked and what is written do not depend on the words that were lent
      module _ (w k : List ℕ) (ew : length w ≡ record_size) (ek : length k ≡ book_size) where
        behind : (n : ℕ) (x : List ℕ) → length x ≤ n → drop n x ≡ []
        behind n x h = drop_of_length-le x {i = n} h

        other_cards : (s : List ℕ) (o : Outcome) → founded_cards b book (with_new_book (record_of b) (book_of book) f s o) ≡ founded_cards b book (with_new_book w k f s o)
        unfolding with_new_book founded_cards refusal bytes_after put_book
        other_cards s (Err n) = refl
        other_cards s (Ok a) =
            ap (λ t. record { code = 0; bytes = over b s; book = over book (book_words (new_book f) ++ t) })
            (behind book_size (book_of book) (omega (arith, length-take book_size (words_of book))) ∙ sym (behind book_size k (omega arith)))

        other_words : (i : List ℕ) → made w k (fresh_by_call (record_of b) i f) ≡ made w k (fresh_by_call w i f)
        unfolding written with_new_book founded_cards refusal bytes_after
        other_words i =
            same_fresh (made w k) (record_of b) w i f (first_enough b record_size l) (omega arith) (λ n. refl)
            (ap (λ t. made w k (record { outcome = Ok Quiet; slice = words (fresh i f) ++ t }))
            (behind record_size (record_of b) (omega (arith, length-take record_size (words_of b))) ∙ sym (behind record_size w (omega arith))))

        pub fresh_cards_rest : (o : Outcome) (s t : List ℕ)
            → fresh_by_cards w k (first_words ids (length ids / 4)) f ≡ record { outcome = o; slice = s; cards = t }
            → fresh_by_cards_bytes b book ids f ≡ founded_cards b book (record { outcome = o; slice = s; cards = t })
        unfolding fresh_by_cards_bytes fresh_by_cards
        fresh_cards_rest o s t e =
            ap (founded_cards b book) both_long_lem
            ∙ other_cards (fresh_by_call (record_of b) (words_of ids) f).slice (fresh_by_call (record_of b) (words_of ids) f).outcome
            ∙ other_words (words_of ids)
            ∙ ap (λ i. made w k (fresh_by_call w i f)) (words_all ids)
            ∙ ap (founded_cards b book) (sym (long_rest w k _ (omega arith) (omega arith)) ∙ e)
