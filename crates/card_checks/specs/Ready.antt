-- The questions that the calls with cards begin with, and what is known after them. Assumes nothing.
use Rattle.std.specs.Prelude.{◌≡◌, refl, Bool, true, false, ◌&&◌, List, ℕ, ◌≤◌, ◌<◌, nat_le, length, get_or}
use Rattle.std.proofs.Common.{◌∙◌, arith, le-leb}
use Rattle.std.proofs.lemmas.Bool.{lt-leb}
use Rattle.std.proofs.Math.Facts.{leb_yes}
use Rattle.lists.specs.Basics.{require}
use Rattle.lists.specs.Choice.{on_yes, on_no}
use Rattle.lists.specs.Tests.{and_left, and_right, true_T}
use Rattle.protocol.specs.declared.refusal.Refusal.TheVariants.{NotWellFormed, RecordShort}
use Rattle.protocol.specs.Record.{round, most_nodes, record_size, read}
use Rattle.protocol.specs.WellFormed.{well_formed, identifiers}
use Rattle.protocol.specs.Calls.{long}
use Rattle.protocol.specs.Cards.{book_size, read_book, book_ok, CardsCalled, unchanged, both_long, on_both}
use Rattle.layout.specs.Form.{Valid, valid_form}
use Rattle.layout.specs.Owners.{Names}
use Rattle.layout.specs.Questions.{long_yes, long_no}
use Rattle.cardlayout.specs.Books.{Neat}
use Rattle.cardlayout.specs.Sound.{BookForm, neat, form_of_book}
use Rattle.card_checks.specs.Homes.{Copied, names_of, ids_size}

module _ (w k : List ℕ) (rest : CardsCalled) where
  pub long_1 : length w < record_size → both_long w k rest ≡ unchanged w k RecordShort
  unfolding both_long
  long_1 l = on_no _ _ _ (long_no w l)

  pub long_cards_1 : record_size ≤ length w → length k < book_size → both_long w k rest ≡ unchanged w k RecordShort
  unfolding both_long
  long_cards_1 l m = on_yes _ _ _ (long_yes w l) ∙ on_no _ _ _ (lt-leb book_size (length k) m)

  pub long_rest : record_size ≤ length w → book_size ≤ length k → both_long w k rest ≡ rest
  unfolding both_long
  long_rest l m = on_yes _ _ _ (long_yes w l) ∙ on_yes _ _ _ (le-leb book_size (length k) m)

-- Question 1 as one test of both lengths: what it refuses, and what is known where it passes.
pub both_short : (w k : List ℕ) (rest : CardsCalled) → (nat_le record_size (length w) && nat_le book_size (length k)) ≡ false → both_long w k rest ≡ unchanged w k RecordShort
unfolding both_long long
both_short w k rest = either (nat_le record_size (length w)) (nat_le book_size (length k))
  where
    either : (a b : Bool) → (a && b) ≡ false → require a (unchanged w k RecordShort) (require b (unchanged w k RecordShort) rest) ≡ unchanged w k RecordShort
    either true b e = on_yes _ _ _ refl ∙ on_no _ _ _ e
    either false b e = on_no _ _ _ refl

pub lengths : (w k : List ℕ) → (nat_le record_size (length w) && nat_le book_size (length k)) ≡ true → (record_size ≤ length w) × (book_size ≤ length k)
lengths w k e =
    let t = true_T _ e in
    let a = nat_le record_size (length w) in (leb_yes (and_left a _ t), leb_yes (and_right a _ t))

module _ (w k : List ℕ) (rest : CardsCalled) where
  pub both_1 : length w < record_size → on_both w k rest ≡ unchanged w k RecordShort
  unfolding on_both
  both_1 l = long_1 w k _ l

  pub both_cards_1 : record_size ≤ length w → length k < book_size → on_both w k rest ≡ unchanged w k RecordShort
  unfolding on_both
  both_cards_1 l m = long_cards_1 w k _ l m

  pub both_2 : record_size ≤ length w → book_size ≤ length k → well_formed w ≡ false → on_both w k rest ≡ unchanged w k NotWellFormed
  unfolding on_both
  both_2 l m e = long_rest w k _ l m ∙ on_no _ _ _ e

  pub both_cards_2 : record_size ≤ length w → book_size ≤ length k → well_formed w ≡ true → book_ok (identifiers (read w)) k ≡ false
      → on_both w k rest ≡ unchanged w k NotWellFormed
  unfolding on_both
  both_cards_2 l m e b = long_rest w k _ l m ∙ on_yes _ _ _ e ∙ on_no _ _ _ b

  pub both_rest : record_size ≤ length w → book_size ≤ length k → well_formed w ≡ true → book_ok (identifiers (read w)) k ≡ true → on_both w k rest ≡ rest
  unfolding on_both
  both_rest l m e b = long_rest w k _ l m ∙ on_yes _ _ _ e ∙ on_yes _ _ _ b

-- What a call knows of the cards after the questions: ids are the record's identifiers, names their copy.
pub record Ready (ids names k : List ℕ) : Type 0 where
  pub few : length ids ≤ most_nodes
  pub apart : Names ids
  pub copied : Copied names ids
  pub neat : Neat k
  pub form : BookForm ids (read_book k)
  pub words : (i : ℕ) → get_or k i 0 < round

pub ready : (w names k : List ℕ) → Valid w → Copied names (identifiers (read w)) → book_size ≤ length k → book_ok (identifiers (read w)) k ≡ true
    → ((i : ℕ) → get_or w i 0 < round) → ((i : ℕ) → get_or k i 0 < round) → Ready (identifiers (read w)) names k
ready w names k v c l b sw sk = record {
  few = omega (arith, ids_size w, v.nodes);
  apart = names_of w (valid_form w v) sw;
  copied = c;
  neat = neat (identifiers (read w)) k l (true_T _ b);
  form = form_of_book (identifiers (read w)) k (true_T _ b);
  words = sk;
}
