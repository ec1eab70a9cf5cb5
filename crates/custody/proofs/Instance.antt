-- The premises of the theorem can be met: a ring of the identifiers 200 and 100 with its cards, in any two slices that are long enough, whichever of
-- the two hubs is named as the founder; and where none is named, hub 1 is it. The calls may be a list with a route. Assumes nothing.
use Rattle.std.specs.Prelude.{◌≡◌, refl, List, ℕ, ◌≤◌, T, nat_lt, length}
use Rattle.std.proofs.Common.{ap, le→leb}
use native.Mathlib.Omega.{arith}
use Rattle.lists.specs.Basics.{when◌then◌else◌, All, every, first, distinct}
use Rattle.lists.specs.Choice.{granted}
use Rattle.protocol.specs.declared.Answer.TheVariants.{Quiet}
use Rattle.std.specs.Prelude.{Ok}
use Rattle.protocol.specs.Record.{record_size}
use Rattle.protocol.specs.Fresh.{smallest}
use Rattle.protocol.specs.Calls.{long}
use Rattle.protocol.specs.Cards.{book_size, CardsCalled, both_long, with_new_book, fresh_by_cards, fresh_cards}
use Rattle.atomicity.specs.Instance.{two}
use Rattle.atomicity.specs.Record.{fresh_gives}
use Rattle.custody.specs.Custody.{CardCall, InWords, Custody}
use Rattle.custody.specs.Instance.{Going, on_tour}
use Rattle.custody.proofs.Theorem.{custody}

module _ (slice book : List ℕ) (l : record_size ≤ length slice) (m : book_size ≤ length book) (calls : List CardCall) (a : All InWords calls) where
  accepted : (founder : ℕ) → T (nat_lt founder 2) → (fresh_by_cards slice book two founder).outcome ≡ Ok Quiet
  unfolding fresh_by_cards both_long long with_new_book distinct every
  accepted founder below =
      granted (λ (z : CardsCalled). z.outcome ≡ Ok Quiet) _ _ _ (le→leb _ _ l)
      (granted (λ (z : CardsCalled). z.outcome ≡ Ok Quiet) _ _ _ (le→leb _ _ m)
      (ap (λ z. (with_new_book slice book founder z.slice z.outcome).outcome) (fresh_gives slice two founder l below tt tt)))

  pub two_hubs_with_cards : (founder : ℕ) → T (nat_lt founder 2) → Going (fresh_by_cards slice book two founder) slice founder calls
  unfolding Custody
  two_hubs_with_cards founder below = custody two founder _ _ _ (record {
    slice = slice;
    book = book;
    calls = calls;
    small = (omega arith, (omega arith, tt));
    commands = a;
    accepted = accepted founder below;
    happened = refl;
    is_record = refl;
    is_cards = refl;
  })

  pub two_hubs_with_cards_none_named : Going (fresh_cards slice book two) slice 1 calls
  unfolding smallest first every when◌then◌else◌
  two_hubs_with_cards_none_named = two_hubs_with_cards 1 tt

pub two_hubs_with_a_route : (slice book out : List ℕ) → record_size ≤ length slice → book_size ≤ length book → Going (fresh_cards slice book two) slice 1 (on_tour out)
two_hubs_with_a_route slice book out l m = two_hubs_with_cards_none_named slice book l m (on_tour out) (
  record { operation = omega arith; x = omega arith; y = omega arith },
  ((omega arith, omega arith, omega arith), ((omega arith, (omega arith, (omega arith, (omega arith, tt)))), tt)),
)
