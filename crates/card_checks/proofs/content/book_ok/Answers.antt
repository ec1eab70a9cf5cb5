-- `book_ok`: the parts in turn, and the last where the others pass. Assumes nothing.
use mathlib.Core.Path.{◌≡◌, refl, sym, ◌∙◌, ap}
use native.Mathlib.Omega.{arith}
use Rattle.std.specs.Prelude.{nat_eq}
use Rattle.lists.specs.Basics.{every}
use mathlib.Core.Bool.{true}
use Rattle.protocol.specs.Record.{read, count_in}
use Rattle.protocol.specs.WellFormed.{identifiers}
use Rattle.protocol.specs.Cards.{marks_in, marks_ok, cards_in}
use Rattle.layout.specs.Form.{valid_form}
use Rattle.card_checks.specs.Homes.{names_of, ids_size}
use Rattle.card_checks.specs.Content.{machines_law, unused_law, book_many, book_marks, book_unused, book_machines, book_homes, marks_form}
use Rattle.card_checks.proofs.content.book_ok.Goals as goal

pub returns-then-m-gt-MOST_CARDS : goal.returns-then-m-gt-MOST_CARDS
returns-then-m-gt-MOST_CARDS c = let w = c.args.w.now in
    let k = c.args.k.now in
    let ids = identifiers (read w) in
    sym (book_many ids k c.if-m-gt-MOST_CARDS.true)

pub returns-then-not-marks_ok : goal.returns-then-not-marks_ok
returns-then-not-marks_ok c = let w = c.args.w.now in
    let k = c.args.k.now in
    let ids = identifiers (read w) in
    sym (book_marks ids k (ap (λ z. marks_ok z (marks_in k)) (ids_size w) ∙ sym c.marks_ok.ensures ∙ c.if-not-marks_ok.true))

pub returns-then-not-all_zero : goal.returns-then-not-all_zero
returns-then-not-all_zero c = let w = c.args.w.now in
    let k = c.args.k.now in
    let ids = identifiers (read w) in
    sym (book_unused ids k (ap (every (λ x. nat_eq x 0)) (sym (unused_law k (cards_in k) refl (omega arith))) ∙ sym c.all_zero.ensures ∙ c.if-not-all_zero.true))

pub returns-then-not-machines_differ : goal.returns-then-not-machines_differ
returns-then-not-machines_differ c = let w = c.args.w.now in
    let k = c.args.k.now in
    let ids = identifiers (read w) in
    sym (book_machines ids k (sym (machines_law k (cards_in k) refl) ∙ sym c.machines_differ.ensures ∙ c.if-not-machines_differ.true))

pub returns : goal.returns
returns c = let w = c.args.w.now in
    let k = c.args.k.now in
    let ids = identifiers (read w) in
    let m : marks_ok (count_in w) (marks_in k) ≡ true = sym c.marks_ok.ensures ∙ c.if-not-marks_ok.false in
    book_homes ids k (omega arith) (ap (λ z. marks_ok z (marks_in k)) (ids_size w) ∙ m)
    (ap (every (λ x. nat_eq x 0)) (sym (unused_law k (cards_in k) refl (omega arith))) ∙ sym c.all_zero.ensures ∙ c.if-not-all_zero.false)
    (sym (machines_law k (cards_in k) refl) ∙ sym c.machines_differ.ensures ∙ c.if-not-machines_differ.false)
    c.homes_ok.result
    (c.homes_ok.ensures ids (names_of w (valid_form w c.requires.0) (λ i. omega (arith, c.shared_slice_known-1.given i))) c.requires.1 (ids_size w) (marks_form (count_in w) (marks_in k) m))
