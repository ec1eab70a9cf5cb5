-- `checked_names`: the questions in turn; what is known of the cards after them. Assumes nothing.
use mathlib.Core.Path.{sym, ◌∙◌}
use native.Mathlib.Omega.{arith}
use Rattle.protocol.specs.Cards.{on_both}
use Rattle.layout.specs.Form.{valid}
use Rattle.card_checks.specs.Ready.{both_short, lengths, both_2, both_cards_2, both_rest, ready}
use Rattle.card_checks.proofs.checked.checked_names.Goals as goal

pub returns-then-not-both_long : goal.returns-then-not-both_long
unfolding on_both
returns-then-not-both_long c = λ rest. both_short c.args.w.now c.args.k.now _ (sym c.both_long.ensures ∙ c.if-not-both_long.true)

pub returns-then-not-well_formed : goal.returns-then-not-well_formed
returns-then-not-well_formed c = let long = lengths c.args.w.now c.args.k.now (sym c.both_long.ensures ∙ c.if-not-both_long.false) in
    λ rest. both_2 c.args.w.now c.args.k.now rest long.0 long.1 (sym c.well_formed-2.ensures ∙ c.if-not-well_formed.true)

pub names_of-names-requires : goal.names_of-names-requires
names_of-names-requires c = let long = lengths c.args.w.now c.args.k.now (sym c.both_long.ensures ∙ c.if-not-both_long.false) in
    valid c.args.w.now long.0 (sym c.well_formed-2.ensures ∙ c.if-not-well_formed.false)

pub book_ok-requires : goal.book_ok-requires
book_ok-requires c = let long = lengths c.args.w.now c.args.k.now (sym c.both_long.ensures ∙ c.if-not-both_long.false) in
    (valid c.args.w.now long.0 (sym c.well_formed-2.ensures ∙ c.if-not-well_formed.false), c.names_of-names.ensures.1, long.1)

pub returns-then-not-book_ok : goal.returns-then-not-book_ok
returns-then-not-book_ok c = let long = lengths c.args.w.now c.args.k.now (sym c.both_long.ensures ∙ c.if-not-both_long.false) in
    λ rest. both_cards_2 c.args.w.now c.args.k.now rest long.0 long.1 (sym c.well_formed-2.ensures ∙ c.if-not-well_formed.false) (sym c.book_ok.ensures ∙ c.if-not-book_ok.true)

pub returns : goal.returns
returns c = let w = c.args.w.now in
    let k = c.args.k.now in
    let long = lengths w k (sym c.both_long.ensures ∙ c.if-not-both_long.false) in
    let formed = sym c.well_formed-2.ensures ∙ c.if-not-well_formed.false in
    let sound = sym c.book_ok.ensures ∙ c.if-not-book_ok.false in
    let v = valid w long.0 formed in
    (v, ready w c.names_of-names.result k v c.names_of-names.ensures.1 long.1 sound (λ i. omega (arith, c.type_inv.w i)) (λ i. omega (arith, c.type_inv.k i)), λ rest. both_rest w k rest long.0 long.1 formed sound)
