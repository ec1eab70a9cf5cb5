-- `nearest`: the first node at the least distance. Assumes nothing.
use mathlib.Core.Path.{◌≡◌, sym, ◌∙◌, subst}
use borrow.Author.Rules.{rules}
use Rattle.std.proofs.lemmas.Iterator.{YieldsList-from_slice, YieldsList-from_zip}
use Rattle.std.proofs.lemmas.Iterator.Search.{position_from_yields_List}
use Rattle.clockwise.specs.Clockwise.{dist}
use Rattle.protocol.specs.Record.{round}
use Rattle.card_checks.specs.Homes.{by_side, Nearest, nearest_law, closest, far_to}
use Rattle.card_checks.proofs.owners.nearest.Goals as goal

pub returns-in_err-near : goal.returns-in_err-near
unfolding closest far_to
returns-in_err-near c = let a = c.args in
    let names = a.names.now in
    let marks = a.marks.now in
    let d = c.least-d in
    let close : d.result ≡ closest names marks a.v = d.ensures (λ x. dist round a.v x) (λ x y p. search rules) in
    let law = nearest_law names marks a.v c.requires.0 d.result close c.position.result
    (position_from_yields_List (by_side a.v d.result) c.position.new.self _ c.position.result c.position.ensures.ran (YieldsList-from_zip (YieldsList-from_slice marks (cc)) (YieldsList-from_slice names (cc))) (λ x b q k. search rules)) in
    subst (Nearest names marks a.v) (c.in_err-near.was ∙ sym c.from_residual.ensures) law

pub returns : goal.returns
unfolding closest far_to
returns c = let a = c.args in
    let names = a.names.now in
    let marks = a.marks.now in
    let d = c.least-d in
    let close : d.result ≡ closest names marks a.v = d.ensures (λ x. dist round a.v x) (λ x y p. search rules) in
    let law = nearest_law names marks a.v c.requires.0 d.result close c.position.result
    (position_from_yields_List (by_side a.v d.result) c.position.new.self _ c.position.result c.position.ensures.ran (YieldsList-from_zip (YieldsList-from_slice marks (cc)) (YieldsList-from_slice names (cc))) (λ x b q k. search rules)) in
    subst (Nearest names marks a.v) c.in_ok-near.was law
