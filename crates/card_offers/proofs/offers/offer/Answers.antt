-- `offer`: the questions of both slices, the hub, then the card. Assumes nothing.
use mathlib.Core.Path.{sym, ◌∙◌, ap, subst}
use native.Mathlib.Omega.{arith}
use Rattle.std.specs.Prelude.{Err}
use Rattle.std.proofs.lemmas.Result.{err_from_is_err_and}
use Rattle.protocol.specs.Record.{read}
use Rattle.protocol.specs.WellFormed.{identifiers}
use Rattle.protocol.specs.Cards.{marks_in, read_book, offered, offer_written, offer_call}
use Rattle.card_checks.specs.Homes.{Nearest, nearest_found, nearest_home}
use Rattle.card_offers.proofs.offers.offer.Goals as goal

pub returns-in_err-names : goal.returns-in_err-names
unfolding offer_call
returns-in_err-names c = let a = c.args in
    let refusal = err_from_is_err_and c.from_residual.result c.from_residual.ensures.1 in
    c.in_err-names.ensures _
    ∙ ap (λ o. record { outcome = o; slice = a.w.now; cards = a.k.now }) (sym (refusal.1 ∙ ap Err refusal.2))

pub unwrap-hub-requires : goal.unwrap-hub-requires
unfolding read_book
unwrap-hub-requires c = let a = c.args in
    let some = c.in_ok-names.ensures.1.form.marks.some in
    nearest_found c.in_ok-names.names (marks_in a.k.now) a.machine (omega arith) some.0 some.1 c.nearest.result c.nearest.ensures

pub put-requires : goal.put-requires
put-requires c = c.in_ok-names.ensures.1.neat

pub returns : goal.returns
unfolding offer_call read_book
returns c = let a = c.args in
    let w = a.w.now in
    let k = a.k.now in
    let r = c.in_ok-names.ensures.1 in
    let found = subst (Nearest c.in_ok-names.names (marks_in k) a.machine) c.unwrap-hub.ensures c.nearest.ensures in
    c.in_ok-names.ensures.2 _
    ∙ ap (λ h. offer_written w k (offered (read_book k).cards (record { machine = a.machine; revision = a.revision; price = a.price; hub = h })))
    (sym (found.0 ∙ nearest_home (identifiers (read w)) c.in_ok-names.names (marks_in k) r.apart r.copied r.form.marks a.machine (omega arith)))
    ∙ c.put.ensures w
