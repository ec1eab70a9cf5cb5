-- `fresh`: the questions, the ring, then its cards. Assumes nothing.
use Rattle.std.proofs.Common.{ap, sym, ◌∙◌, arith}
use Rattle.std.specs.Prelude.{Err}
use Rattle.std.proofs.lemmas.Result.{err_from_is_err_and}
use Rattle.protocol.specs.Fresh.{founder_of}
use Rattle.card_checks.specs.Ready.{lengths}
use Rattle.cards.specs.New.{fresh_below, new_short, new_refused, new_made}
use Rattle.cards.proofs.new_book.fresh.Goals as goal

pub returns-then-not-both_long : goal.returns-then-not-both_long
returns-then-not-both_long c = let a = c.args in new_short a.w.now a.k.now a.identifiers.now (founder_of a.founder a.identifiers.now) (sym c.both_long.ensures ∙ c.if-not-both_long.true)

pub write_new-requires : goal.write_new-requires
write_new-requires c = let a = c.args in
    let f = c.fresh in
    let long = lengths a.w.now a.k.now (sym c.both_long.ensures ∙ c.if-not-both_long.false) in
    let l = fresh_below a.w.now a.identifiers.now (founder_of a.founder a.identifiers.now) f.result _ c.in_ok-a.a f.ensures c.in_ok-a.was in
    (omega (arith, l, c.founding_node.ensures), long.1)

pub returns-in_err-a : goal.returns-in_err-a
returns-in_err-a c = let a = c.args in
    let f = c.fresh in
    let long = lengths a.w.now a.k.now (sym c.both_long.ensures ∙ c.if-not-both_long.false) in
    let refusal = err_from_is_err_and c.from_residual.result c.from_residual.ensures.1 in
    new_refused a.w.now a.k.now a.identifiers.now (founder_of a.founder a.identifiers.now) long.0 long.1 f.result _ f.ensures c.in_err-a.field-0.0 c.in_err-a.was
    ∙ ap (λ o. record { outcome = o; slice = f.new.w; cards = a.k.now }) (sym (refusal.1 ∙ ap Err refusal.2))

pub returns : goal.returns
returns c = let a = c.args in
    let f = c.fresh in
    let n = c.founding_node in
    let long = lengths a.w.now a.k.now (sym c.both_long.ensures ∙ c.if-not-both_long.false) in
    new_made a.w.now a.k.now a.identifiers.now (founder_of a.founder a.identifiers.now) long.0 long.1 f.result _ f.ensures c.in_ok-a.a c.in_ok-a.was n.result n.ensures _ c.write_new.ensures
