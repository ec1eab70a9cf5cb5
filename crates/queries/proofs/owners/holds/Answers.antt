-- `holds`: the node's state and its range decide, in this order. Assumes nothing.
use mathlib.Core.Path.{sym, ◌∙◌, ap}
use Rattle.protocol.specs.Routing.{responsible, covers}
use Rattle.protocol.specs.Record.{read, identifier}
use Rattle.queries.specs.Questions.{holds_no, holds_by_range}
use Rattle.queries.proofs.owners.holds.Goals as goal

pub returns-then-not-responsible : goal.returns-then-not-responsible
returns-then-not-responsible c =
    let a = c.args in
    sym (holds_no a.w.now a.v a.node (ap responsible (sym c.row_of-h.ensures) ∙ sym c.responsible.ensures ∙ c.if-not-responsible.true))

pub returns : goal.returns
returns c =
    let a = c.args in
    let w = a.w.now in
    let h = c.row_of-h in
    c.covers.ensures
    ∙ ap (λ p. covers p h.result a.v) c.identifier_of-p.ensures
    ∙ ap (λ z. covers (identifier (read w) z.pred) z a.v) h.ensures
    ∙ sym (holds_by_range w a.v a.node (ap responsible (sym h.ensures) ∙ sym c.responsible.ensures ∙ c.if-not-responsible.false))
