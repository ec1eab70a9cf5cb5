-- `comes_back`: each return is one of the ways in which a roll goes on. Assumes nothing.
use Rattle.std.proofs.Common.{ap, sym, ◌∙◌}
use Rattle.protocol.specs.Record.{read}
use Rattle.protocol.specs.Calls.{complete}
use Rattle.queries.specs.Rolls.{gathered, used_up, ends, no_succ, goes_on}
use Rattle.queries.proofs.rolls.+comes_back.Goals as goal

pub returns-then-left-eq0 : goal.returns-then-left-eq0
unfolding gathered
returns-then-left-eq0 t c =
    let a = c.args in
    used_up a.passed.now.items (read a.w.now) a.start a.left a.node c.if-left-eq0.true

pub returns-then-next-start : goal.returns-then-next-start
unfolding gathered
returns-then-next-start t c =
    let a = c.args in
    let h = c.row_of-next in
    ends a.passed.now.items (read a.w.now) a.start a.left a.node c.if-left-eq0.false h.result.succ (ap (λ z. z.succ) h.ensures) c.if-next-start.true
    ∙ ap complete (sym c.push.ensures.items)

pub returns-then-next-eq-NONE : goal.returns-then-next-eq-NONE
unfolding gathered
returns-then-next-eq-NONE t c =
    let a = c.args in
    let h = c.row_of-next in
    no_succ a.passed.now.items (read a.w.now) a.start a.left a.node c.if-left-eq0.false h.result.succ (ap (λ z. z.succ) h.ensures)
    c.if-next-start.false c.if-next-eq-NONE.true

pub returns : goal.returns
returns t c =
    let a = c.args in
    let h = c.row_of-next in
    goes_on a.passed.now.items (read a.w.now) a.start a.left a.node c.if-left-eq0.false h.result.succ (ap (λ z. z.succ) h.ensures)
    c.if-next-start.false c.if-next-eq-NONE.false
    ∙ rw (← c.push.ensures.items) c.comes_back.ensures
