-- `ask`: its questions in order; the rest is `asking`. Assumes nothing.
use Rattle.protocol.specs.Record.{read, identifier}
use Rattle.steps.specs.Questions.{ask_4, ask_5, ask_12, ask_routed}
use Rattle.protocol.specs.Record.{read}
use Rattle.protocol.specs.Step.{asking}
use Rattle.protocol.specs.Routing.{in_ring, onward}
use Rattle.protocol.specs.Calls.{written}
use mathlib.Core.Path.{◌∙◌, ap, sym}
use Rattle.steps.proofs.asks.ask.Goals as goal

pub returns-then-w-x : goal.returns-then-w-x
unfolding written
returns-then-w-x c =
    let a = c.args in
    ap (written a.w.now) (ask_4 a.w.now a.x a.v c.if-w-x.true)

pub returns-then-not-in_ring : goal.returns-then-not-in_ring
unfolding written
returns-then-not-in_ring c =
    let a = c.args in
    let w = a.w.now in
    let ring = ap in_ring (sym c.row_of-h.ensures) ∙ sym c.in_ring.ensures ∙ c.if-not-in_ring.true in
    ap (written w) (ask_5 w a.x a.v c.if-w-x.false ring)

pub returns-then-w-lt4294967295 : goal.returns-then-w-lt4294967295
returns-then-w-lt4294967295 c =
    let a = c.args in
    let w = a.w.now in
    let h = c.row_of-h in
    let ring = ap in_ring (sym h.ensures) ∙ sym c.in_ring.ensures ∙ c.if-not-in_ring.false in
    let way = c.onward.ensures
    ∙ ap (λ z. onward z h.result a.v) c.identifier_of-p.ensures
    ∙ ap (λ z. onward (identifier (read w) z.pred) z a.v) h.ensures in
    ap (written w) (ask_routed w a.x a.v c.if-w-x.false ring c.if-w-lt4294967295.true ∙ ap (asking (read w) a.x a.v) (sym way))
    ∙ c.asking.ensures

pub returns : goal.returns
unfolding written
returns c =
    let a = c.args in
    let w = a.w.now in
    let ring = ap in_ring (sym c.row_of-h.ensures) ∙ sym c.in_ring.ensures ∙ c.if-not-in_ring.false in
    ap (written w) (ask_12 w a.x a.v c.if-w-x.false ring c.if-w-lt4294967295.false)
