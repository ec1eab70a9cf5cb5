-- `well_formed`: header, rows, messages and unused words in turn. Assumes nothing.
use mathlib.Core.Path.{◌≡◌, refl, sym, ◌∙◌}
use mathlib.Core.Bool.{true}
use Rattle.protocol.specs.WellFormed.{header_ok}
use Rattle.wellformed.specs.Laws.{fails_header, fails_nodes, fails_messages, passes_messages, nodes_few, messages_few}
use Rattle.wellformed.proofs.whole.well_formed.Goals as goal

pub returns-then-not-header_ok : goal.returns-then-not-header_ok
returns-then-not-header_ok c = sym (fails_header c.args.w.now (sym c.header_ok.ensures ∙ c.if-not-header_ok.true))

pub returns-then-not-nodes_ok : goal.returns-then-not-nodes_ok
returns-then-not-nodes_ok c = sym (fails_nodes c.args.w.now (sym c.nodes_ok.ensures ∙ c.if-not-nodes_ok.true))

pub returns-then-not-messages_ok : goal.returns-then-not-messages_ok
returns-then-not-messages_ok c = sym (fails_messages c.args.w.now _ _ refl refl (sym c.messages_ok.ensures ∙ c.if-not-messages_ok.true))

pub returns : goal.returns
returns c =
    let w = c.args.w.now in
    let h : header_ok w ≡ true = sym c.header_ok.ensures ∙ c.if-not-header_ok.false in
    passes_messages w _ _ refl refl h (sym c.nodes_ok.ensures ∙ c.if-not-nodes_ok.false) (sym c.messages_ok.ensures ∙ c.if-not-messages_ok.false) c.unused_ok.result c.unused_ok.ensures

pub invariant_of-record : goal.invariant_of-record
invariant_of-record c =
    let w = c.args.w.now in
    let h : header_ok w ≡ true = sym c.header_ok.ensures ∙ c.if-not-header_ok.false in
    record { long = c.requires; nodes_are = refl; nodes_few = nodes_few w h; messages_are = refl; messages_few = messages_few w h }
