-- `Headed::messages_ok`: what is merged is 0 where the messages before j are as they must be. Assumes nothing.
use mathlib.Core.Path.{sym, ◌∙◌, ap, ap₂}
use mathlib.Core.Bool.{◌&&◌}
use Rattle.lists.specs.Merge.{or_test, every_none, every_more}
use Rattle.protocol.specs.Record.{asked_in, message_start, message_from}
use Rattle.protocol.specs.WellFormed.{message_ok}
use Rattle.wellformed.proofs.content.Headed.messages_ok.Goals as goal

pub loop-j-init : goal.loop-j-init
loop-j-init c = sym (every_none _ _)

pub loop-j-preserved : goal.loop-j-preserved
loop-j-preserved c =
    let l = c.loop-j in
    let a = c.args in
    or_test l.bad c.bad_message-bad.result
    ∙ ap₂ (λ x y. x && y) l.invariant (c.bad_message-bad.ensures ∙ ap (message_ok a.self.now.nodes (asked_in a.self.now.words.now)) c.message_at.ensures)
    ∙ sym (every_more (message_ok a.self.now.nodes (asked_in a.self.now.words.now)) (λ j. message_from a.self.now.words.now (message_start j)) l.j)
