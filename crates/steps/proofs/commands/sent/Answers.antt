-- `sent`: the last question, then the row and the message. Assumes nothing.
use mathlib.Core.Path.{◌∙◌, ap, sym}
use native.Mathlib.Omega.{arith}
use Rattle.steps.specs.Settle.{settled_is}
use Rattle.steps.specs.Questions.{sending_11, sending_sent}
use Rattle.protocol.specs.Calls.{written}
use Rattle.steps.proofs.commands.sent.Goals as goal

pub settle-requires : goal.settle-requires
settle-requires c = let v = c.requires.0 in (c.if-m-lt-MOST_MESSAGES.true, omega (arith, v.nodes, c.requires.1), v.long)

pub returns-then-m-lt-MOST_MESSAGES : goal.returns-then-m-lt-MOST_MESSAGES
returns-then-m-lt-MOST_MESSAGES c =
    let a = c.args in
    let w = a.w.now in
    let room = c.if-m-lt-MOST_MESSAGES.true in
    ap (written w) (sending_sent w a.x a.h a.told room) ∙ sym (settled_is w c.requires.0 a.x _ c.requires.1 room) ∙ c.settle.ensures

pub returns : goal.returns
unfolding written
returns c = let a = c.args in ap (written a.w.now) (sending_11 a.w.now a.x a.h a.told c.if-m-lt-MOST_MESSAGES.false)
