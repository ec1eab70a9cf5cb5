-- `asking`: an own question is answered, another sent on if there is room. Assumes nothing.
use Prim.Native.Nat.{◌+◌}
use lib.ListN.{set}
use Rattle.layout.specs.Edits.{pushed}
use Rattle.protocol.specs.Record.{read, asked_in, messages_in}
use Rattle.steps.specs.Settle.{own_ask_is, sent_ask_is}
use Rattle.steps.specs.Questions.{asking_11, asking_sent}
use Rattle.std.specs.Prelude.{Ok}
use Rattle.protocol.specs.declared.Answer.TheVariants.{Quiet, Found}
use Rattle.protocol.specs.Step.{asking}
use Rattle.protocol.specs.Calls.{written}
use mathlib.Core.Path.{◌∙◌, ap, sym}
use Rattle.steps.proofs.asks.asking.Goals as goal

pub returns-then-m-lt-MOST_MESSAGES : goal.returns-then-m-lt-MOST_MESSAGES
unfolding written
returns-then-m-lt-MOST_MESSAGES c =
    let a = c.args in
    let w = a.w.now in
    let valid = c.requires.0 in
    let room = c.if-m-lt-MOST_MESSAGES.true in
    let stored = ap (λ z. set z 3 (asked_in w + 1)) (c.push.ensures ∙ ap (pushed w (messages_in w)) c.question.ensures) in
    rw c.in-To.is
    (ap (written w) (asking_sent w a.x a.v _ room) ∙ ap (λ z. record { outcome = Ok Quiet; slice = z }) (sym (stored ∙ sent_ask_is w valid _ room)))

pub returns-in-Own : goal.returns-in-Own
unfolding written asking read
returns-in-Own c =
    let a = c.args in
    let w = a.w.now in
    rw c.in-Own.is
    (ap (λ z. record { outcome = Ok (Found a.x a.v (asked_in w) 0); slice = z }) (sym (own_ask_is w c.requires.0)))

pub returns-else-m-lt-MOST_MESSAGES : goal.returns-else-m-lt-MOST_MESSAGES
unfolding written
returns-else-m-lt-MOST_MESSAGES c =
    let a = c.args in
    let w = a.w.now in
    rw c.in-To.is (ap (written w) (asking_11 w a.x a.v _ c.if-m-lt-MOST_MESSAGES.false))
