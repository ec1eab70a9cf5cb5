-- `Headed::messages_ok`: what is merged is 0 where the messages before j are as they must be. Assumes nothing.
use mathlib.Core.Path.{◌≡◌}
use Rattle.std.specs.Prelude.{nat_eq}
use Rattle.lists.specs.Basics.{every, table}
use Rattle.protocol.specs.Record.{message_start, message_from}
use Rattle.protocol.specs.WellFormed.{message_ok}
use Rattle.wellformed.proofs.content.Headed.messages_ok.Given as goal

abbrev pub invariant-loop-j : goal.invariant-loop-j
invariant-loop-j l = nat_eq l.bad 0 ≡ every (message_ok l.n l.asked) (table l.j (λ j'. message_from l.w (message_start j')))
