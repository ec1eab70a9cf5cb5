-- `bad_message`: ends and fields, merged. Assumes nothing.
use Rattle.wellformed.specs.Laws.{message_law}
use Rattle.wellformed.proofs.message.bad_message.Goals as goal

pub returns : goal.returns
returns c = let a = c.args in message_law a.n a.asked a.m c.bad_ends.result c.bad_fields.result c.bad_ends.ensures c.bad_fields.ensures
