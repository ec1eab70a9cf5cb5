-- `remove`: the gap is closed up, and the count is one less. Assumes nothing.
use Rattle.lists.specs.Splice.{part_from, part_back}
use Rattle.protocol.specs.Record.{message_start}
use Rattle.layout.specs.Edits.{removed}
use Rattle.record.proofs.messages.remove.Goals as goal

pub returns : goal.returns
unfolding removed
returns c = let a = c.args in
    rw (part_back a.w.now c.close_up.new.part (message_start a.j), c.close_up.ensures, part_from a.w.now (message_start a.j))
