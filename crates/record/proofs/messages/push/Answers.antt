-- `push`: the message is written behind the last one, and the count raised. Assumes nothing.
use native.Mathlib.Omega.{arith}
use Prim.Native.Nat.{◌+◌, ◌-◌}
use Rattle.lists.specs.Splice.{put_part}
use Rattle.protocol.specs.Record.{message_size, message_start, message_words}
use Rattle.record.proofs.messages.push.Goals as goal

pub returns : goal.returns
returns c = let a = c.args in
    let at = message_start a.n in
    rw (c.copy_from_slice.ensures.after, c.from.ensures, put_part at (at + message_size - at) a.w.now (message_words a.m) (omega arith))
