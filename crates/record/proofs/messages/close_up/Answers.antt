-- `close_up`: what comes forward, with an empty message behind it. Assumes nothing.
use native.Mathlib.Omega.{arith}
use mathlib.Core.Path.{◌≡◌}
use Prim.Native.Nat.{◌+◌, ◌-◌}
use lib.ListN.{length, length-take, length-drop, take, drop}
use Rattle.std.proofs.Math.Nat.{zero-add}
use Rattle.lists.specs.Splice.{put_part, shifted, closed_up, length_shifted}
use Rattle.protocol.specs.Record.{message_size, message_words, no_message}
use Rattle.record.proofs.messages.close_up.Goals as goal

pub returns : goal.returns
unfolding shifted closed_up
returns c = let n = c.args.n in
    let s = shifted message_size c.args.part.now n in
    let e : (message_size + n) - message_size ≡ n = omega arith in
    let k : length (take ((n + message_size) - n) (drop n s)) ≡ message_size = simp (length-take, length-drop) (omega (arith, length_shifted message_size c.args.part.now n (omega arith))) in
    rw (c.fill.ensures.after, c.copy_within.ensures.after, e, zero-add, k) (put_part n ((n + message_size) - n) s (message_words no_message) (omega arith))
