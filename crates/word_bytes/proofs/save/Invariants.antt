-- `save` writes all words over the bytes: so far the first i of them. Assumes nothing.
use mathlib.Core.Path.{◌≡◌}
use lib.ListN.{take}
use Rattle.protocol.specs.Bytes.{over}
use Rattle.word_bytes.proofs.save.Given as goal

abbrev pub invariant-loop-i : goal.invariant-loop-i
invariant-loop-i l = l.b ≡ over l.initial.b (take l.i l.w)
