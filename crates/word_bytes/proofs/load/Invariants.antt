-- `load` reads words out of the bytes: what is read so far are the first i of them. Assumes nothing.
use mathlib.Core.Path.{◌≡◌}
use lib.ListN.{take}
use Rattle.word_bytes.specs.Carry.{first_words}
use Rattle.word_bytes.proofs.load.Given as goal

abbrev pub invariant-loop-i : goal.invariant-loop-i
invariant-loop-i l = take l.i l.w ≡ first_words l.b l.i
