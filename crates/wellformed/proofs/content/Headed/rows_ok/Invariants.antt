-- `Headed::rows_ok`: the tests of the rows before i, and their identifiers copied out. Assumes nothing.
use mathlib.Core.Path.{◌≡◌}
use Prim.Native.Nat.{ℕ, ◌<◌}
use lib.ListN.{get_or}
use Rattle.lists.specs.Basics.{every, table}
use Rattle.protocol.specs.Record.{row_start, row_from}
use Rattle.protocol.specs.WellFormed.{row_ok}
use Rattle.wellformed.proofs.content.Headed.rows_ok.Given as goal

abbrev pub invariant-loop-i : goal.invariant-loop-i
invariant-loop-i l = (l.ok ≡ every (row_ok l.n) (table l.i (λ i'. row_from l.w (row_start i')))) × ((k : ℕ) → k < l.i → get_or l.ids k 0 ≡ get_or l.w (row_start k) 0)
