-- `ask_each`: record and output are those that the numbers so far leave. Assumes nothing.
use Rattle.std.proofs.Common.{◌≡◌}
use Rattle.batches.specs.Each.{placed, up_to}
use Rattle.batches.proofs.asks.ask_each.Given as goal

abbrev pub invariant-loop-i : goal.invariant-loop-i
invariant-loop-i l =
    (l.w ≡ (up_to l.initial.w l.node l.numbers l.i).slice) × (l.outcomes ≡ placed l.initial.outcomes (up_to l.initial.w l.node l.numbers l.i).outcomes l.i)
