-- `until`: each turn so far said that one more follows. Assumes nothing.
use Rattle.std.proofs.Common.{true}
use Rattle.std.specs.Prelude.{replicate}
use Rattle.std.specs.List.{FoldsTo}
use Rattle.console.proofs.turns.until.Given as goal

abbrev pub invariant-loop : goal.invariant-loop
invariant-loop g l = goal.F-IsAlwaysCallable g l.turn × FoldsTo (goal.F-step g) l.initial.turn (replicate l.counter true) l.turn
