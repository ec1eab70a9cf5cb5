-- `zeros`: those counted, and those that are left. Assumes nothing.
use Rattle.std.proofs.Common.{◌≡◌, ◌+◌, ◌≤◌, drop}
use Rattle.sheets.specs.Writer.{zeros}
use Rattle.sheet_writing.proofs.names.zeros.Given as goal

abbrev pub invariant-loop-b : goal.invariant-loop-b
invariant-loop-b l = record { counted : zeros l.names ≡ l.n + zeros (drop l.b-index l.names); few : l.n ≤ l.b-index }
