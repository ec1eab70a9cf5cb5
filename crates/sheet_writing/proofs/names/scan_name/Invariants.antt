-- `scan_name`: what is counted of the bytes of the name so far. Assumes nothing.
use Rattle.sheet_writing.specs.Scanning.{Scanning}
use Rattle.sheet_writing.proofs.names.scan_name.Given as goal

abbrev pub invariant-loop-i : goal.invariant-loop-i
invariant-loop-i l = Scanning l.names l.i l.quotes l.plain
