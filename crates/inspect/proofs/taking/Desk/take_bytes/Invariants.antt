-- The lines before what is left are answered. Assumes nothing.
use Rattle.std.proofs.Common.{length}
use Rattle.inspect.proofs.taking.Desk.take_bytes.Given as goal

abbrev pub decreases-loop-rest : goal.decreases-loop-rest
decreases-loop-rest l = length l.left
