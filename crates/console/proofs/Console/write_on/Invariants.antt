-- `write_on`: what is left is no more than the text. Assumes nothing.
use Rattle.std.proofs.Common.{◌≤◌, length}
use Rattle.console.proofs.Console.write_on.Given as goal

abbrev pub invariant-loop : goal.invariant-loop
invariant-loop l = length l.left ≤ length l.text
