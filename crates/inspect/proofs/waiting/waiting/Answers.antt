-- `waiting`: a record that passes the questions has a count of messages. Assumes nothing.
use Rattle.std.proofs.Common.{arith}
use Rattle.wellformed.specs.Questions.{passed_so}
use Rattle.inspect.proofs.waiting.waiting.Goals as goal

pub bounds-w-2 : goal.bounds-w-2
bounds-w-2 c = omega (arith, (passed_so c.args.w.now c.in_ok-questions.ensures).long)
