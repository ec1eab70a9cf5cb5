-- `code`: a refusal's number, 0 for none. Assumes nothing.
use Rattle.protocol.specs.Answers.{refusal}
use Rattle.ring_c.proofs.code.Goals as goal

pub returns-in-Ok : goal.returns-in-Ok
unfolding refusal
returns-in-Ok c = simp c.in-Ok.is

pub returns-in-Err : goal.returns-in-Err
unfolding refusal
returns-in-Err c = simp (c.in-Err.is, c.from.ensures)
