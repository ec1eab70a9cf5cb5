-- `frames::printing::outcome_line`: what the two lines ensure, by the outcome. Assumes nothing.
use Rattle.protocol.specs.Frames.{outcome_text, line, refusal_text}
use Rattle.frames.proofs.printing.outcome_line.Goals as goal

pub returns-in-Err : goal.returns-in-Err
unfolding outcome_text line refusal_text
returns-in-Err c = simp (c.in-Err.is, ← c.from.ensures) c.refusal_line.ensures

pub returns-in-Ok : goal.returns-in-Ok
unfolding outcome_text
returns-in-Ok c = simp (c.in-Ok.is, ← c.from-in-Ok.ensures) c.fields_line.ensures
