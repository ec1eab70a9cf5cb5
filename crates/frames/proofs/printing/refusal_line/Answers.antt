-- `refusal_line`: two numbers put into their places, in front of LF. Assumes nothing.
use mathlib.Core.Path.{refl}
use Rattle.protocol.specs.Frames.{refusal_text, line}
use Rattle.frames.proofs.printing.refusal_line.Goals as goal

pub returns : goal.returns
unfolding refusal_text line
returns g c = rw (c.push.ensures.kept, c.new-printed.ensures, c.put-2.ensures, c.put.ensures) refl
