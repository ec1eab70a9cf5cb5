-- `fields_line`: five numbers put into their places, in front of LF, which compute. Assumes nothing.
use Rattle.std.proofs.Common.{refl}
use Rattle.protocol.specs.Frames.{fields_text, line}
use Rattle.frames.proofs.printing.fields_line.Goals as goal

pub returns : goal.returns
unfolding fields_text line
returns c = rw (c.push.ensures.kept, c.new-printed.ensures, c.put-5.ensures, c.put-4.ensures, c.put-3.ensures, c.put-2.ensures, c.put.ensures) refl
