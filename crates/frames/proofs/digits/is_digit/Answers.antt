-- `frames::digits::is_digit` is `is_digit`, from its two ranges. Assumes nothing.
use mathlib.Core.Path.{refl}
use Rattle.protocol.specs.Frames.{is_digit}
use Rattle.frames.proofs.digits.is_digit.Goals as goal

pub returns : goal.returns
unfolding is_digit
returns c = rw c.is_ascii_digit.ensures.value refl
