-- `bare`. Assumes nothing.
use mathlib.Core.Path.{refl}
use Rattle.sheets.specs.Grammar.{bare}
use Rattle.sheets.proofs.bare.Goals as goal

pub returns : goal.returns
unfolding bare
returns c = refl
