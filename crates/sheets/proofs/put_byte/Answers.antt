-- `put_byte`: one byte set. Assumes nothing.
use mathlib.Core.Path.{refl}
use native.Mathlib.Omega.{arith}
use Rattle.sheets.specs.Laying.{splice_one}
use Rattle.sheets.proofs.put_byte.Goals as goal

pub returns : goal.returns
returns c = (refl, splice_one _ _ _ (omega arith))
