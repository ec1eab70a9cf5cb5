-- `founding::founder::alone_row` is `alone`, field by field. Assumes nothing.
use mathlib.Core.Path.{refl}
use Rattle.founding.proofs.founder.alone_row.Goals as goal

pub returns : goal.returns
returns c = refl
