-- `founding::writing::write_fresh` leaves the words of a fresh ring: the law is `fresh_is`. Assumes nothing.
use mathlib.Core.Path.{◌∙◌}
use native.Mathlib.Omega.{arith}
use lib.ListN.{length-set}
use Rattle.founding.specs.Laws.{fresh_is}
use Rattle.founding.proofs.writing.write_fresh.Goals as goal

pub bounds-w-1 : goal.bounds-w-1
bounds-w-1 c = simp length-set (omega (arith, c.clear.auto.w))

pub put_rows-requires : goal.put_rows-requires
put_rows-requires c = simp length-set (omega (arith, c.clear.auto.w))

pub put_row-requires : goal.put_row-requires
put_row-requires c =
    omega (arith, simp length-set at c.put_rows.auto.w, c.clear.auto.w)

pub shape_of-w : goal.shape_of-w
shape_of-w c =
    c.put_row.auto.w ∙ c.put_rows.auto.w ∙ simp length-set c.clear.auto.w

pub returns : goal.returns
returns c =
    let a = c.args in
    c.put_row.ensures
    ∙ rw (c.alone_row.ensures, c.put_rows.ensures, c.clear.ensures)
    (fresh_is a.identifiers.now a.w.now a.founder (omega arith) (omega arith))
