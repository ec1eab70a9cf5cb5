-- `copy_row`: the name, and what is behind it. Assumes nothing.
use mathlib.Core.Path.{subst}
use lib.ListN.{length}
use Rattle.sheet_reading.specs.Judged.{RestIs}
use Rattle.sheet_reading.specs.Put.{rest_there, row_put}
use Rattle.sheet_reading.proofs.copying.copy_row.Goals as goal

pub unwrap-requires : goal.unwrap-requires
unwrap-requires c =
    let a = c.args in
    let n = c.copy_name-name in
    rest_there a.text.now a.from a.at (length a.names.now) c.requires.1 a.names.now _ n.result n.ensures c.row_of.result c.row_of.ensures

pub returns : goal.returns
returns c =
    let a = c.args in
    let n = c.copy_name-name in
    row_put a.text.now a.from a.at (length a.names.now) c.requires.1 a.names.now _ n.result n.ensures c.unwrap.result (subst (RestIs a.text.now _) c.unwrap.ensures c.row_of.ensures)
