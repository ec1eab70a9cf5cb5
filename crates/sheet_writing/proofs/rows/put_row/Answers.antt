-- `put_row`: the name, and the number behind it. Assumes nothing.
use mathlib.Core.List.{[], ◌∷◌, ◌++◌}
use native.Mathlib.Omega.{arith}
use Rattle.sheets.specs.Grammar.{comma, cr, lf}
use Rattle.sheets.specs.Writer.{name_text, decimal, row_text}
use Rattle.sheets.specs.Laying.{two_pieces}
use Rattle.sheet_writing.specs.Writing.{row_length}
use Rattle.sheet_writing.proofs.rows.put_row.Goals as goal

pub put_name-named-requires : goal.put_name-named-requires
put_name-named-requires c =
    let a = c.args in
    let k = c.requires in
    let z = row_length a.name.bytes.now a.v in
    omega arith

pub put_number-requires : goal.put_number-requires
put_number-requires c =
    let a = c.args in
    let k = c.requires in
    let z = row_length a.name.bytes.now a.v in
    let p = c.put_name-named.ensures.0 in
    let q = c.put_name-named.auto.text in
    omega arith

pub returns : goal.returns
unfolding row_text
returns c =
    let a = c.args in
    let k = c.requires in
    let z = row_length a.name.bytes.now a.v in
    let p = c.put_name-named.ensures in
    let q = c.put_number.ensures in
    (omega arith, two_pieces a.text.now a.at (name_text a.name.bytes.now) (comma ∷ (decimal a.v ++ (cr ∷ lf ∷ []))) _ _ _ p.1 p.0 q.1 k)
