-- `fill`: the rows up to i are written. Assumes nothing.
use mathlib.Core.Path.{refl, ap, sym, ◌∙◌}
use mathlib.Core.List.{[], ◌∷◌}
use Prim.Native.Nat.{◌*◌}
use native.Mathlib.Omega.{arith}
use lib.ListN.{length}
use Rattle.sheets.specs.Laying.{length_splice}
use Rattle.sheet_reading.specs.Carried.{form_room}
use Rattle.sheet_reading.specs.Filled.{filled_none, row_room, names_room, value_there, filled_row, filled_all}
use Rattle.sheet_reading.proofs.filling.fill.Goals as goal

pub loop-i-init : goal.loop-i-init
loop-i-init g c = let d = g.T.Identifier in (filled_none d.form d.laws.none d.laws.join c.args.text.now (d.held c.args.identifiers.now) c.args.names.now, refl, refl, omega arith)

pub unwrap-requires : goal.unwrap-requires
unwrap-requires g c =
    let d = g.T.Identifier in
    let a = c.args in
    let l = c.loop-i in
    value_there d.form d.laws.none d.laws.join a.text.now (d.held a.identifiers.now) a.names.now c.requires (d.held l.identifiers) l.names l.row l.at l.i l.invariant.0 _ c.copy_row-r.result c.copy_row-r.ensures

pub overflow_add-at : goal.overflow_add-at
overflow_add-at g c =
    let d = g.T.Identifier in
    let a = c.args in
    let l = c.loop-i in
    let r = names_room d.form d.laws.none d.laws.join a.text.now (d.held a.identifiers.now) a.names.now c.requires (d.held l.identifiers) l.names l.row l.at l.i l.invariant.0 _ c.copy_row-r.result c.copy_row-r.ensures in
    omega arith

pub put-requires : goal.put-requires
put-requires g c =
    let d = g.T.Identifier in
    let a = c.args in
    let l = c.loop-i in
    let r = row_room d.form d.laws.none d.laws.join a.text.now (d.held a.identifiers.now) a.names.now c.requires (d.held l.identifiers) l.names l.row l.at l.i l.invariant.0 _ c.copy_row-r.result c.copy_row-r.ensures d.each d.laws.size in
    let k = l.invariant.1 in
    omega arith

pub loop-i-preserved : goal.loop-i-preserved
loop-i-preserved g c =
    let d = g.T.Identifier in
    let a = c.args in
    let l = c.loop-i in
    let n = d.held a.identifiers.now in
    let r = row_room d.form d.laws.none d.laws.join a.text.now n a.names.now c.requires (d.held l.identifiers) l.names l.row l.at l.i l.invariant.0 _ c.copy_row-r.result c.copy_row-r.ensures d.each d.laws.size in
    let k = l.invariant.1 in
    let h = l.invariant.3 in
    let f = l.invariant.0 in
    let b = c.copy_row-r.ensures.ahead in (
      filled_row d.form d.laws.none d.laws.join a.text.now n a.names.now c.requires (d.held l.identifiers) l.names l.row l.at l.i l.invariant.0 _ c.copy_row-r.result c.copy_row-r.ensures
          (d.each * l.row) (ap (λ x. d.each * x) f.count ∙ sym (d.laws.size f.numbers)) c.unwrap.result c.unwrap.ensures _ c.put.ensures,
      ap length c.put.ensures ∙ length_splice (d.held l.identifiers) (d.form (c.unwrap.result ∷ [])) (d.each * l.row) (form_room d.form d.each d.laws l.row c.unwrap.result _ (omega arith)) ∙ k,
      c.copy_row-r.auto.names ∙ l.invariant.2,
      omega arith,
    )

pub returns : goal.returns
returns g c =
    let d = g.T.Identifier in
    let a = c.args in
    let l = c.loop-i in
    filled_all d.form d.laws.none d.laws.join a.text.now (d.held a.identifiers.now) a.names.now c.requires (d.held l.identifiers) l.names l.row l.at l.i l.invariant.0 (omega arith)
