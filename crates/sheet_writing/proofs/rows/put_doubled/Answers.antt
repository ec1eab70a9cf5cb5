-- `put_doubled`: the bytes of the name so far are written, quotes twice. Assumes nothing.
use Rattle.std.proofs.Common.{arith}
use Rattle.sheet_writing.specs.Writing.{doubling_none, doubling_more, double_fits}
use Rattle.sheet_writing.proofs.rows.put_doubled.Goals as goal

pub loop-b-init : goal.loop-b-init
loop-b-init c = doubling_none c.args.text.now c.args.name.now c.args.at

pub put_twice-to-requires : goal.put_twice-to-requires
put_twice-to-requires c =
    let l = c.loop-b in
    let f = double_fits c.args.name.now l.b-index (omega arith) in
    let t = l.invariant.to_is in
    omega arith

pub loop-b-preserved : goal.loop-b-preserved
loop-b-preserved c =
    let l = c.loop-b in
    let a = c.args in
    let p = c.put_twice-to.ensures in
    rw (p.0, p.1) (doubling_more a.text.now l.text a.name.now a.at l.b-index l.to (omega arith) c.requires l.invariant)
