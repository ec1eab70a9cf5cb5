-- `zeros`: those counted, and those that are left. Assumes nothing.
use Rattle.std.proofs.Common.{◌∙◌, nat_eq, get_or, arith}
use Rattle.sheet_writing.specs.Scanning.{byte_one, one_small, zeros_more, zeros_all}
use Rattle.sheet_writing.proofs.names.zeros.Goals as goal

pub overflow_add-n : goal.overflow_add-n
overflow_add-n c =
    let t = nat_eq (get_or c.args.names.now c.loop-b.b-index 0) 0 in
    let e = c.from-n.ensures ∙ byte_one t in
    let h = one_small t in
    let k = c.loop-b.invariant.few in
    omega arith

pub loop-b-preserved : goal.loop-b-preserved
loop-b-preserved c =
    let l = c.loop-b in
    let t = nat_eq (get_or c.args.names.now l.b-index 0) 0 in
    let e = c.from-n.ensures ∙ byte_one t in
    let h = one_small t in
    let k = l.invariant.few in
    let z = zeros_more c.args.names.now l.b-index l.n (omega arith) l.invariant.counted in
    record { counted = omega arith; few = omega arith }

pub returns : goal.returns
returns c = zeros_all c.args.names.now c.loop-b.b-index c.loop-b.n (omega arith) c.loop-b.invariant.counted
