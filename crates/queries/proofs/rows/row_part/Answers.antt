-- `row_part`: the part handed out is the node's row, or empty where there is no such node. Assumes nothing.
use mathlib.Core.Path.{◌≡◌, sym, ◌∙◌, ap}
use Prim.Native.Nat.{◌+◌, ◌-◌}
use native.Mathlib.Omega.{arith}
use lib.ListN.{take, drop}
use Rattle.protocol.specs.Record.{row_size, row_start}
use Rattle.queries.specs.Questions.{row_4, row_given}
use Rattle.queries.proofs.rows.row_part.Goals as goal

pub returns-then-node-w : goal.returns-then-node-w
returns-then-node-w c =
    let a = c.args in
    let e : row_start a.node + row_size - row_start a.node ≡ row_size = omega arith in
    ap (λ k. take k (drop (row_start a.node) a.w.now)) e ∙ sym (row_given a.w.now a.node c.requires c.if-node-w.true)

pub returns : goal.returns
returns c = sym (row_4 c.args.w.now c.args.node c.requires c.if-node-w.false)
