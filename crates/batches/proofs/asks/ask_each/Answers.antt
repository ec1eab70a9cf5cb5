-- `ask_each`: record and output are those that the numbers before it leave. Assumes nothing.
use Rattle.std.proofs.Common.{rules, sym, subst, take}
use Rattle.protocol.specs.Batch.{ask_each}
use Rattle.layout.specs.Form.{Valid}
use Rattle.batches.specs.Each.{each_valid, all_written, next_slice, next_output}
use Rattle.batches.proofs.asks.ask_each.Goals as goal

pub loop-i-init : goal.loop-i-init
unfolding ask_each
loop-i-init c = search rules

pub ask_one-requires : goal.ask_one-requires
ask_one-requires c =
    let l = c.loop-i in
    let a = c.args in
    (subst Valid (sym l.invariant.0) (each_valid a.w.now c.requires.0 a.node (take l.i a.numbers.now)).valid, search rules, search rules)

pub loop-i-preserved : goal.loop-i-preserved
loop-i-preserved c =
    let l = c.loop-i in
    let a = c.args in
    let numbers = a.numbers.now in
    let said = c.ask_one.ensures in (
      next_slice a.w.now a.node numbers a.outcomes.now l.i (search rules) l.w l.outcomes l.invariant.0 l.invariant.1 _ _ said,
      next_output a.w.now a.node numbers a.outcomes.now l.i (search rules) l.w l.outcomes l.invariant.0 l.invariant.1 _ _ said,
    )

pub returns : goal.returns
returns c =
    let l = c.loop-i in
    let a = c.args in
    all_written a.w.now a.node a.numbers.now a.outcomes.now l.i l.w l.outcomes (search rules) l.invariant.0 l.invariant.1
