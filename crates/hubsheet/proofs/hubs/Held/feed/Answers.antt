-- `Held::feed`: what is held is of the bytes so far. Assumes nothing.
use Rattle.std.proofs.Common.{arith}
use Rattle.hubsheet.specs.Held.{feeds_none, feeds_more}
use Rattle.hubsheet.proofs.hubs.Held.feed.Goals as goal

pub loop-b-init : goal.loop-b-init
loop-b-init c = feeds_none c.args.self.now.hubs c.args.self.now.identifiers

pub loop-b-preserved : goal.loop-b-preserved
loop-b-preserved c =
    let l = c.loop-b in
    let a = c.args.self.now in
    feeds_more a.hubs l.self.hubs _ a.identifiers l.self.identifiers _ c.args.text.now l.b-index (omega arith) l.invariant c.step.ensures
