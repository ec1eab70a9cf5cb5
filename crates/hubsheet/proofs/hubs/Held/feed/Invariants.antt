-- `Held::feed`: what is held is of the bytes so far. Assumes nothing.
use Rattle.std.proofs.Common.{take}
use Rattle.hubsheet.specs.Held.{Feeds}
use Rattle.hubsheet.proofs.hubs.Held.feed.Given as goal

abbrev pub invariant-loop-b : goal.invariant-loop-b
invariant-loop-b l = Feeds l.initial.self.hubs l.initial.self.identifiers (take l.b-index l.text) l.self.hubs l.self.identifiers
