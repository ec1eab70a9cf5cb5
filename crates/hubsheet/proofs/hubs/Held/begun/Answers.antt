-- `Held::begun`: nothing was read. Assumes nothing.
use Rattle.hubsheet.specs.Held.{holds_none}
use Rattle.hubsheet.proofs.hubs.Held.begun.Goals as goal

pub returns : goal.returns
returns c = holds_none
