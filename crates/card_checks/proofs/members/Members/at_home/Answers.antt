-- `Members::at_home`: the three tests of a card, by the tables. Assumes nothing.
use Rattle.card_checks.specs.Homes.{at_home}
use Rattle.card_checks.proofs.members.Members.at_home.Goals as goal

pub returns : goal.returns
unfolding at_home
returns c = rw (c.distance.ensures, c.machine.ensures, c.hub-hub.ensures)
