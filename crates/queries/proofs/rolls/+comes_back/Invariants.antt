-- `comes_back`: the count that is left falls at each call. Assumes nothing.
use Rattle.queries.proofs.rolls.+comes_back.Given as goal

abbrev pub decreases-comes_back : goal.decreases-comes_back
decreases-comes_back l = l.left
