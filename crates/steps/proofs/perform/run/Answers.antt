-- `run`: the operation decides the definition, and the command's own equation is the rest. Assumes nothing.
use borrow.Author.Tests.{ne_eqb}
use Rattle.lists.specs.Basics.{when◌then◌else◌}
use Rattle.protocol.specs.Step.{step}
use Rattle.protocol.specs.Calls.{written}
use Rattle.steps.proofs.perform.run.Goals as goal

pub returns-in-0 : goal.returns-in-0
unfolding step when◌then◌else◌
returns-in-0 c = simp c.in-0.is c.ask.ensures

pub returns-in-1 : goal.returns-in-1
unfolding step when◌then◌else◌
returns-in-1 c = simp c.in-1.is c.join.ensures

pub returns-in-2 : goal.returns-in-2
unfolding step when◌then◌else◌
returns-in-2 c = simp c.in-2.is c.leave.ensures

pub returns-in-3 : goal.returns-in-3
unfolding step when◌then◌else◌
returns-in-3 c = simp c.in-3.is c.deliver.ensures

pub returns-in_default : goal.returns-in_default
unfolding step when◌then◌else◌ written
returns-in_default c = simp (ne_eqb _ _ c.in_default.in_default-own.rest.1, ne_eqb _ _ c.in_default.in_default-own.rest.0.1, ne_eqb _ _ c.in_default.in_default-own.rest.0.0.1, ne_eqb _ _ c.in_default.in_default-own.rest.0.0.0.1)
