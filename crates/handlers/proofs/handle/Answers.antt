-- `handle`: the kind decides the definition, and the handler's own equation is the rest. Assumes nothing.
use borrow.Author.Tests.{ne_eqb}
use borrow.Author.Rules.{rules}
use Rattle.lists.specs.Basics.{when◌then◌else◌}
use Rattle.protocol.specs.Kinds.{handle}
use Rattle.handlers.proofs.handle.Goals as goal

pub returns-in-1 : goal.returns-in-1
unfolding handle when◌then◌else◌
returns-in-1 c = simp (c.lookup.ensures, c.in-1.is)

pub returns-in-2 : goal.returns-in-2
unfolding handle when◌then◌else◌
returns-in-2 c = simp (c.join.ensures, c.in-2.is)

pub returns-in-3 : goal.returns-in-3
unfolding handle when◌then◌else◌
returns-in-3 c = simp (c.join_retry.ensures, c.in-3.is)

pub returns-in-4 : goal.returns-in-4
unfolding handle when◌then◌else◌
returns-in-4 c = simp (c.join_point.ensures, c.in-4.is)

pub returns-in-5 : goal.returns-in-5
unfolding handle when◌then◌else◌
returns-in-5 c = simp (c.new_succ.ensures, c.in-5.is)

pub returns-in-6 : goal.returns-in-6
unfolding handle when◌then◌else◌
returns-in-6 c = simp (c.new_succ_ack.ensures, c.in-6.is)

pub returns-in-7 : goal.returns-in-7
unfolding handle when◌then◌else◌
returns-in-7 c = simp (c.join_done.ensures, c.in-7.is)

pub returns-in-8 : goal.returns-in-8
unfolding handle when◌then◌else◌
returns-in-8 c = simp (c.leave_req.ensures, c.in-8.is)

pub returns-in-9 : goal.returns-in-9
unfolding handle when◌then◌else◌
returns-in-9 c = search rules

pub returns-in-10 : goal.returns-in-10
unfolding handle when◌then◌else◌
returns-in-10 c = search rules

pub returns-in-11 : goal.returns-in-11
unfolding handle when◌then◌else◌
returns-in-11 c = simp (c.leave_point.ensures, c.in-11.is)

pub returns-in-12 : goal.returns-in-12
unfolding handle when◌then◌else◌
returns-in-12 c = simp (c.update_succ.ensures, c.in-12.is)

pub returns-in-13 : goal.returns-in-13
unfolding handle when◌then◌else◌
returns-in-13 c = simp (c.stop_forward.ensures, c.in-13.is)

pub returns-in-14 : goal.returns-in-14
unfolding handle when◌then◌else◌
returns-in-14 c = simp (c.leave_done.ensures, c.in-14.is)

pub returns-in_default : goal.returns-in_default
unfolding handle when◌then◌else◌
returns-in_default c =
    let upper = c.in_default.in_default-own.rest in
    let lower = upper.0.0.0.0.0.0.0 in
    simp (
      ne_eqb _ _ upper.1,
      ne_eqb _ _ upper.0.1,
      ne_eqb _ _ upper.0.0.1,
      ne_eqb _ _ upper.0.0.0.1,
      ne_eqb _ _ upper.0.0.0.0.1,
      ne_eqb _ _ upper.0.0.0.0.0.1,
      ne_eqb _ _ upper.0.0.0.0.0.0.1,
      ne_eqb _ _ lower.1,
      ne_eqb _ _ lower.0.1,
      ne_eqb _ _ lower.0.0.1,
      ne_eqb _ _ lower.0.0.0.1,
      ne_eqb _ _ lower.0.0.0.0.1,
      ne_eqb _ _ lower.0.0.0.0.0.1,
      ne_eqb _ _ lower.0.0.0.0.0.0.1,
    )
