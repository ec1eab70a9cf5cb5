-- `bad_ends`: three failures, merged. Assumes nothing.
use mathlib.Core.Bool.{◌&&◌}
use Rattle.std.specs.Prelude.{nat_le, nat_lt}
use Rattle.wellformed.specs.Laws.{ends_law}
use Rattle.wellformed.proofs.message.bad_ends.Goals as goal

pub returns : goal.returns
returns c =
    let m = c.args.m in
    let n = c.args.n in
    ends_law (nat_le 1 m.kind && nat_lt m.kind 15) (nat_lt m.from n) (nat_lt m.to n) _ _ _ c.failure.ensures c.failure-2.ensures c.failure-3.ensures
