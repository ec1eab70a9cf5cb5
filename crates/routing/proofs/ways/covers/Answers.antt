-- `covers`: the range test of `clockwise`, which is the interval at the ring's modulus. Assumes nothing.
use native.Mathlib.Omega.{arith}
use Rattle.clockwise.specs.Ranges.{range_within}
use Rattle.protocol.specs.Record.{round}
use Rattle.protocol.specs.Routing.{covers}
use Rattle.routing.proofs.ways.covers.Goals as goal

pub returns : goal.returns
unfolding covers
returns c = let a = c.args in simp (c.in_interval.ensures, range_within round a.p a.h.identifier a.v (omega arith) (omega arith) (omega arith))
