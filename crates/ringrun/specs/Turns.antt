-- What one turn of the loop does, by what its read brought. Assumes nothing.
use Rattle.std.specs.Prelude.{◌≡◌, List, [], ℕ, take}
use Rattle.std.proofs.Math.Path.{ap}
use Rattle.std.proofs.Common.{◌∙◌}
use Rattle.console.specs.declared.arriving.Arrival.{Arrival}
use Rattle.console.specs.declared.arriving.Arrival.TheVariants.{Bytes, End, Failed}
use Rattle.protocol.specs.Ringrun.{Standing, ended}
use Rattle.stream.specs.Pieces.{taken}

-- The slice and the bytes of a line that has begun, before the turn; the block that was read into; and where the turn leaves the run. After
-- a read that failed nothing has changed: a line that has begun is no line yet.
unfoldable pub turned : List ℕ → List ℕ → List ℕ → Arrival → Standing
turned w begun input (Bytes n) = taken w begun (take n input)
turned w begun input End = ended (record { slice = w; begun = begun; printed = [] })
turned w begun input Failed = record { slice = w; begun = begun; printed = [] }

module _ (r : Arrival) (w begun input : List ℕ) where
  module _ (after : Standing) where
    pub after_bytes : (n : ℕ) → taken w begun (take n input) ≡ after → turned w begun input (Bytes n) ≡ after
    unfolding turned
    after_bytes n t = t

    pub after_end : r ≡ End → ended (record { slice = w; begun = begun; printed = [] }) ≡ after → turned w begun input r ≡ after
    unfolding turned
    after_end e t = ap (turned w begun input) e ∙ t

  pub after_failure : r ≡ Failed → turned w begun input r ≡ record { slice = w; begun = begun; printed = [] }
  unfolding turned
  after_failure e = ap (turned w begun input) e
