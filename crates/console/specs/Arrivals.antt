-- What a read brought, of the block that it was read into.
use Rattle.std.specs.Prelude.{◌≡◌, List, ℕ}
use Rattle.std.proofs.Common.{subst}
use Rattle.io.specs.Counts.{IsPrefixLen}
use Rattle.console.specs.declared.arriving.Arrival.{Arrival}
use Rattle.console.specs.declared.arriving.Arrival.TheVariants.{Bytes, End, Failed}

abbrev pub Arrived : Arrival → List ℕ → Type 0
Arrived (Bytes n) input = IsPrefixLen n input
Arrived End input = Unit {0}
Arrived Failed input = Unit {0}

pub arrived : (r : Arrival) (n : ℕ) (input : List ℕ) → r ≡ Bytes n → Arrived r input → Arrived (Bytes n) input
arrived r n input e a = subst (λ z. Arrived z input) e a
