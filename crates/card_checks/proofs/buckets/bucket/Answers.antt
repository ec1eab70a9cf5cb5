-- `bucket`: the product fits, and the rest of a division is below the divisor. Assumes nothing.
use mathlib.Core.Path.{ap, subst, sym}
use Prim.Native.Nat.{◌*◌, ◌/◌, ◌%◌, ◌<◌}
use Rattle.card_checks.specs.Buckets.{buckets, bucket_of, bucket_below}
use Rattle.card_checks.proofs.buckets.bucket.Goals as goal

pub returns : goal.returns
unfolding bucket_of
returns c = let e = ap (λ z. z * 2654435769 / 4194304 % buckets) c.from.ensures in (e, subst (λ z. z < buckets) (sym e) (bucket_below c.args.machine))
