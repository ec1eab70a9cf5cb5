-- `new`: the table has the kind of each byte, which is computed at all of them. Assumes nothing.
use mathlib.Core.Path.{◌≡◌, refl}
use Prim.Native.Nat.{ℕ}
use lib.ListN.{replicate, set}
use Rattle.lists.specs.Basics.{when◌then◌else◌, table}
use Rattle.sheets.specs.Grammar.{bare, non_zero}
use Rattle.sheet_reading.specs.declared.bytes.Kind.TheVariants.{Plain, Quoted, Neither}
use Rattle.sheet_reading.specs.Kinds.{plain_byte, quoted_byte, kind_of}
use Rattle.sheet_reading.proofs.bytes.Kinds.new.Goals as goal

all_kinds : (lf cr quote comma : ℕ) → lf ≡ 10 → cr ≡ 13 → quote ≡ 34 → comma ≡ 44
    → set (set (set (set (set (replicate 256 Plain) 0 Neither) lf Quoted) cr Quoted) quote Neither) comma Quoted ≡ table 256 kind_of
unfolding table kind_of plain_byte quoted_byte bare non_zero when◌then◌else◌
all_kinds lf cr quote comma a b c d = rw (a, b, c, d) refl

pub invariant_of-result : goal.invariant_of-result
invariant_of-result c = record { are = all_kinds c.from.result c.from-2.result c.from-3.result c.from-4.result c.from.ensures c.from-2.ensures c.from-3.ensures c.from-4.ensures }
