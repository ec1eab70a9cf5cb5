-- `put` of four bytes, one behind the other. Assumes nothing.
use mathlib.Core.Path.{ap, ◌∙◌}
use Prim.Native.Nat.{◌+◌, ◌-◌, ◌*◌}
use native.Mathlib.Omega.{arith}
use borrow.Rule.Slice.PartMut.{put_mid}
use Rattle.protocol.specs.Bytes.{word_bytes}
use Rattle.sheet_reading.specs.Put.{mid_splice}
use Rattle.sheet_reading.proofs.identifiers.U8Identifier.put.Goals as goal

pub returns : goal.returns
returns c =
    let a = c.args in
    let p = 4 * a.row in
    let k = p + 4 - p in
    ap (λ x. put_mid p k a.places.now x) (c.copy_from_slice.ensures.after ∙ c.to_le_bytes.ensures) ∙ mid_splice a.places.now (word_bytes a.identifier) p k (omega arith)
