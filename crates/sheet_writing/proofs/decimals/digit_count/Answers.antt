-- `digit_count`: the power of ten that the number reaches. Assumes nothing.
use Rattle.std.specs.Prelude.{◌≤◌, ◌<◌, ◌*◌, ◌^◌, max}
use Rattle.sheet_writing.specs.Scanning.{count_powers}
use Rattle.sheet_writing.proofs.decimals.digit_count.Goals as goal

pub returns : goal.returns
returns c =
    let v = c.args.v in
    let k = c.ilog10.result in
    let m = c.max.ensures in
    let a : 10 ^ k ≤ max v 1 = rw (← m) c.ilog10.ensures.power_le in
    let b : max v 1 < 10 * 10 ^ k = rw (← m) c.ilog10.ensures.next_power_gt in
    count_powers v k c.ilog10.ensures.bound a b
