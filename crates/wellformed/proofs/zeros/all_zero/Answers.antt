-- `all_zero`: two halves side by side and what is left over, merged. Assumes nothing.
use Prim.Native.Nat.{◌+◌, ◌/◌, ◌≤◌}
use native.Mathlib.Omega.{arith}
use lib.ListN.{length}
use Rattle.wellformed.specs.Laws.{zeros_law}
use Rattle.wellformed.proofs.zeros.all_zero.Goals as goal

pub returns : goal.returns
returns c =
    let l = c.args.part.now in
    let h = length l / 2 in
    let few : h + h ≤ length l = omega arith in
    zeros_law l h few c.merged_halves.result c.merged_words.result c.merged_halves.ensures c.merged_words.ensures
