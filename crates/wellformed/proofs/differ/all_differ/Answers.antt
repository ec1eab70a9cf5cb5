-- `all_differ`: whether the identifiers before i differ, in steps of four and then of one. Assumes nothing.
use mathlib.Core.Path.{refl, ◌∙◌, ap}
use mathlib.Core.Bool.{◌&&◌}
use native.Mathlib.Omega.{arith}
use Rattle.lists.specs.Basics.{distinct}
use Rattle.wellformed.specs.Laws.{one_more}
use Rattle.wellformed.proofs.differ.all_differ.Goals as goal

pub loop-k-init : goal.loop-k-init
unfolding distinct
loop-k-init c = refl

pub loop-i-preserved : goal.loop-i-preserved
loop-i-preserved c =
    let l = c.loop-i in
    ap (λ z. z && c.is_new-ok.result) l.invariant ∙ one_more c.args.ids.now l.i (omega arith) c.is_new-ok.result c.is_new-ok.ensures
