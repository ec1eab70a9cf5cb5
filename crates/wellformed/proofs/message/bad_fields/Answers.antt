-- `bad_fields`: what a message of its kind must not have, merged. Assumes nothing.
use mathlib.Core.Path.{◌∙◌, ap}
use mathlib.Core.Bool.{not}
use Rattle.lists.specs.Basics.{when◌then◌else◌}
use Rattle.wellformed.specs.Laws.{fields_law}
use Rattle.wellformed.proofs.message.bad_fields.Goals as goal

pub returns : goal.returns
returns c =
    let a = c.args in
    let names = c.names_node-names.ensures in
    fields_law a.n a.asked a.m _ _ _ _ _ _ c.failure.ensures c.failure-2.ensures
    (c.pick.ensures ∙ ap (λ z. when not z then a.m.a else 0) names)
    c.pick-2.ensures
    (c.pick-3.ensures ∙ ap (λ z. when z then c.failure-2.result else 0) names)
    c.pick-4.ensures
