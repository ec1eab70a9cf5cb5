-- `put` of a word: the place is written. Assumes nothing.
use mathlib.Core.Path.{sym, ap, ◌∙◌}
use mathlib.Core.List.{[], ◌∷◌}
use native.Mathlib.Omega.{arith}
use Rattle.std.proofs.Math.Nat.{one-mul}
use Rattle.lists.specs.Splice.{splice}
use Rattle.sheets.specs.Laying.{splice_one}
use Rattle.sheet_reading.proofs.identifiers.U32Identifier.put.Goals as goal

pub returns : goal.returns
returns c =
    let a = c.args in
    let h = c.requires in
    splice_one a.places.now a.row a.identifier (omega arith) ∙ ap (λ x. splice a.places.now x (a.identifier ∷ [])) (sym (one-mul a.row))
