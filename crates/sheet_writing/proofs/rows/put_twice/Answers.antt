-- `put_twice`: a quote twice, any other byte once. Assumes nothing.
use mathlib.Core.Path.{◌∙◌, ap₂}
use mathlib.Core.List.{[], ◌∷◌}
use native.Mathlib.Omega.{arith}
use borrow.Author.Tests.{eq-eqb, ne_eqb}
use Rattle.lists.specs.Basics.{when◌then◌else◌}
use Rattle.lists.specs.Splice.{splice}
use Rattle.sheets.specs.Grammar.{quote, doubled}
use Rattle.sheets.specs.Laying.{splice_twice}
use Rattle.sheet_writing.proofs.rows.put_twice.Goals as goal

pub put_byte-next-requires : goal.put_byte-next-requires
unfolding doubled when◌then◌else◌
put_byte-next-requires c = let h = simp (eq-eqb _ _ c.if-b-eq-QUOTE.true) at c.requires in omega arith

pub put_byte-requires : goal.put_byte-requires
unfolding doubled when◌then◌else◌
put_byte-requires c =
    let h = simp (eq-eqb _ _ c.if-b-eq-QUOTE.true) at c.requires in
    let p = c.put_byte-next.ensures.0 in
    let q = c.put_byte-next.auto.text in
    omega arith

pub returns-then-b-eq-QUOTE : goal.returns-then-b-eq-QUOTE
unfolding doubled when◌then◌else◌
returns-then-b-eq-QUOTE c =
    let a = c.args in
    let h = simp (eq-eqb _ _ c.if-b-eq-QUOTE.true) at c.requires in
    let p = c.put_byte-next.ensures in
    let q = c.put_byte.ensures in
    simp (eq-eqb _ _ c.if-b-eq-QUOTE.true) (omega arith, q.1 ∙ ap₂ (λ l n. splice l n (quote ∷ [])) p.1 p.0 ∙ splice_twice a.text.now (quote ∷ []) (quote ∷ []) a.at (omega arith))

pub put_byte-requires-2 : goal.put_byte-requires-2
unfolding doubled when◌then◌else◌
put_byte-requires-2 c = let h = simp (ne_eqb _ _ c.if-b-eq-QUOTE.false) at c.requires in omega arith

pub returns : goal.returns
unfolding doubled when◌then◌else◌
returns c = simp (ne_eqb _ _ c.if-b-eq-QUOTE.false) c.put_byte-2.ensures
