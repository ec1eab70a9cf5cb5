-- `put_number`: four pieces, one behind the other. Assumes nothing.
use mathlib.Core.Path.{◌∙◌, sym, ap}
use mathlib.Core.List.{[], ◌∷◌}
use Prim.Native.Nat.{◌+◌}
use native.Mathlib.Omega.{arith}
use Rattle.lists.specs.Splice.{splice}
use Rattle.sheets.specs.Grammar.{comma, cr, lf}
use Rattle.sheets.specs.Writer.{last_digits, digit_count, decimal}
use Rattle.sheets.specs.Decimal.{length_last}
use Rattle.sheets.specs.Laying.{four_pieces}
use Rattle.sheet_writing.specs.Writing.{number_size}
use Rattle.sheet_writing.proofs.rows.put_number.Goals as goal

pub put_digits-requires : goal.put_digits-requires
put_digits-requires c = let a = c.args in
    let k = c.requires in
    let z = number_size a.v in
    let p = c.put_byte-first.ensures.0 in
    let q = c.put_byte-first.auto.text in
    let d = c.digit_count-count.ensures in
    omega arith

pub overflow_add-first : goal.overflow_add-first
overflow_add-first c = let a = c.args in
    let k = c.requires in
    let z = number_size a.v in
    let p = c.put_byte-first.ensures.0 in
    let d = c.digit_count-count.ensures in
    omega arith

pub put_byte-end-requires : goal.put_byte-end-requires
put_byte-end-requires c = let a = c.args in
    let k = c.requires in
    let z = number_size a.v in
    let p = c.put_byte-first.ensures.0 in
    let q = c.put_byte-first.auto.text in
    let d = c.digit_count-count.ensures in
    let r = c.put_digits.auto.text in
    omega arith

pub put_byte-requires : goal.put_byte-requires
put_byte-requires c = let a = c.args in
    let k = c.requires in
    let z = number_size a.v in
    let p = c.put_byte-first.ensures.0 in
    let q = c.put_byte-first.auto.text in
    let d = c.digit_count-count.ensures in
    let r = c.put_digits.auto.text in
    let s = c.put_byte-end.ensures.0 in
    let t = c.put_byte-end.auto.text in
    omega arith

pub returns : goal.returns
unfolding decimal
returns c =
    let a = c.args in
    let k = c.requires in
    let z = number_size a.v in
    let p = c.put_byte-first.ensures in
    let d = c.digit_count-count.ensures in
    let u = c.put_digits.ensures in
    let s = c.put_byte-end.ensures in
    let t = c.put_byte.ensures in
    let e = length_last (digit_count a.v) a.v in
    let f = c.put_byte-first in
    (omega arith, four_pieces a.text.now a.at (comma ∷ []) (last_digits (digit_count a.v) a.v) (cr ∷ []) (lf ∷ []) _ _ _ _ _ _ _ p.1 p.0 (u ∙ ap (λ n. splice f.new.text f.result (last_digits n a.v)) d) (ap (λ n. f.result + n) (d ∙ sym e)) s.1 s.0 t.1 k)
