-- `row_end`: the end of the text, or CR LF. Assumes nothing.
use Rattle.std.proofs.Common.{rules, ◌≡◌, sym, ◌∙◌, get_or, length}
use native.Mathlib.Omega.{arith}
use Rattle.sheet_reading.specs.Runs.{between, rest_first, rest_second, length_rest}
use Rattle.sheet_reading.specs.Judged.{end_text, end_stops, end_bare, end_row, end_short}
use Rattle.sheet_reading.proofs.judging.row_end.Goals as goal

pub returns-in-empty : goal.returns-in-empty
returns-in-empty c =
    let l = length_rest c.args.from c.args.text.now in
    end_text c.args.text.now c.args.from (omega arith)

pub returns-in-13 : goal.returns-in-13
returns-in-13 c =
    let i = c.args.from in
    let t = c.args.text.now in
    let l = length_rest i t in
    let e : get_or (between i (length t) t) 0 0 ≡ 13 = search rules in
    let f : get_or (between i (length t) t) 1 0 ≡ 10 = search rules in
    end_row t i (omega arith) (sym (rest_first i t) ∙ e) (omega arith) (sym (rest_second i t) ∙ f)

pub returns-in_default : goal.returns-in_default
returns-in_default c =
    let i = c.args.from in
    let t = c.args.text.now in
    let l = length_rest i t in
    end_short t i (omega arith)

pub returns-in_default-2 : goal.returns-in_default-2
returns-in_default-2 c =
    let i = c.args.from in
    let t = c.args.text.now in
    let l = length_rest i t in
    let e : get_or (between i (length t) t) 0 0 ≡ 13 = search rules in
    let f : get_or (between i (length t) t) 1 0 ≡ 10 → ⊥ = search rules in
    end_bare t i (omega arith) (sym (rest_first i t) ∙ e) (omega arith) (λ x. f (rest_second i t ∙ x))

pub returns-in_default-3 : goal.returns-in_default-3
returns-in_default-3 c =
    let i = c.args.from in
    let t = c.args.text.now in
    let l = length_rest i t in
    let e : get_or (between i (length t) t) 0 0 ≡ 13 → ⊥ = search rules in
    end_stops t i (omega arith) (λ x. e (rest_first i t ∙ x))
