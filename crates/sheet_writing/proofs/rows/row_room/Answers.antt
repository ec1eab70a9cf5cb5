-- `row_room`: part by part, all of the row. Assumes nothing.
use Rattle.std.proofs.Common.{◌≡◌, ◌+◌, ◌-◌, ◌≤◌, Some, length, ◌∙◌, ap, arith}
use Rattle.sheet_writing.specs.Scanning.{less_by, less_in, less_out, less_as, less_less, row_parts, count_most}
use Rattle.sheet_writing.proofs.rows.row_room.Goals as goal

pub overflow_add-digit_count : goal.overflow_add-digit_count
overflow_add-digit_count c = let h = count_most c.args.v in omega arith

pub returns-in_err-checked_sub : goal.returns-in_err-checked_sub
returns-in_err-checked_sub c =
    let n = c.args.name in
    let z = row_parts n.bytes.now n.plain n.looked_at c.args.v in
    c.from_residual.ensures ∙ less_out _ _ (omega (arith, c.in_err-checked_sub.ensures))

pub returns-in_err-checked_sub-2 : goal.returns-in_err-checked_sub-2
returns-in_err-checked_sub-2 c =
    let n = c.args.name in
    let z = row_parts n.bytes.now n.plain n.looked_at c.args.v in
    c.from_residual-in_err-checked_sub-2.ensures ∙ less_out _ _ (omega (arith, c.in_ok-checked_sub.ensures, c.in_err-checked_sub-2.ensures))

pub returns-in_err-checked_sub-3 : goal.returns-in_err-checked_sub-3
returns-in_err-checked_sub-3 c =
    let n = c.args.name in
    let z = row_parts n.bytes.now n.plain n.looked_at c.args.v in
    c.from_residual-in_err-checked_sub-3.ensures ∙ less_out _ _ (omega (arith, c.in_ok-checked_sub.ensures, c.in_ok-checked_sub-2.ensures, c.in_err-checked_sub-3.ensures))

pub returns : goal.returns
returns c =
    let n = c.args.name in
    let room = c.args.room in
    let z = row_parts n.bytes.now n.plain n.looked_at c.args.v in
    let m = length n.bytes.now + n.quotes + c.quote_cost.result in
    let d = c.digit_count.result + 3 in
    let e : c.in_ok-checked_sub-3.field-0 ≡ room - m = omega (arith, c.in_ok-checked_sub.ensures, c.in_ok-checked_sub-2.ensures, c.in_ok-checked_sub-3.ensures) in
    let h : m ≤ room = omega (arith, c.in_ok-checked_sub.ensures, c.in_ok-checked_sub-2.ensures, c.in_ok-checked_sub-3.ensures) in
    less_as _ _ _ c.checked_sub-4.ensures ∙ ap (λ o. less_by o d) (ap Some e ∙ less_in room m h) ∙ less_less (Some room) m d
    ∙ ap (less_by (Some room)) (omega arith)
