-- `Name::next`: the bytes before the first zero byte, and those behind it. Assumes nothing.
use Rattle.std.proofs.Common.{◌∙◌, sym, ap, ◌-◌, length, drop, length-drop, drop-drop, arith}
use Rattle.lists.specs.Basics.{every}
use Rattle.lists.specs.Splice.{part_from}
use Rattle.sheets.specs.Grammar.{bare}
use Rattle.sheets.specs.Writer.{first_name, zeros}
use Rattle.sheet_writing.specs.Scanning.{quotes, scan_length, scan_quotes, scan_plain, scan_bytes}
use Rattle.sheet_writing.specs.Writing.{name_within, behind_is}
use Rattle.sheet_writing.proofs.names.Name.next.Goals as goal

pub split_at-requires : goal.split_at-requires
split_at-requires c =
    let l = c.args.names.now in
    let e = scan_length l _ c.scan_name-s.ensures in
    let w = name_within l (zeros l - 1) (omega arith) in
    omega arith

pub invariant_of-name : goal.invariant_of-name
invariant_of-name c =
    let l = c.args.names.now in
    let e = c.split_at.ensures.front ∙ scan_bytes l _ c.scan_name-s.ensures in
    record { counted = scan_quotes l _ c.scan_name-s.ensures ∙ ap quotes (sym e); looked_at = scan_plain l _ c.scan_name-s.ensures ∙ ap (every bare) (sym e) }

pub slice_bounds-result-count : goal.slice_bounds-result-count
slice_bounds-result-count c =
    let l = c.args.names.now in
    let e = scan_length l _ c.scan_name-s.ensures in
    let w = name_within l (zeros l - 1) (omega arith) in
    let r = ap length c.split_at.ensures.back ∙ length-drop c.scan_name-s.result.length l in
    omega arith

pub slice_bounds-result-start : goal.slice_bounds-result-start
slice_bounds-result-start c =
    let l = c.args.names.now in
    let e = scan_length l _ c.scan_name-s.ensures in
    let w = name_within l (zeros l - 1) (omega arith) in
    let r = ap length c.split_at.ensures.back ∙ length-drop c.scan_name-s.result.length l in
    omega arith

pub returns : goal.returns
returns c =
    let l = c.args.names.now in
    let e = scan_length l _ c.scan_name-s.ensures in
    record {
      name = c.split_at.ensures.front ∙ scan_bytes l _ c.scan_name-s.ensures;
      behind = part_from c.split_at.result.1.now 1 ∙ ap (drop 1) (c.split_at.ensures.back ∙ ap (λ n. drop n l) e) ∙ drop-drop 1 (length (first_name l)) l ∙ behind_is l (zeros l - 1) (omega arith);
    }
