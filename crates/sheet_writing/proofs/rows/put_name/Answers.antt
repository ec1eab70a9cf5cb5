-- `put_name`: the bytes with their quotes doubled, between two quotes or none. Assumes nothing.
use Rattle.std.proofs.Common.{◌∙◌, sym, ap, arith}
use Rattle.lists.specs.Splice.{splice}
use Rattle.sheets.specs.Grammar.{doubled}
use Rattle.sheets.specs.Laying.{three_pieces}
use Rattle.sheet_writing.specs.Scanning.{quote_if, name_pieces, name_size}
use Rattle.sheet_writing.proofs.rows.put_name.Goals as goal

pub put_quote-opened-requires : goal.put_quote-opened-requires
put_quote-opened-requires c = let n = c.args.name in let z = name_size n.bytes.now n.plain n.looked_at in omega arith

pub put_doubled-named-requires : goal.put_doubled-named-requires
put_doubled-named-requires c = let n = c.args.name in let z = name_size n.bytes.now n.plain n.looked_at in omega arith

pub put_quote-requires : goal.put_quote-requires
put_quote-requires c = let n = c.args.name in let z = name_size n.bytes.now n.plain n.looked_at in omega arith

pub returns : goal.returns
returns c =
    let a = c.args in
    let n = a.name in
    let z = name_size n.bytes.now n.plain n.looked_at in
    let p = c.put_quote-opened.ensures in
    let q = c.put_doubled-named.ensures in
    let r = c.put_quote.ensures in
    let e = name_pieces n.bytes.now n.plain n.looked_at in
    let w = quote_if n.plain in
    let d = doubled n.bytes.now in
    (omega arith, three_pieces a.text.now a.at w d w _ _ _ _ _ p.1 p.0 q.1 q.0 r.1 (rw (← e) c.requires) ∙ ap (splice a.text.now a.at) (sym e))
