-- `name_at`: a quoted name, or one up to its comma. Assumes nothing.
use mathlib.Core.Path.{sym, ◌∙◌, subst}
use native.Mathlib.Omega.{arith}
use borrow.Author.Tests.{ltb-false}
use Rattle.sheets.specs.declared.Place.TheVariants.{Start}
use Rattle.std.proofs.Common.{rules}
use Rattle.sheet_reading.specs.Kinds.{plain_byte}
use Rattle.sheet_reading.specs.Runs.{looked_up}
use Rattle.sheet_reading.specs.Judged.{NameIs, name_read, name_ends, name_stops, name_opened}
use Rattle.sheet_reading.proofs.bytes.Kinds.name_at.Goals as goal

pub returns-then-text-from-eq-QUOTE : goal.returns-then-text-from-eq-QUOTE
returns-then-text-from-eq-QUOTE c = name_opened c.args.text.now c.args.from c.requires c.if-text-from-eq-QUOTE.true c.quoted_name.result c.quoted_name.ensures

pub returns-in_err-get : goal.returns-in_err-get
returns-in_err-get c =
    let t = c.args.text.now in
    let r = c.run_end-end in
    let u = r.ensures.runs plain_byte (λ b r h p. search rules) in
    let w = u.within in
    let l = ltb-false _ _ (sym c.in_err-get.ensures.lookup.0) in
    subst (NameIs t Start c.args.from) (sym c.from_residual.ensures) (name_ends t c.args.from r.result c.requires c.if-text-from-eq-QUOTE.false u (omega arith))

pub returns-then-branch-ne-COMMA : goal.returns-then-branch-ne-COMMA
returns-then-branch-ne-COMMA c =
    let g = looked_up _ _ _ c.in_ok-get.ensures.lookup.0 c.in_ok-get.ensures.lookup.1 in
    name_stops c.args.text.now c.args.from c.run_end-end.result c.requires c.if-text-from-eq-QUOTE.false (c.run_end-end.ensures.runs plain_byte (λ b r h p. search rules)) g.0 (λ e. c.if-branch-ne-COMMA.true (g.1 ∙ e))

pub returns : goal.returns
returns c =
    let g = looked_up _ _ _ c.in_ok-get.ensures.lookup.0 c.in_ok-get.ensures.lookup.1 in
    name_read c.args.text.now c.args.from c.run_end-end.result c.requires c.if-text-from-eq-QUOTE.false (c.run_end-end.ensures.runs plain_byte (λ b r h p. search rules)) g.0 (sym g.1 ∙ c.if-branch-ne-COMMA.false)
