-- `names_for`: as many zero bytes as names, the last of them at the end. Assumes nothing.
use Rattle.std.proofs.Common.{◌∙◌, sym, ap, eq-eqb, ne_eqb, ◌&&◌}
use Rattle.sheets.specs.Writer.{names_for, ends_well}
use Rattle.sheet_writing.proofs.names.names_for.Goals as goal

pub returns-then-zeros-count : goal.returns-then-zeros-count
unfolding names_for
returns-then-zeros-count c = c.ends_well.ensures ∙ ap (λ t. t && ends_well c.args.names.now) (sym (eq-eqb _ _ (sym c.zeros.ensures ∙ c.if-zeros-count.true)))

pub returns-else-zeros-count : goal.returns-else-zeros-count
unfolding names_for
returns-else-zeros-count c = ne_eqb _ _ c.if-zeros-count.false ∙ ap (λ t. t && ends_well c.args.names.now) (sym (ne_eqb _ _ (λ e. c.if-zeros-count.false (c.zeros.ensures ∙ e))))
