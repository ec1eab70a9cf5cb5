-- `line_of`: by where the text ended. Assumes nothing.
use mathlib.Core.Path.{◌≡◌, refl, ap, ◌∙◌}
use mathlib.Core.Bool.{◌&&◌}
use Prim.Native.Nat.{ℕ, ◌+◌, min}
use lib.ListN.{take}
use Rattle.std.specs.Prelude.{is_some}
use Rattle.protocol.specs.Frames.{line, refusal_text}
use Rattle.hubsheet.specs.Line.{refusal_line, rows_line, line_within, line_rows, line_number}
use Rattle.hubsheet.proofs.frame.line_of.Goals as goal

-- there is room for a refusal's line
room : (k : ℕ) → take 516 (line (refusal_text k)) ≡ line (refusal_text k)
unfolding line refusal_text
room k = refl

pub returns-in-Within : goal.returns-in-Within
unfolding refusal_line line
returns-in-Within c = λ m k. let h = c.args.held.now in simp (← line_within h.hubs h.identifiers c.ending.result c.ending.ensures m k c.in-Within.is, ← c.from.ensures) (c.refusal_line.ensures ∙ room c.from.result)

pub returns-in-BehindRows : goal.returns-in-BehindRows
returns-in-BehindRows c = λ m k. let h = c.args.held.now in c.rows_line.ensures ∙ line_rows h.hubs h.identifiers c.ending.result c.ending.ensures m k c.in-BehindRows.is

pub returns-in-BehindNumber : goal.returns-in-BehindNumber
returns-in-BehindNumber c =
    let h = c.args.held.now in
    let f = h.hubs.fits && is_some h.hubs.value in
    let r = min (h.hubs.rows + 1) 65 in
    let e = ap (λ z. rows_line z c.counted.result c.keep.new.self.identifiers) (ap (λ t. h.hubs.fits && t) c.is_some.ensures) ∙ ap (λ z. rows_line f z c.keep.new.self.identifiers) c.counted.ensures ∙ ap (rows_line f r) c.keep.ensures.identifiers in
    λ m k. c.rows_line-in-BehindNumber.ensures ∙ e ∙ line_number h.hubs h.identifiers c.ending.result c.ending.ensures m k c.in-BehindNumber.is
