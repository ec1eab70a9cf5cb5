-- `judge`: the rows up to i are counted. Assumes nothing.
use Rattle.std.proofs.Common.{rules, ◌≡◌, sym, ◌∙◌, subst, ◌&&◌, ◌+◌, inl, inr, Err}
use native.Mathlib.Omega.{arith}
use Rattle.protocol.specs.declared.refusal.Refusal.TheVariants.{NoSheet}
use Rattle.sheet_reading.specs.Judged.{RowIs}
use Rattle.sheet_reading.specs.Filled.{Counted, counted_none, counted_row, counted_wrong, counted_large, counted_short, counted_all_lem}
use Rattle.sheet_reading.proofs.judging.judge.Goals as goal

pub loop-i-init : goal.loop-i-init
loop-i-init c = counted_none c.args.text.now

pub returns-in_err-row : goal.returns-in_err-row
returns-in_err-row c =
    let l = c.loop-i in
    let e : c.from_residual.result ≡ Err NoSheet = search rules in
    let r = subst (RowIs c.args.text.now l.i) c.in_err-row.ensures.ok_part c.row_at.ensures in
    e ∙ counted_wrong c.args.text.now l.i l.rows l.bytes l.fits l.invariant c.args.room r

pub overflow_add-bytes : goal.overflow_add-bytes
unfolding RowIs
overflow_add-bytes c = let r = subst (RowIs c.args.text.now c.loop-i.i) c.in_ok-row.ensures.ok_part c.row_at.ensures in let b = c.loop-i.invariant.below in let w = r.within in let a = r.ahead in omega arith

pub loop-i-smaller : goal.loop-i-smaller
unfolding RowIs
loop-i-smaller c = let r = subst (RowIs c.args.text.now c.loop-i.i) c.in_ok-row.ensures.ok_part c.row_at.ensures in let w = r.within in let a = r.ahead in omega arith

pub loop-i-preserved : goal.loop-i-preserved
loop-i-preserved c =
    let l = c.loop-i in
    let x = c.in_ok-row.row in
    let r = subst (RowIs c.args.text.now l.i) c.in_ok-row.ensures.ok_part c.row_at.ensures in
    subst (λ z. Counted c.args.text.now x.end (l.rows + 1) (l.bytes + x.bytes) (l.fits && z)) (sym c.is_some-fits.ensures) (counted_row c.args.text.now l.i l.rows l.bytes l.fits l.invariant x r)

pub returns-then-not-fits : goal.returns-then-not-fits
returns-then-not-fits c = let l = c.loop-i in counted_large c.args.text.now l.i l.rows l.bytes l.fits l.invariant c.args.room (omega arith) (search rules)

pub returns-then-room-rows : goal.returns-then-room-rows
returns-then-room-rows c = let l = c.loop-i in counted_short c.args.text.now l.i l.rows l.bytes l.fits l.invariant c.args.room (omega arith) (search rules) (elim c.then-room-rows.either [ inl h ↦ inl h | inr h ↦ inr h.1 ])

pub returns : goal.returns
returns c = let l = c.loop-i in counted_all_lem c.args.text.now l.i l.rows l.bytes l.fits l.invariant c.args.room (omega arith) (search rules) (omega arith) (omega arith)
