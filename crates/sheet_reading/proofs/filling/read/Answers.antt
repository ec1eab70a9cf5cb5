-- `read`: judged, then written. Assumes nothing.
use Rattle.std.proofs.Common.{rules, ◌≡◌, refl, ap, sym, ◌∙◌, Err}
use Rattle.sheet_reading.specs.Filled.{read_refused, roomy, all_read}
use Rattle.sheet_reading.proofs.filling.read.Goals as goal

pub returns-in_err-counts : goal.returns-in_err-counts
returns-in_err-counts g c =
    let d = g.T.Identifier in
    let ids = d.held c.args.identifiers.now in
    let names = c.args.names.now in
    let e : c.from_residual.result ≡ Err c.in_err-counts.field-0.0 = search rules in
    read_refused d.form d.each d.laws ids names _ c.room.ensures.fits c.room.ensures.most refl _ _ (sym c.in_err-counts.ensures) ∙ ap (λ z. record { outcome = z; identifiers = ids; names = names }) (sym e)

pub fill-requires : goal.fill-requires
fill-requires g c =
    let d = g.T.Identifier in
    roomy d.form d.each d.laws (d.held c.args.identifiers.now) c.args.names.now _ c.room.ensures.fits c.room.ensures.most refl _ c.in_ok-counts.counts (sym c.in_ok-counts.ensures)

pub returns : goal.returns
returns g c =
    let d = g.T.Identifier in
    all_read d.form d.each d.laws (d.held c.args.identifiers.now) c.args.names.now _ c.room.ensures.fits c.room.ensures.most refl _ c.in_ok-counts.counts (sym c.in_ok-counts.ensures) _ _ c.fill.ensures
