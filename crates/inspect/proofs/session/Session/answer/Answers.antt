-- A line that founds has the digits of its identifiers. Assumes nothing.
use Rattle.std.proofs.Common.{Some, ap, ◌∙◌}
use Rattle.frames.specs.Founding.{decoded_fits}
use Rattle.inspect.proofs.session.Session.answer.Goals as goal

pub fresh_ring-founded-requires : goal.fresh_ring-founded-requires
fresh_ring-founded-requires c =
    let decode = c.decode in
    let founding = c.in-Some-Founding in
    decoded_fits c.args.line.now decode.result founding.count decode.ensures (founding.is ∙ ap Some founding.field-0-is)
