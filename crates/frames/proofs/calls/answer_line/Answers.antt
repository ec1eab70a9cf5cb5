-- `frames::calls::answer_line` is `line_call`, by what the line reads as. Assumes nothing.
use mathlib.Core.Path.{ap, ◌∙◌}
use Rattle.std.proofs.Common.{Some}
use Rattle.protocol.specs.Frames.{line, refusal_text}
use Rattle.frames.specs.Lines.{founding_line_lem, command_line, unreadable_line}
use Rattle.frames.specs.Founding.{decoded_fits}
use Rattle.frames.proofs.calls.answer_line.Goals as goal

pub returns-in_default : goal.returns-in_default
unfolding line refusal_text
returns-in_default c =
    let a = c.args in
    let d = c.decode in
    unreadable_line a.w.now a.line.now d.result d.ensures _ c.in_default.is c.refusal_line.ensures

pub fresh_ring-requires : goal.fresh_ring-requires
fresh_ring-requires c =
    let d = c.decode in
    decoded_fits c.args.line.now d.result c.in-Founding.count d.ensures (c.in-Some.is ∙ ap (λ z. Some z) c.in-Founding.is)

pub returns-in-Founding : goal.returns-in-Founding
returns-in-Founding c =
    let a = c.args in
    let d = c.decode in
    let f = c.fresh_ring in
    let p = c.outcome_line in
    founding_line_lem a.w.now a.line.now d.result d.ensures f.result f.new.w p.result p.ensures c.in-Founding.count (c.in-Some.is ∙ ap (λ z. Some z) c.in-Founding.is) f.ensures

pub returns-in-Command : goal.returns-in-Command
returns-in-Command c =
    let a = c.args in
    let d = c.decode in
    let m = c.in-Command in
    let s = c.step in
    let p = c.outcome_line-in-Command in
    command_line a.w.now a.line.now d.result d.ensures s.result s.new.w p.result p.ensures m.operation m.x m.y (c.in-Some.is ∙ ap (λ z. Some z) m.is) s.ensures
