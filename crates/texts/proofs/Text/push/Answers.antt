-- `push`: as many of the bytes as there is room for go behind those that are held. Assumes nothing.
use borrow.Author.Rules.{rules}
use native.Mathlib.Omega.{arith}
use mathlib.Core.Path.{◌≡◌, ap, ◌∙◌}
use lib.ListN.{take, length}
use lib.Seq.{length-take-le}
use mathlib.Core.List.{◌++◌}
use Rattle.texts.specs.Laws.{copied}
use Rattle.texts.proofs.Text.push.Goals as goal

pub returns : goal.returns
returns g c =
    let b = c.self.inside in
    let n = g.row.N in
    let bytes = c.args.bytes.now in
    let l : length b.bytes ≡ n = search rules in
    let p = ap length c.self.view_is in
    let q : length (take b.held b.bytes) ≡ b.held = length-take-le b.held b.bytes (omega arith) in
    record {
      kept = copied n b.bytes bytes c.copy_from_slice.new.self b.held c.min-more.result c.self.invariant l c.min-more.ensures c.copy_from_slice.ensures.after
          ∙ ap (λ z. take n (z ++ bytes)) c.self.view_is;
      few = omega arith;
    }
