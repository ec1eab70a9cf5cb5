-- `gather`: what stands before the first LF is kept, or all where there is none. Assumes nothing.
use native.Mathlib.Omega.{arith}
use Prim.Native.Nat.{◌+◌}
use lib.ListN.{length-take, length-drop}
use Rattle.lists.specs.Splice.{part_from}
use Rattle.texts.specs.Laws.{goes_on, ends}
use Rattle.texts.proofs.Text.gather.Goals as goal

pub returns-in_default : goal.returns-in_default
returns-in_default g c =
    let k = c.push.ensures in
    record {
      bytes = goes_on g.row.N c.args.self.now c.args.input.now c.push.new.self k.few c.in_default.ensures k.kept;
      few = rw k.kept (simp length-take (omega arith));
    }

pub returns : goal.returns
returns g c =
    let i = c.args.input.now in
    let k = c.push-2.ensures in
    let e = ends g.row.N c.args.self.now i c.push-2.new.self k.few c.in-Some.end c.in-Some.ensures k.kept in
    record {
      bytes = rw (part_from i (c.in-Some.end + 1)) (e.0, simp length-drop (omega (arith, e.1)));
      few = rw k.kept (simp length-take (omega arith));
    }
