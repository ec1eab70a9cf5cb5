-- `Headed::nodes_ok`: the tests of rows and identifiers. Assumes nothing.
use mathlib.Core.Path.{sym, ap, ◌∙◌}
use native.Mathlib.Omega.{arith}
use Rattle.lists.specs.Basics.{distinct}
use Rattle.wellformed.specs.Laws.{before, nodes_law}
use Rattle.wellformed.proofs.content.Headed.nodes_ok.Goals as goal

pub returns : goal.returns
returns c =
    let r = c.rows_ok-rows in
    nodes_law c.args.self.now.words.now c.args.self.now.nodes c.args.self.now.nodes_are r.new.ids r.ensures.1 c.all_differ.result r.result
    (c.all_differ.ensures ∙ ap distinct (sym (before r.new.ids c.args.self.now.nodes (omega arith)))) r.ensures.0
