-- `write_new`: all words 0, and the founder marked. Assumes nothing.
use mathlib.Core.Path.{◌∙◌, ap}
use Prim.Native.Nat.{◌+◌}
use lib.ListN.{set}
use Rattle.cards.specs.New.{new_law}
use Rattle.cards.proofs.new_book.write_new.Goals as goal

pub returns : goal.returns
returns c = ap (λ z. set z (1 + c.args.node) 1) c.clear.ensures ∙ new_law c.args.k.now c.args.node c.requires.0
