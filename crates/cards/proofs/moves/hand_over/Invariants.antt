-- `hand_over`: the first j cards are handed over. Assumes nothing.
use mathlib.Core.Path.{◌≡◌}
use lib.ListN.{length}
use Rattle.protocol.specs.Cards.{read_book, put_book}
use Rattle.cards.specs.Moves.{handed_book}
use Rattle.cards.proofs.moves.hand_over.Given as goal

abbrev pub invariant-loop-j : goal.invariant-loop-j
invariant-loop-j l = (length l.k ≡ length l.initial.k) × (l.k ≡ put_book l.initial.k (handed_book l.id l.far l.hub (read_book l.initial.k) l.j))
