-- `put_card`: its words, copied to its place. Assumes nothing.
use native.Mathlib.Omega.{arith}
use Prim.Native.Nat.{◌+◌, ◌-◌}
use Rattle.lists.specs.Splice.{put_part}
use Rattle.protocol.specs.Cards.{card_size, card_start, card_words}
use Rattle.card_offers.proofs.offers.put_card.Goals as goal

pub returns : goal.returns
returns c = let a = c.args in
    let at = card_start a.j in
    rw (c.copy_from_slice.ensures.after, c.from.ensures, put_part at (at + card_size - at) a.k.now (card_words a.c) (omega arith))
