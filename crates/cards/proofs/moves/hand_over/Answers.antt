-- `hand_over`: the first j cards are handed over. Assumes nothing.
use mathlib.Core.Path.{◌≡◌, refl, sym, ◌∙◌, ap}
use Prim.Native.Nat.{ℕ, ◌+◌, ◌<◌}
use native.Mathlib.Omega.{arith}
use Rattle.std.specs.Prelude.{nat_le}
use lib.ListN.{length, get_or, set, drop, length-set}
use Rattle.clockwise.specs.Clockwise.{dist}
use Rattle.lists.specs.Basics.{when◌then◌else◌}
use Rattle.protocol.specs.declared.Card.{Card}
use Rattle.protocol.specs.Record.{round}
use Rattle.protocol.specs.Cards.{book_size, card_start, card_from, read_book, put_book}
use Rattle.cardlayout.specs.Books.{read_fits, book_read, count_of_book}
use Rattle.cards.specs.Moves.{handed_book, handed_read, handed_more, handed_all}
use Rattle.cards.proofs.moves.hand_over.Goals as goal

pub loop-j-init : goal.loop-j-init
unfolding put_book
loop-j-init c = let k = c.args.k.now in (refl, sym (book_read k c.requires))

pub loop-j-preserved : goal.loop-j-preserved
unfolding put_book
loop-j-preserved c = let a = c.args in
    let k = a.k.now in
    let l = c.loop-j in
    let f = read_fits k c.requires in
    let u : l.j < length (read_book k).cards = omega (arith, count_of_book k) in
    let t = drop book_size k in
    let p : Card → ℕ = λ z. when nat_le (dist round z.machine a.id) a.far then a.hub else z.hub in
    let e : c.pick.result ≡ p (get_or (read_book k).cards l.j Rattle.protocol.specs.Cards.no_card) =
    c.pick.ensures ∙ ap (λ z. when nat_le z a.far then a.hub else get_or l.k (card_start l.j + 3) 0) c.distance.ensures
    ∙ ap p (ap (λ z. card_from z (card_start l.j)) l.invariant.1 ∙ handed_read a.id a.far a.hub (read_book k) t f l.j u) in
    (simp length-set l.invariant.0, ap (λ z. set z (card_start l.j + 3) c.pick.result) l.invariant.1 ∙ handed_more a.id a.far a.hub (read_book k) t f l.j u c.pick.result e)

pub returns : goal.returns
unfolding read_book
returns c = let k = c.args.k.now in
    let l = c.loop-j in
    let e : l.j ≡ length (read_book k).cards = omega (arith, count_of_book k) in
    l.invariant.1 ∙ ap (λ z. put_book k (handed_book c.args.id c.args.far c.args.hub (read_book k) z)) e ∙ ap (put_book k) (handed_all c.args.id c.args.far c.args.hub (read_book k))
