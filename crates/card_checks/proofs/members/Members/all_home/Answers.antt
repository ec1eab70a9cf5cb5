-- `Members::all_home`: the tests of the cards, one by one. Assumes nothing.
use borrow.Author.Rules.{rules}
use mathlib.Core.Bool.{Bool, ◌&&◌, true}
use mathlib.Core.Path.{refl, ◌∙◌}
use Prim.Native.Nat.{ℕ, ◌+◌}
use native.Mathlib.Omega.{arith}
use lib.ListN.{get_or}
use Rattle.std.proofs.lemmas.Iterator.{YieldsList-from_range}
use Rattle.std.proofs.lemmas.Iterator.Consumers.{fold_from_yields_List}
use Rattle.protocol.specs.Cards.{card_start, card_from}
use Rattle.card_checks.specs.Buckets.{machine_of}
use Rattle.card_checks.specs.Homes.{at_home, every_place}
use Rattle.card_checks.proofs.members.Members.all_home.Goals as goal

pub returns : goal.returns
returns c = let a = c.args in
    let m = a.self.now in
    let k = a.cards.now.words.now in
    let n = a.cards.now.count in
    let t : ℕ → Bool = λ j. at_home m.names.now m.marks.now a.reaches.now (machine_of k j) (get_or k (card_start j + 3) 0) in
    fold_from_yields_List _ (λ ok j. ok && t j) true c.fold.result c.fold.ensures.ran (YieldsList-from_range 0 n n refl (omega arith)) (λ ok j b q r. search rules)
    ∙ every_place t (λ z. at_home m.names.now m.marks.now a.reaches.now z.machine z.hub) (λ j. card_from k (card_start j)) n (λ j. refl)
