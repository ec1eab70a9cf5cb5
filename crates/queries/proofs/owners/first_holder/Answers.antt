-- `first_holder`: the first node for which the search finds that it holds the number. Assumes nothing.
use borrow.Author.Rules.{rules}
use mathlib.Core.Path.{◌≡◌}
use mathlib.Core.Bool.{Bool, true, false}
use Prim.Native.Nat.{ℕ}
use Rattle.std.proofs.lemmas.Iterator.{first_from_Range}
use Rattle.lists.specs.Search.{first_found}
use Rattle.protocol.specs.Record.{read, count_in}
use Rattle.protocol.specs.Membership.{holds}
use Rattle.queries.specs.Questions.{lowest_read}
use Rattle.queries.proofs.owners.first_holder.Goals as goal

pub returns : goal.returns
returns c =
    let a = c.args in
    let w = a.w.now in
    let p : ℕ → Bool = λ k. holds (read w) k a.v in
    rw (lowest_read w a.v)
    (first_found p (count_in w) c.find.result
    (first_from_Range _ _ _ c.find.result (λ k. p k ≡ true) (λ k. p k ≡ false) c.find.ensures.ran (λ x q h. search rules) (λ x q h. (search rules, search rules))))
