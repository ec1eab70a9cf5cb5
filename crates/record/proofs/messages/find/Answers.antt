-- `find`: the first message of the link is the oldest. Assumes nothing.
use borrow.Author.Rules.{rules}
use mathlib.Core.Path.{◌≡◌, sym, ◌∙◌}
use mathlib.Core.Bool.{Bool, true, false, ◌&&◌}
use Prim.Native.Nat.{ℕ, ◌+◌}
use Rattle.std.specs.Prelude.{nat_eq}
use lib.ListN.{get_or}
use Rattle.std.proofs.lemmas.Iterator.{first_from_Range}
use Rattle.layout.specs.Words.{on_link_read, oldest_read}
use Rattle.lists.specs.Search.{first_cong, first_found}
use Rattle.protocol.specs.Record.{read, messages_in, message_start}
use Rattle.protocol.specs.Step.{on_link}
use Rattle.record.proofs.messages.find.Goals as goal

pub returns : goal.returns
returns c =
    let a = c.args in
    let w = a.w.now in
    let n = messages_in w in
    let p : ℕ → Bool = λ j. nat_eq (get_or w (message_start j + 1) 0) a.x && nat_eq (get_or w (message_start j + 2) 0) a.y in
    rw (oldest_read w a.x a.y ∙ first_cong (on_link (read w) a.x a.y) p n (λ j l. on_link_read w a.x a.y j l))
    (first_found p n c.find.result
    (first_from_Range _ _ _ c.find.result (λ j. p j ≡ true) (λ j. p j ≡ false) c.find.ensures.ran (λ x q h. search rules) (λ x q h. (search rules, search rules))))
