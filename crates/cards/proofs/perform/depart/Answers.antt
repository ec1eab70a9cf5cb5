-- `depart`: no other member, and the record is put back; or the mark goes. Assumes nothing.
use mathlib.Core.Path.{◌≡◌, sym, ◌∙◌, ap}
use mathlib.Core.Bool.{true, not}
use borrow.Author.Tests.{not-true}
use Rattle.std.specs.Prelude.{nat_eq}
use Rattle.lists.specs.Basics.{every}
use mathlib.Core.List.{◌++◌}
use lib.ListN.{set, drop}
use Rattle.lists.specs.Choice.{on_yes, on_no}
use Rattle.protocol.specs.declared.Answer.TheVariants.{Gone}
use Rattle.protocol.specs.declared.refusal.Refusal.TheVariants.{NotWellFormed}
use Rattle.std.specs.Prelude.{Err, Ok}
use Rattle.protocol.specs.Record.{record_size, read}
use lib.Seq.{length-take-le}
use Rattle.protocol.specs.WellFormed.{identifiers}
use Rattle.protocol.specs.Cards.{marks_in, following}
use Rattle.card_checks.specs.Marks.{some_marked, any_law}
use Rattle.cards.specs.Follow.{off_bits}
use Rattle.cards.proofs.perform.depart.Goals as goal

pub copy_from_slice-requires : goal.copy_from_slice-requires
copy_from_slice-requires c = length-take-le record_size c.args.w.now c.requires.1 ∙ sym c.told-saved

pub returns-then-not-is_marked_besides : goal.returns-then-not-is_marked_besides
unfolding following
returns-then-not-is_marked_besides c = let a = c.args in
    let k = a.k.now in
    let off = set (marks_in k) a.h 0 in
    λ w₀ e r l. on_no _ _ _ (any_law off (off_bits (identifiers (read w₀)) a.names.now k r a.h l) ∙ sym c.is_marked_besides.ensures ∙ c.if-not-is_marked_besides.true)
    ∙ ap (λ z. record { outcome = Err NotWellFormed; slice = z; cards = k }) (e ∙ ap (λ z. z ++ drop record_size a.w.now) (sym c.copy_from_slice.ensures.after))

pub returns : goal.returns
unfolding following
returns c = let a = c.args in
    let k = a.k.now in
    let off = set (marks_in k) a.h 0 in
    let others : not (every (λ x. nat_eq x 0) off) ≡ true = sym c.is_marked_besides.ensures ∙ c.if-not-is_marked_besides.false in
    λ w₀ e r l. (let b = off_bits (identifiers (read w₀)) a.names.now k r a.h l in
    let m = some_marked off b (not-true _ others) in
    on_yes _ _ _ (any_law off b ∙ others)
    ∙ ap (λ y. record { outcome = Ok (Gone a.h); slice = a.w.now; cards = y }) (sym (c.leave.ensures (identifiers (read w₀)) r l m.0 m.1)))
