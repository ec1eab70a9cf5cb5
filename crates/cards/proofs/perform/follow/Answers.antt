-- `follow`: an answer that moves no mark is handed on; one that does is looked at in its arm. Assumes nothing.
use mathlib.Core.Path.{sym, ◌∙◌, ap, subst}
use Rattle.protocol.specs.declared.Answer.TheVariants.{Entered}
use Rattle.std.specs.Prelude.{Ok}
use Rattle.protocol.specs.Record.{most_nodes, read}
use Rattle.protocol.specs.WellFormed.{identifiers}
use lib.ListN.{length}
use Rattle.protocol.specs.Cards.{following}
use Rattle.cards.specs.Movers.{Bound, handed_on}
use Rattle.cards.proofs.perform.follow.Goals as goal

pub enter-requires : goal.enter-requires
enter-requires c = (c.requires.0, subst (Bound most_nodes) c.in-Entered.is c.requires.2)

pub depart-requires : goal.depart-requires
depart-requires c = (c.requires.0, c.requires.1, subst (Bound most_nodes) c.in-Gone.is c.requires.2)

pub returns-in-Entered : goal.returns-in-Entered
unfolding following
returns-in-Entered c = let a = c.args in
    let q = c.in-Entered.is in
    λ w₀ e r b. ap (following w₀ a.k.now a.w.now) q
    ∙ ap (λ z. record { outcome = Ok (Entered c.in-Entered.h); slice = a.w.now; cards = z }) (sym (c.enter.ensures (identifiers (read w₀)) r (subst (Bound (length (identifiers (read w₀)))) q b)))

pub returns-in-Gone : goal.returns-in-Gone
returns-in-Gone c = let a = c.args in
    let q = c.in-Gone.is in
    λ w₀ e r b. ap (following w₀ a.k.now a.w.now) q ∙ c.depart.ensures w₀ e r (subst (Bound (length (identifiers (read w₀)))) q b)

pub returns-in_default : goal.returns-in_default
returns-in_default c = λ w₀ e r b. handed_on w₀ c.args.k.now c.args.w.now c.args.a c.in_default.not-Entered c.in_default.not-Gone
