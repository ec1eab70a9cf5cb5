-- `until`: each turn so far said that one more follows. Assumes nothing.
use native.Mathlib.Omega.{arith}
use borrow.Author.Rules.{of_calls}
use Rattle.std.proofs.Common.{true, false, [], ◌∷◌, ◌++◌, refl, sym, inl, inr}
use Rattle.std.specs.Prelude.{replicate}
use Rattle.std.proofs.lemmas.List.{replicate-append-replicate}
use Rattle.std.proofs.lemmas.Fn.{FoldsTo-push}
use Rattle.console.proofs.turns.until.Goals as goal

pub loop-init : goal.loop-init
loop-init g c = (search of_calls, refl)

pub returns-then-not-turn : goal.returns-then-not-turn
returns-then-not-turn g c =
    let l = c.loop in
    (replicate l.counter true ++ (false ∷ []), c.turn.new.self, FoldsTo-push (goal.F-step g) _ _ _ _ _ l.invariant.1 c.if-not-turn.ensures, (l.counter, inl refl))

pub loop-preserved : goal.loop-preserved
loop-preserved g c =
    let l = c.loop in
    (search of_calls, rw (sym (replicate-append-replicate l.counter 1 true)) (FoldsTo-push (goal.F-step g) _ _ _ _ _ l.invariant.1 c.if-not-turn.ensures))

pub returns : goal.returns
returns g c =
    let l = c.loop in
    (replicate l.counter true, l.turn, l.invariant.1, (l.counter, inr (refl, omega arith)))
