-- A roll that is gathered as succ is followed: the nodes passed, and then the rest of it. Assumes nothing.
use Rattle.std.specs.Prelude.{◌≡◌, Bool, true, false, List, [], ◌∷◌, ◌++◌, Result, Ok, Err, ℕ, zero, suc, ◌-◌, ◌≤◌, ◌<◌, length, drop, nat_eq}
use Rattle.std.proofs.Math.Path.{refl, ap}
use Rattle.std.proofs.Common.{sym, ◌∙◌, arith, append_assoc}
use borrow.Author.Tests.{eq-eqb, ne_eqb, le-leb, lt-leb}
use Rattle.lists.specs.Basics.{when◌then◌else◌}
use Rattle.lists.specs.Choice.{on_yes, on_no}
use Rattle.arrayvec.specs.ArrayVec.{ArrayVec}
use Rattle.protocol.specs.declared.refusal.Refusal.{Refusal}
use Rattle.protocol.specs.declared.refusal.Refusal.TheVariants.{OutputShort}
use Rattle.protocol.specs.Record.{none, State, row}
use Rattle.protocol.specs.Calls.{Traversal, lost, complete, followed_by, roll, Rolled, unrolled, roll_written}

-- The nodes passed, and the rest of the roll behind them.
unfoldable pub prepended : List ℕ → Traversal → Traversal
prepended l lost = lost
prepended l (complete m) = complete (l ++ m)

-- What the nodes passed are, by whether the roll comes back.
unfoldable pub gathered : List ℕ → Bool → Traversal
gathered l true = complete l
gathered l false = lost

-- What a roll call leaves in an output, where this is known of the nodes around the ring.
unfoldable pub handed : List ℕ → Result (ArrayVec ℕ) Refusal → Rolled
handed out (Err k) = unrolled out k
handed out (Ok nodes) = roll_written out (complete nodes.items)

pub none_passed : (t : Traversal) → prepended [] t ≡ t
unfolding prepended
none_passed lost = refl
none_passed (complete m) = refl

one_more : (l : List ℕ) (node : ℕ) (t : Traversal) → prepended l (followed_by node t) ≡ prepended (l ++ node ∷ []) t
unfolding prepended
one_more l node lost = refl
one_more l node (complete m) = ap complete (sym (append_assoc l (node ∷ []) m))

-- The ways a roll goes on behind the nodes passed: the count is used up, the start returns, there is no successor, or another node follows.
module _ (l : List ℕ) (s : State) (start left node : ℕ) where
  abbrev rolled : Traversal
  rolled = prepended l (roll s start left node)

  pub used_up : left ≡ 0 → rolled ≡ lost
  unfolding roll prepended
  used_up e = ap (λ k. prepended l (roll s start k node)) e

  module _ (more : left ≡ 0 → ⊥) (next : ℕ) (e : next ≡ (row s node).succ) where
    abbrev onwards : ℕ → Traversal
    onwards k = when nat_eq next start then complete (node ∷ []) else when nat_eq next none then lost else followed_by node (roll s start k next)

    step : rolled ≡ prepended l (onwards (left - 1))
    unfolding roll
    step = rw e (go left more)
      where
        go : (k : ℕ) → (k ≡ 0 → ⊥)
            → prepended l (roll s start k node)
            ≡ prepended l (when nat_eq (row s node).succ start then complete (node ∷ [])
            else when nat_eq (row s node).succ none then lost
            else followed_by node (roll s start (k - 1) (row s node).succ))
        go zero q = absurd (q refl)
        go (suc k) q = let j : suc k - 1 ≡ k = omega arith in rw j

    pub ends : next ≡ start → rolled ≡ complete (l ++ node ∷ [])
    unfolding when◌then◌else◌ prepended
    ends p = step ∙ rw (eq-eqb next start p)

    pub no_succ : (next ≡ start → ⊥) → next ≡ none → rolled ≡ lost
    unfolding when◌then◌else◌ prepended
    no_succ p q = step ∙ rw (ne_eqb next start p, eq-eqb next none q)

    pub goes_on : (next ≡ start → ⊥) → (next ≡ none → ⊥) → rolled ≡ prepended (l ++ node ∷ []) (roll s start (left - 1) next)
    unfolding when◌then◌else◌
    goes_on p q = step ∙ rw (ne_eqb next start p, ne_eqb next none q) (one_more l node (roll s start (left - 1) next))

-- A roll that comes back, with and without room in the output.
module _ (out l : List ℕ) where
  pub fits : length l ≤ length out → roll_written out (complete l) ≡ record { outcome = Ok (length l); output = l ++ drop (length l) out }
  unfolding roll_written
  fits h = on_yes _ _ _ (le-leb (length l) (length out) h)

  pub short : length out < length l → roll_written out (complete l) ≡ unrolled out OutputShort
  unfolding roll_written
  short h = on_no _ _ _ (lt-leb (length l) (length out) h)
