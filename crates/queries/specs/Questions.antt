-- The questions of each call, in the words' terms: which facts lead to which refusal, and to the call's result. Assumes nothing.
use Rattle.std.specs.Prelude.{◌≡◌, true, false, List, [], ℕ, ◌≤◌, ◌<◌, length, take, drop, Option, None, Some, MatchOption}
use Rattle.std.proofs.Common.{sym, ◌∙◌}
use Rattle.std.proofs.Math.Path.{ap}
use Rattle.std.specs.Option.{ok_or}
use native.Mathlib.Omega.{arith}
use Rattle.std.proofs.Common.{nat_lt}
use borrow.Author.Tests.{lt-ltb, le-ltb}
use Rattle.lists.specs.Choice.{on_yes, on_no}
use Rattle.lists.specs.Basics.{first}
use Rattle.std.specs.Prelude.{Err, Ok}
use Rattle.protocol.specs.declared.refusal.Refusal.TheVariants.{NoHolder, NoHub, NotInRing, NotWellFormed, NoWayRound, RecordShort}
use Rattle.protocol.specs.Record.{record_size, row_size, row_start, count_in, row, identifier, read}
use Rattle.protocol.specs.WellFormed.{well_formed}
use Rattle.protocol.specs.Routing.{in_ring, responsible, covers}
use Rattle.protocol.specs.Membership.{holds}
use Rattle.protocol.specs.Calls.{lowest_holder, owner_call, row_call, Traversal, lost, roll, unrolled, roll_written, roll_call}
use Rattle.layout.specs.Words.{count_of_read}
use Rattle.layout.specs.Form.{Valid}
use Rattle.layout.specs.Questions.{record_1, record_2, record_rest}
use Rattle.queries.specs.Rolls.{prepended, none_passed}

module _ (w : List ℕ) where
  abbrev n : ℕ
  n = count_in w

  -- the owner query
  module _ (v : ℕ) where
    module _ (node : ℕ) where
      pub holds_no : responsible (row (read w) node) ≡ false → holds (read w) node v ≡ false
      unfolding holds
      holds_no e = rw e

      pub holds_by_range : responsible (row (read w) node) ≡ true → holds (read w) node v ≡ covers (identifier (read w) (row (read w) node).pred) (row (read w) node) v
      unfolding holds
      holds_by_range e = rw e

    pub lowest_read : lowest_holder (read w) v ≡ first (λ node. holds (read w) node v) n
    lowest_read = ap (first (λ node. holds (read w) node v)) (count_of_read w)

    pub owner_1 : length w < record_size → owner_call w v ≡ Err RecordShort
    unfolding owner_call
    owner_1 l = record_1 w Err _ l

    pub owner_2 : record_size ≤ length w → well_formed w ≡ false → owner_call w v ≡ Err NotWellFormed
    unfolding owner_call
    owner_2 l e = record_2 w Err _ l e

    -- k is the lowest holder
    module _ (ok : Valid w) (k : ℕ) (e : k ≡ lowest_holder (read w) v) where
      pub owner_15 : n ≤ k → owner_call w v ≡ Err NoHolder
      unfolding owner_call
      owner_15 l = record_rest w Err _ ok.long ok.formed ∙ on_no _ _ _ (ap (λ z. nat_lt z n) (sym e) ∙ le-ltb k n l)

      pub owner_holder : k < n → owner_call w v ≡ Ok k
      unfolding owner_call
      owner_holder l = record_rest w Err _ ok.long ok.formed ∙ on_yes _ _ _ (ap (λ z. nat_lt z n) (sym e) ∙ lt-ltb k n l) ∙ ap Ok (sym e)

    pub owner_found : Valid w → (o : Option ℕ) → MatchOption o (lowest_holder (read w) v ≡ n) (λ node. (node ≡ lowest_holder (read w) v) × (node < n)) → owner_call w v ≡ ok_or o NoHolder
    owner_found ok None e = owner_15 ok n (sym e) (omega arith)
    owner_found ok (Some node) m = owner_holder ok node m.0 m.1

  -- the hub row
  module _ (node : ℕ) where
    pub row_1 : length w < record_size → row_call w node ≡ []
    unfolding row_call
    row_1 l = record_1 w (λ k. []) _ l

    pub row_2 : record_size ≤ length w → well_formed w ≡ false → row_call w node ≡ []
    unfolding row_call
    row_2 l e = record_2 w (λ k. []) _ l e

    pub row_4 : Valid w → n ≤ node → row_call w node ≡ []
    unfolding row_call
    row_4 ok l = record_rest w (λ k. []) _ ok.long ok.formed ∙ on_no _ _ _ (le-ltb node n l)

    pub row_given : Valid w → node < n → row_call w node ≡ take row_size (drop (row_start node) w)
    unfolding row_call
    row_given ok l = record_rest w (λ k. []) _ ok.long ok.formed ∙ on_yes _ _ _ (lt-ltb node n l)

  -- the roll call
  module _ (node : ℕ) (out : List ℕ) where
    pub roll_1 : length w < record_size → roll_call w node out ≡ unrolled out RecordShort
    unfolding roll_call
    roll_1 l = record_1 w (unrolled out) _ l

    pub roll_2 : record_size ≤ length w → well_formed w ≡ false → roll_call w node out ≡ unrolled out NotWellFormed
    unfolding roll_call
    roll_2 l e = record_2 w (unrolled out) _ l e

    module _ (ok : Valid w) where
      pub roll_4 : n ≤ node → roll_call w node out ≡ unrolled out NoHub
      unfolding roll_call
      roll_4 l = record_rest w (unrolled out) _ ok.long ok.formed ∙ on_no _ _ _ (le-ltb node n l)

      pub roll_5 : node < n → in_ring (row (read w) node) ≡ false → roll_call w node out ≡ unrolled out NotInRing
      unfolding roll_call
      roll_5 l e = record_rest w (unrolled out) _ ok.long ok.formed ∙ on_yes _ _ _ (lt-ltb node n l) ∙ on_no _ _ _ e

      module _ (l : node < n) (e : in_ring (row (read w) node) ≡ true) where
        pub roll_given : (t : Traversal) → prepended [] (roll (read w) node n node) ≡ t → roll_call w node out ≡ roll_written out t
        unfolding roll_call
        roll_given t r =
            record_rest w (unrolled out) _ ok.long ok.formed
            ∙ on_yes _ _ _ (lt-ltb node n l)
            ∙ on_yes _ _ _ e
            ∙ ap (roll_written out) (sym (none_passed (roll (read w) node n node)) ∙ r)

        pub roll_16 : prepended [] (roll (read w) node n node) ≡ lost → roll_call w node out ≡ unrolled out NoWayRound
        unfolding roll_written
        roll_16 = roll_given lost
