-- What a call knows after questions 1 and 2, asked in one. Assumes nothing.
use Rattle.std.specs.Prelude.{◌≡◌, Result, Ok, Err, Bool, true, false, List, ℕ, ◌≤◌, length}
use Rattle.std.proofs.Common.{ap, sym, refl, ◌∙◌, le-leb}
use Rattle.std.proofs.Math.Dec.{leb→le}
use Rattle.lists.specs.Tests.{true_T}
use Rattle.lists.specs.Choice.{on_yes}
use Rattle.lists.specs.Basics.{when◌then◌else◌, require}
use Rattle.protocol.specs.declared.refusal.Refusal.{Refusal}
use Rattle.protocol.specs.declared.refusal.Refusal.TheVariants.{RecordShort, NotWellFormed}
use Rattle.protocol.specs.Record.{record_size}
use Rattle.protocol.specs.WellFormed.{well_formed}
use Rattle.protocol.specs.Calls.{long, on_record}
use Rattle.layout.specs.Form.{Valid, valid}

-- Why the first two questions stop a call, where they do.
abbrev pub Asked : Type 0
Asked = Result (Unit {0}) Refusal

abbrev pub granted : Asked
granted = Ok (tt {0})

abbrev pub asked : List ℕ → Asked
asked w = on_record w Err granted

by : Asked → Refusal
by (Err k) = k
by (Ok a) = RecordShort

stopped : Asked → Bool
stopped (Err k) = true
stopped (Ok a) = false

-- A refusal by the two is that of the call.
module _ {A : Type 0} (w : List ℕ) (no_result : Refusal → A) (rest : A) (k : Refusal) where
  pub refused_so : Err k ≡ asked w → on_record w no_result rest ≡ no_result k
  unfolding on_record require when◌then◌else◌ by stopped
  refused_so e = go (long w) (well_formed w) e
    where
      go : (p q : Bool) → Err k ≡ require p (Err RecordShort) (require q (Err NotWellFormed) granted) → require p (no_result RecordShort) (require q (no_result NotWellFormed) rest) ≡ no_result k
      go true true e = absurd (true_T false (sym (ap stopped e)))
      go true false e = ap no_result (sym (ap by e))
      go false q e = ap no_result (sym (ap by e))

-- What passes them is a record.
pub passed_so : (w : List ℕ) → granted ≡ asked w → Valid w
unfolding on_record require when◌then◌else◌ stopped long
passed_so w e = go (long w) (well_formed w) refl refl e
  where
    go : (p q : Bool) → long w ≡ p → well_formed w ≡ q → granted ≡ require p (Err RecordShort) (require q (Err NotWellFormed) granted) → Valid w
    go true true l f e = valid w (leb→le record_size (length w) (true_T _ l)) f
    go true false l f e = absurd (true_T false (ap stopped e))
    go false q l f e = absurd (true_T false (ap stopped e))

pub passed_formed : (w : List ℕ) → granted ≡ asked w → well_formed w ≡ true
unfolding on_record require when◌then◌else◌ stopped
passed_formed w e = go (long w) (well_formed w) refl e
  where
    go : (p q : Bool) → well_formed w ≡ q → granted ≡ require p (Err RecordShort) (require q (Err NotWellFormed) granted) → well_formed w ≡ true
    go true true f e = f
    go true false f e = absurd (true_T false (ap stopped e))
    go false q f e = absurd (true_T false (ap stopped e))

-- What is long enough and is stopped, is not well formed.
pub stopped_long : (w : List ℕ) (k : Refusal) → record_size ≤ length w → Err k ≡ asked w → (well_formed w ≡ false) × (k ≡ NotWellFormed)
unfolding on_record require when◌then◌else◌ by stopped long
stopped_long w k l e = go (well_formed w) refl (e ∙ on_yes (long w) _ _ (le-leb record_size (length w) l))
  where
    go : (q : Bool) → well_formed w ≡ q → Err k ≡ require q (Err NotWellFormed) granted → (well_formed w ≡ false) × (k ≡ NotWellFormed)
    go true f e = absurd (true_T false (sym (ap stopped e)))
    go false f e = (f, ap by e)
