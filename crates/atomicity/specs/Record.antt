-- Laws of a record under calls, for EVERY record and command: an accepted step, and an accepted fresh, leave it well formed; words past
-- the record are kept; on well-formed records words and state are inverse. Assumes nothing.
use Rattle.std.specs.Prelude.{◌≡◌, refl, true, List, ◌++◌, ℕ, ◌≤◌, T, nat_le, nat_lt, length, drop}
use Rattle.std.proofs.Common.{◌∙◌, subst, arith, leb→le, ltb→lt, length-append, length-drop}
use Rattle.lists.specs.Basics.{distinct}
use Rattle.lists.specs.Choice.{tested}
use Rattle.lists.specs.Tests.{T_true, true_T, says_distinct}
use Rattle.protocol.specs.declared.Answer.{Answer}
use Rattle.protocol.specs.declared.Answer.TheVariants.{Quiet}
use Rattle.protocol.specs.declared.refusal.Refusal.{Refusal}
use Rattle.protocol.specs.declared.refusal.Refusal.TheVariants.{NotWellFormed, RecordShort}
use Rattle.protocol.specs.Outcomes.{Outcome}
use Rattle.std.specs.Prelude.{Err, Ok}
use Rattle.protocol.specs.Record.{most_nodes, record_size, read, words}
use Rattle.protocol.specs.WellFormed.{well_formed}
use Rattle.protocol.specs.Fresh.{fresh}
use Rattle.protocol.specs.Step.{Result, refused, accepted, step}
use Rattle.protocol.specs.Calls.{Called, long, on_record, written, turned_down, step_call, fresh_by_call}
use Rattle.layout.specs.Words.{words_read, drop_words, length_words}
use Rattle.layout.specs.Form.{tidy, form_of, well_formed_words}
use Rattle.layout.specs.Questions.{fresh_cases, fresh_founds}
use Rattle.layout.specs.Asks.{Leaves, leaves_form, leaves_accepted}
use Rattle.atomicity.specs.Preserved.{step_form, fresh_form}

-- What a call may do to the words: keep them all, or leave a well-formed record with the later words as they were.
pub record Kept (w v : List ℕ) : Type 0 where
  pub size : length v ≡ length w
  pub later : drop record_size v ≡ drop record_size w

abbrev pub Sound : List ℕ → Called → Type 0
Sound w r = Kept w r.slice × ((a : Answer) → r.outcome ≡ Ok a → well_formed r.slice ≡ true)

turned_sound : (w : List ℕ) (k : Refusal) → Sound w (turned_down w k)
turned_sound w k = (record { size = refl; later = refl }, λ a e. absurd (no_answer e))
  where
    is_refused : Outcome → Type 0
    is_refused = elim [ Err j ↦ Unit {0} | Ok a ↦ ⊥ ]

    no_answer : {a : Answer} → Err k ≡ Ok a → ⊥
    no_answer e = subst is_refused e tt

written_sound : (w : List ℕ) (r : Result) → record_size ≤ length w → Leaves r → Sound w (written w r)
unfolding written
written_sound w (refused k) l f = turned_sound w k
written_sound w (accepted a s) l f =
    let g = leaves_form a s f in
    let z = length_words s (drop record_size w) g.few g.short in (
      record {
        size = length-append (words s) (drop record_size w) ∙ omega (arith, z, length-drop record_size w);
        later = drop_words s (drop record_size w) g.few g.short;
      },
      λ b e. T_true _ (well_formed_words s (drop record_size w) g),
    )

-- An accepted step leaves the record well formed.
pub step_sound : (w : List ℕ) (operation x y : ℕ) → Sound w (step_call w operation x y)
unfolding step_call on_record long
step_sound w operation x y =
    tested (Sound w) (nat_le record_size (length w)) _ _ (turned_sound w RecordShort)
    (λ t. tested (Sound w) (well_formed w) _ _ (turned_sound w NotWellFormed)
    (λ ok. written_sound w (step (read w) operation x y) (leb→le record_size (length w) t) (step_form (read w) (form_of w ok) operation x y)))

-- So does an accepted fresh, whoever founds.
pub fresh_sound : (w ids : List ℕ) (founder : ℕ) → Sound w (fresh_by_call w ids founder)
fresh_sound w ids founder =
    fresh_cases w ids founder (Sound w) (λ k m. turned_sound w k)
    (λ a. written_sound w (accepted Quiet (fresh ids founder)) a.long
    (leaves_accepted Quiet (fresh ids founder) (fresh_form ids founder a.below a.few ((says_distinct ids).to a.differ))))

-- On well-formed records words and state are inverse. (What is written is read: `read_words` of `layout`.)
pub words_of_read : (w : List ℕ) → record_size ≤ length w → well_formed w ≡ true → words (read w) ++ drop record_size w ≡ w
words_of_read w l ok = words_read w (tidy w (true_T _ ok) l)

-- What a fresh call of a good list of identifiers gives.
pub fresh_gives : (w ids : List ℕ) (founder : ℕ) → record_size ≤ length w → T (nat_lt founder (length ids)) → T (nat_le (length ids) most_nodes) → T (distinct ids)
    → fresh_by_call w ids founder ≡ record { outcome = Ok Quiet; slice = words (fresh ids founder) ++ drop record_size w }
unfolding written
fresh_gives w ids founder l below few differ =
    let b = ltb→lt founder (length ids) below in
    fresh_founds w ids founder (record { long = l; some = omega arith; few = leb→le (length ids) most_nodes few; differ = differ; below = b })
