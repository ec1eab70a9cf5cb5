-- The office sheet's two calls for C (document 02, 2026-03): 17 where there is no room for the counts, asked first; then the call's own
-- number, or 0 and the counts.
use Rattle.std.specs.Prelude.{◌≡◌, List, [], ◌∷◌, ℕ, ◌/◌, ◌%◌, ◌≤◌, ◌<◌, nat_le, length, Ok, Err}
use Rattle.std.proofs.Math.Path.{ap}
use Rattle.std.proofs.Common.{◌∙◌, le-leb}
use Rattle.std.proofs.lemmas.Bool.{lt-leb}
use Rattle.lists.specs.Basics.{require}
use Rattle.lists.specs.Choice.{on_yes, on_no}
use Rattle.protocol.specs.declared.refusal.Refusal.TheVariants.{OutputShort}
use Rattle.protocol.specs.Refusals.{number_of}
use Rattle.protocol.specs.Answers.{refusal}
use Rattle.protocol.specs.Bytes.{over}
use Rattle.sheets.specs.Calls.{Outcome, SheetRead, SheetWritten, read_bytes_call, write_bytes_call}

-- A count has eight bytes, lowest first: two words.
unfoldable pub count_words : ℕ → ℕ → List ℕ
count_words rows bytes = rows % 4294967296 ∷ rows / 4294967296 ∷ bytes % 4294967296 ∷ bytes / 4294967296 ∷ []

-- The lent counts: written where the call is accepted, and then only their first 16 bytes.
unfoldable pub counts_after : List ℕ → Outcome → List ℕ
counts_after counts (Err k) = counts
counts_after counts (Ok c) = over counts (count_words c.rows c.bytes)

-- What the reading call leaves.
pub record ReadTold : Type 0 where
  pub code : ℕ
  pub identifiers : List ℕ
  pub names : List ℕ
  pub counts : List ℕ

unfoldable pub told_read : List ℕ → SheetRead → ReadTold
told_read counts r = record { code = refusal r.outcome; identifiers = r.identifiers; names = r.names; counts = counts_after counts r.outcome }

unfoldable pub sheet_read : List ℕ → List ℕ → List ℕ → List ℕ → ReadTold
sheet_read text ids names counts =
    require (nat_le 16 (length counts)) (record { code = number_of OutputShort; identifiers = ids; names = names; counts = counts }) (told_read counts (read_bytes_call text ids names))

-- What the writing call leaves.
pub record WriteTold : Type 0 where
  pub code : ℕ
  pub text : List ℕ
  pub counts : List ℕ

unfoldable pub told_write : List ℕ → SheetWritten → WriteTold
told_write counts r = record { code = refusal r.outcome; text = r.text; counts = counts_after counts r.outcome }

unfoldable pub sheet_write : List ℕ → List ℕ → List ℕ → List ℕ → WriteTold
sheet_write names ids text counts =
    require (nat_le 16 (length counts)) (record { code = number_of OutputShort; text = text; counts = counts }) (told_write counts (write_bytes_call names ids text))

module _ (text ids names counts : List ℕ) where
  pub read_17 : length counts < 16 → sheet_read text ids names counts ≡ record { code = number_of OutputShort; identifiers = ids; names = names; counts = counts }
  unfolding sheet_read
  read_17 h = on_no (nat_le 16 (length counts)) _ _ (lt-leb 16 (length counts) h)

  pub read_told : (r : SheetRead) → 16 ≤ length counts → read_bytes_call text ids names ≡ r → sheet_read text ids names counts ≡ told_read counts r
  unfolding sheet_read
  read_told r h e = on_yes (nat_le 16 (length counts)) _ _ (le-leb 16 (length counts) h) ∙ ap (told_read counts) e

  pub write_17 : length counts < 16 → sheet_write names ids text counts ≡ record { code = number_of OutputShort; text = text; counts = counts }
  unfolding sheet_write
  write_17 h = on_no (nat_le 16 (length counts)) _ _ (lt-leb 16 (length counts) h)

  pub write_told : (r : SheetWritten) → 16 ≤ length counts → write_bytes_call names ids text ≡ r → sheet_write names ids text counts ≡ told_write counts r
  unfolding sheet_write
  write_told r h e = on_yes (nat_le 16 (length counts)) _ _ (le-leb 16 (length counts) h) ∙ ap (told_write counts) e
