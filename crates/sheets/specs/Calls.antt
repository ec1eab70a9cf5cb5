-- What the two calls give (document 02, 2026-03), for every text and every lent buffer, and what they leave there. The questions are asked in
-- the order of their numbers, each of all that is given; a call that is refused leaves what it was lent.
use Rattle.std.specs.Prelude.{Bool, ◌&&◌, List, ◌++◌, ℕ, nat_le, length, drop, Result, Ok, Err}
use Rattle.lists.specs.Basics.{require, every}
use Rattle.protocol.specs.declared.refusal.Refusal.{Refusal}
use Rattle.protocol.specs.declared.refusal.Refusal.TheVariants.{NoSheet, IdentifierTooLarge, RoomShort}
use Rattle.protocol.specs.Bytes.{words_of, bytes_of}
use Rattle.sheets.specs.declared.Counts.{Counts}
use Rattle.sheets.specs.Reader.{Said, nothing, lists, reading}
use Rattle.sheets.specs.Writer.{names_for, rows_in, write_sheet}

-- What a call gives: how many rows and bytes were written, or why it is refused.
abbrev pub Outcome : Type 0
Outcome = Result Counts Refusal

abbrev pub done : ℕ → ℕ → Outcome
done r b = Ok (record { rows = r; bytes = b })

-- A buffer with a list written to its front; what is behind keeps its content.
unfoldable pub laid : List ℕ → List ℕ → List ℕ
laid w l = l ++ drop (length l) w

-- An identifier is a word of 32 bits.
unfoldable pub is_word : ℕ → Bool
is_word v = nat_le v 4294967295

-- What reading a sheet leaves: its outcome, and the lent identifiers and names.
pub record SheetRead : Type 0 where
  pub outcome : Outcome
  pub identifiers : List ℕ
  pub names : List ℕ

-- A refusal leaves both as they were.
abbrev pub unread : List ℕ → List ℕ → Refusal → SheetRead
unread ids names k = record { outcome = Err k; identifiers = ids; names = names }

-- Reading, by what the text says (Reader.antt): is it a sheet, do all identifiers fit, are both outputs long enough? The identifiers lie there as
-- words, or as bytes.
unfoldable pub read_into : (List ℕ → List ℕ) → List ℕ → List ℕ → Said → SheetRead
read_into form ids names nothing = unread ids names NoSheet
read_into form ids names (lists n i) =
    require (every is_word i) (unread ids names IdentifierTooLarge)
    (require (nat_le (length (form i)) (length ids) && nat_le (length n) (length names)) (unread ids names RoomShort)
    (record { outcome = done (length i) (length n); identifiers = laid ids (form i); names = laid names n }))

-- On words.
abbrev pub as_words : List ℕ → List ℕ
as_words i = i

unfoldable pub read_call : List ℕ → List ℕ → List ℕ → SheetRead
read_call text ids names = read_into as_words ids names (reading text)

-- As C lends them, an identifier has four bytes.
unfoldable pub read_bytes_call : List ℕ → List ℕ → List ℕ → SheetRead
read_bytes_call text ids names = read_into (λ i. bytes_of i) ids names (reading text)

-- What writing a sheet leaves: its outcome, and the lent text.
pub record SheetWritten : Type 0 where
  pub outcome : Outcome
  pub text : List ℕ

-- The text for the rows in the lent names and identifiers.
unfoldable pub sheet_text : List ℕ → List ℕ → List ℕ
sheet_text names ids = write_sheet (rows_in names ids)

-- Writing: are the names one for each identifier, is the text long enough?
unfoldable pub write_call : List ℕ → List ℕ → List ℕ → SheetWritten
write_call names ids text =
    require (names_for names (length ids)) (record { outcome = Err NoSheet; text = text })
    (require (nat_le (length (sheet_text names ids)) (length text)) (record { outcome = Err RoomShort; text = text })
    (record { outcome = done (length ids) (length (sheet_text names ids)); text = laid text (sheet_text names ids) }))

unfoldable pub write_bytes_call : List ℕ → List ℕ → List ℕ → SheetWritten
write_bytes_call names ids text = write_call names (words_of ids) text
