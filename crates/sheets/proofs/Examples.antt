-- The readings of the sheet's edge cases, computed. Assumes nothing.
use Rattle.std.specs.Prelude.{◌≡◌, refl, List, [], ◌∷◌}
use Rattle.std.proofs.Common.{arith}
use Rattle.lists.specs.Basics.{when◌then◌else◌, every, All}
use Rattle.sheets.specs.Grammar.{Row, bare, non_zero, doubled, is_digit}
use Rattle.sheets.specs.Rows.{names_of, identifiers_of}
use Rattle.sheets.specs.Reader
use Rattle.sheets.specs.Reader.{next, effect, said, valued, told, moved, fed, run, fresh, nothing, lists, ending, ended_as, ended, reading}
use Rattle.sheets.specs.Writer.{name_text, last_digits, digit_count, decimal, row_text, write_sheet}
use Rattle.sheets.specs.Buffers.{Writable}
use Rattle.sheets.proofs.Theorem.{round_trip}

-- "a""b",007 CR LF ,"4294967296" : two rows, the second without a name, its number too large (which is 20), the last CR LF missing.
pub two_rows : reading (34 ∷ 97 ∷ 34 ∷ 34 ∷ 98 ∷ 34 ∷ 44 ∷ 48 ∷ 48 ∷ 55 ∷ 13 ∷ 10 ∷ 44 ∷ 34 ∷ 52 ∷ 50 ∷ 57 ∷ 52 ∷ 57 ∷ 54 ∷ 55 ∷ 50 ∷ 57 ∷ 54 ∷ 34 ∷ [])
    ≡ lists (97 ∷ 34 ∷ 98 ∷ 0 ∷ 0 ∷ []) (7 ∷ 4294967296 ∷ [])
unfolding reading run fed moved next Reader.unquoted Reader.quoted Reader.closed Reader.number Reader.digits Reader.number_quoted Reader.row_end bare is_digit effect said valued told fresh ended ended_as ending when◌then◌else◌
two_rows = refl

-- An empty text is an empty list. A row end alone, a bare LF, a CR at the end, a zero byte in a name, a quote in an unquoted name, a blank
-- behind a quoted name, a third field and no digit: none of them is a sheet.
pub edges :
    (reading [] ≡ lists [] [])
    × (reading (13 ∷ 10 ∷ []) ≡ nothing)
    × (reading (97 ∷ 44 ∷ 49 ∷ 10 ∷ []) ≡ nothing)
    × (reading (97 ∷ 44 ∷ 49 ∷ 13 ∷ []) ≡ nothing)
    × (reading (0 ∷ 44 ∷ 49 ∷ []) ≡ nothing)
    × (reading (34 ∷ 0 ∷ 34 ∷ 44 ∷ 49 ∷ []) ≡ nothing)
    × (reading (97 ∷ 34 ∷ 44 ∷ 49 ∷ []) ≡ nothing)
    × (reading (34 ∷ 97 ∷ 34 ∷ 32 ∷ 44 ∷ 49 ∷ []) ≡ nothing)
    × (reading (97 ∷ 44 ∷ 49 ∷ 44 ∷ 49 ∷ []) ≡ nothing)
    × (reading (97 ∷ 44 ∷ []) ≡ nothing)
    × (reading (97 ∷ 44 ∷ 34 ∷ 34 ∷ []) ≡ nothing)
unfolding reading run fed moved next Reader.unquoted Reader.quoted Reader.closed Reader.number Reader.digits Reader.number_quoted Reader.row_end bare is_digit effect said valued told fresh ended ended_as ending when◌then◌else◌
edges = (refl, refl, refl, refl, refl, refl, refl, refl, refl, refl, refl)

-- a"b and 4294967295 are written "a""b",4294967295 CR LF; a blank and 0 are written as they are.
pub written :
    (row_text (record { name = 97 ∷ 34 ∷ 98 ∷ []; identifier = 4294967295 }) ≡ 34 ∷ 97 ∷ 34 ∷ 34 ∷ 98 ∷ 34 ∷ 44 ∷ 52 ∷ 50 ∷ 57 ∷ 52 ∷ 57 ∷ 54 ∷ 55 ∷ 50 ∷ 57 ∷ 53 ∷ 13 ∷ 10 ∷ [])
    × (row_text (record { name = 32 ∷ []; identifier = 0 }) ≡ 32 ∷ 44 ∷ 48 ∷ 13 ∷ 10 ∷ [])
unfolding row_text name_text decimal last_digits digit_count doubled bare every when◌then◌else◌
written = (refl, refl)

-- Two rows that can be written: a name of a quote, a comma, CR and LF, and an empty one. The text for them says them again.
unfoldable pub awkward : List Row
awkward = record { name = 34 ∷ 44 ∷ 13 ∷ 10 ∷ []; identifier = 0 } ∷ record { name = []; identifier = 4294967295 } ∷ []

pub awkward_writable : All Writable awkward
unfolding awkward non_zero every
awkward_writable = ((refl, omega arith), ((refl, omega arith), tt))

pub there_and_back : reading (write_sheet awkward) ≡ lists (34 ∷ 44 ∷ 13 ∷ 10 ∷ 0 ∷ 0 ∷ []) (0 ∷ 4294967295 ∷ [])
unfolding awkward names_of identifiers_of
there_and_back = round_trip awkward awkward_writable
