-- The edge cases of an input, computed. Assumes nothing.
use Rattle.std.specs.Prelude.{◌≡◌, refl, List, [], ◌∷◌, ◌++◌, ℕ, replicate}
use Rattle.lists.specs.Basics.{when◌then◌else◌, require, every, table}
use Rattle.protocol.specs.Record.{record_size}
use Rattle.protocol.specs.Frames.{is_digit, digit_value, founding, command, frame, digit_of, refusal_text, line, frame_call, line_call}
use Rattle.protocol.specs.Ringrun.{lines_of, answers, ringrun, line_ended, byte_fed, fed, ended}
use Rattle.stream.specs.Pieces.{cut, taken, written}

-- EEFF and LF
unfoldable pub unreadable : List ℕ
unreadable = 69 ∷ 69 ∷ 70 ∷ 70 ∷ 10 ∷ []

-- No input prints nothing; LF alone is an empty line; a last line that lacks its LF is answered as one that has it; two LF are two lines.
pub edges :
    (ringrun [] ≡ [])
    × (ringrun (10 ∷ []) ≡ unreadable)
    × (ringrun (70 ∷ []) ≡ unreadable)
    × (ringrun (70 ∷ 10 ∷ []) ≡ unreadable)
    × (ringrun (10 ∷ 10 ∷ []) ≡ unreadable ++ unreadable)
unfolding unreadable ringrun lines_of answers is_digit digit_value founding command frame digit_of refusal_text line frame_call line_call when◌then◌else◌ require every table
edges = (refl, refl, refl, refl, refl)

-- A line in two pieces, and LF in a third.
pub pieces : written (replicate record_size 0) [] ((70 ∷ []) ∷ (70 ∷ []) ∷ (10 ∷ []) ∷ []) ≡ unreadable
unfolding unreadable cut taken written fed byte_fed line_ended ended is_digit digit_value founding command frame digit_of refusal_text line frame_call line_call when◌then◌else◌ require every table
pieces = refl
