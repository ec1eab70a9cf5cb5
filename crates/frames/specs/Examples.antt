-- The readings of the frame's edge cases, and how a refusal prints, computed. (Document 01's eight lines are a probe: atomicity/specs/Probes.antt.)
-- Assumes nothing.
use Rattle.std.specs.Prelude.{◌≡◌, refl, List, [], ◌∷◌, ◌++◌, ℕ, replicate, Some, None}
use Rattle.lists.specs.Basics.{when◌then◌else◌, require, every, table}
use Rattle.std.specs.Prelude.{Err}
use Rattle.protocol.specs.declared.Frame.TheVariants.{Founding, Command}
use Rattle.protocol.specs.Names.{UNREADABLE}
use Rattle.protocol.specs.declared.refusal.Refusal.TheVariants.{IdentifierCount}
use Rattle.protocol.specs.Frames.{is_digit, digit_value, founding, command, frame, digit_of, refusal_text, outcome_text}

-- 00, 00000000, 00000096
unfoldable pub ask_frame : List ℕ
ask_frame = replicate 16 48 ++ (57 ∷ 54 ∷ [])

-- An empty line does not read, nor does one with a CR behind it, nor one of lower case; F0 alone reads.
pub edges :
    (frame ask_frame ≡ Some (Command 0 0 150))
    × (frame [] ≡ None)
    × (frame (ask_frame ++ (13 ∷ [])) ≡ None)
    × (frame (102 ∷ 48 ∷ []) ≡ None)
    × (frame (70 ∷ 48 ∷ []) ≡ Some (Founding 0))
unfolding ask_frame is_digit digit_value founding command frame when◌then◌else◌ require every table
edges = (refl, refl, refl, refl, refl)

-- EE0D and EEFF
pub refusals :
    (outcome_text (Err IdentifierCount) ≡ 69 ∷ 69 ∷ 48 ∷ 68 ∷ [])
    × (refusal_text UNREADABLE ≡ 69 ∷ 69 ∷ 70 ∷ 70 ∷ [])
unfolding digit_of refusal_text outcome_text when◌then◌else◌
refusals = (refl, refl)
