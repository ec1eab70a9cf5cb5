-- Document 01, '`ringrun`': the whole program, from the bytes of its input to the bytes that it prints.
use Rattle.std.specs.Prelude.{List, [], ◌∷◌, ◌++◌, ℕ, nat_eq, length, replicate}
use Rattle.lists.specs.Basics.{when◌then◌else◌}
use Rattle.protocol.specs.Record.{record_size}
use Rattle.protocol.specs.Frames.{line_call}

-- The lines of an input, the first of which has begun with the bytes given. LF, byte 10, ends a line; the end of the input ends one that has
-- begun, and where nothing has begun there is none.
unfoldable pub lines_of : List ℕ → List ℕ → List (List ℕ)
lines_of begun [] = when nat_eq (length begun) 0 then [] else begun ∷ []
lines_of begun (b ∷ rest) = when nat_eq b 10 then begun ∷ lines_of [] rest else lines_of (begun ++ (b ∷ [])) rest

-- One line is printed for each, made on the slice as the line before it left it.
unfoldable pub answers : List ℕ → List (List ℕ) → List ℕ
answers w [] = []
answers w (l ∷ lines) = (line_call w l).printed ++ answers (line_call w l).slice lines

-- All words are 0 until a ring is founded.
unfoldable pub ringrun : List ℕ → List ℕ
ringrun input = answers (replicate record_size 0) (lines_of [] input)

-- The same byte by byte, since an input arrives in pieces. Between two bytes there are the slice, the bytes of the line that has begun, and
-- what was printed.
pub record Standing : Type 0 where
  pub slice : List ℕ
  pub begun : List ℕ
  pub printed : List ℕ

unfoldable pub line_ended : Standing → Standing
line_ended s = record {
  slice = (line_call s.slice s.begun).slice;
  begun = [];
  printed = s.printed ++ (line_call s.slice s.begun).printed;
}

unfoldable pub byte_fed : Standing → ℕ → Standing
byte_fed s b = when nat_eq b 10 then line_ended s else record { slice = s.slice; begun = s.begun ++ (b ∷ []); printed = s.printed }

unfoldable pub fed : Standing → List ℕ → Standing
fed s [] = s
fed s (b ∷ rest) = fed (byte_fed s b) rest

-- the end of the input
unfoldable pub ended : Standing → Standing
ended s = when nat_eq (length s.begun) 0 then s else line_ended s
