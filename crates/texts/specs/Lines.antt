-- A line out of the bytes of an input: LF, byte 10, ends it.
use Rattle.std.specs.Prelude.{Bool, true, false, List, [], ◌∷◌, ◌++◌, ℕ, nat_eq, take}
use Rattle.lists.specs.Basics.{when◌then◌else◌}

-- The line's bytes so far, whether it has ended, and the input that follows.
pub record Gathering : Type 0 where
  pub part : List ℕ
  pub ended : Bool
  pub left : List ℕ

-- One byte more of a line, of which the first n are kept.
unfoldable pub kept : ℕ → List ℕ → ℕ → List ℕ
kept n part b = take n (part ++ (b ∷ []))

unfoldable pub gathered : ℕ → List ℕ → List ℕ → Gathering
gathered n part [] = record { part = part; ended = false; left = [] }
gathered n part (b ∷ rest) = when nat_eq b 10 then record { part = part; ended = true; left = rest } else gathered n (kept n part b) rest
