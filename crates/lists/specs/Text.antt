-- A text as the numbers of its characters: examples are written so. Assumes nothing.
use mathlib.Core.List as list
use Rattle.std.specs.Prelude.{List, ℕ}
use Prim.Native.Char.{code}
use Prim.Native.String.{String, [], ◌∷◌}

unfoldable pub codes : String → List ℕ
codes [] = list.[]
codes (c ∷ s) = list.◌∷◌ (code c) (codes s)
