-- A list of rows as it lies in the lent buffers: the names, a zero byte behind each, and the identifiers.
use Rattle.std.specs.Prelude.{◌≡◌, List, [], ◌∷◌, ◌++◌, ℕ}
use Rattle.sheets.specs.Grammar.{Row, Sheet}

unfoldable pub names_of : List Row → List ℕ
names_of [] = []
names_of (r ∷ rs) = r.name ++ (0 ∷ names_of rs)

unfoldable pub identifiers_of : List Row → List ℕ
identifiers_of [] = []
identifiers_of (r ∷ rs) = r.identifier ∷ identifiers_of rs

-- A text that is a sheet, whose rows lie so in the buffers: x is their names, y their identifiers.
pub record Rest (t x y : List ℕ) : Type 0 where
  pub rows : List Row
  pub sheet : Sheet t rows
  pub names : x ≡ names_of rows
  pub identifiers : y ≡ identifiers_of rows
