-- The office's sheet (document 02, 2026-03): which bytes are one, and which rows they say. The grammar is RFC 4180's, section 2, for two fields
-- a row and no header. It says what a sheet is, not how to read one: Reader.antt decides it.
use Rattle.std.specs.Prelude.{◌≡◌, Bool, true, not, ◌&&◌, List, [], ◌∷◌, ◌++◌, ℕ, ◌+◌, ◌-◌, ◌*◌, ◌≤◌, nat_le, nat_eq, length}
use Rattle.lists.specs.Basics.{when◌then◌else◌, every}

abbrev pub quote : ℕ
quote = 34

abbrev pub comma : ℕ
comma = 44

abbrev pub cr : ℕ
cr = 13

abbrev pub lf : ℕ
lf = 10

-- What a row says.
pub record Row : Type 0 where
  pub name : List ℕ
  pub identifier : ℕ

-- The bytes that need no quotes around them: all but four.
unfoldable pub bare : ℕ → Bool
bare b = (not (nat_eq b quote) && not (nat_eq b comma)) && (not (nat_eq b cr) && not (nat_eq b lf))

-- Within quotes a quote stands twice.
unfoldable pub doubled : List ℕ → List ℕ
doubled [] = []
doubled (b ∷ s) = when nat_eq b quote then quote ∷ quote ∷ doubled s else b ∷ doubled s

-- A field: its text, and the bytes that it says.
pub data Field : List ℕ → List ℕ → Type 0 where
  plain : {s : List ℕ} → every bare s ≡ true → Field s s
  quoted : {s : List ℕ} → Field (quote ∷ (doubled s ++ (quote ∷ []))) s

-- A name ends at a zero byte where it is lent, so it has none inside.
unfoldable pub non_zero : ℕ → Bool
non_zero b = not (nat_eq b 0)

unfoldable pub is_digit : ℕ → Bool
is_digit b = nat_le 48 b && nat_le b 57

-- The number that decimal digits say, behind digits that say v.
unfoldable pub worth : ℕ → List ℕ → ℕ
worth v [] = v
worth v (b ∷ s) = worth (10 * v + (b - 48)) s

-- A row: a name, a comma, and digits, of which there is at least one. Both fields may be quoted.
pub data RowText : List ℕ → Row → Type 0 where
  row : {f g name digits : List ℕ} → Field f name → every non_zero name ≡ true → Field g digits → every is_digit digits ≡ true → 1 ≤ length digits
      → RowText (f ++ (comma ∷ g)) (record { name = name; identifier = worth 0 digits })

-- A sheet: no row at all; or a row that ends the text; or a row, CR LF, and a sheet.
pub data Sheet : List ℕ → List Row → Type 0 where
  empty : Sheet [] []
  last : {t : List ℕ} {r : Row} → RowText t r → Sheet t (r ∷ [])
  more : {t u : List ℕ} {r : Row} {rs : List Row} → RowText t r → Sheet u rs → Sheet (t ++ (cr ∷ lf ∷ u)) (r ∷ rs)
