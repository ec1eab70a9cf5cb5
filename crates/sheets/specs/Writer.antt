-- The office's sheet (document 02, 2026-03): the one text that is written for rows, and the rows that lie in the lent buffers.
use Rattle.std.specs.Prelude.{Bool, true, ◌&&◌, List, [], ◌∷◌, ◌++◌, ℕ, zero, suc, ◌+◌, ◌/◌, ◌%◌, nat_eq, nat_lt}
use Rattle.lists.specs.Basics.{when◌then◌else◌, every}
use Rattle.sheets.specs.Grammar.{Row, quote, comma, cr, lf, bare, doubled}

-- A name is quoted where one of its bytes needs it, and nowhere else.
unfoldable pub name_text : List ℕ → List ℕ
name_text s = when every bare s then s else quote ∷ (doubled s ++ (quote ∷ []))

-- The last k digits of a number; 0 is the byte 48.
unfoldable pub last_digits : ℕ → ℕ → List ℕ
last_digits zero v = []
last_digits (suc k) v = last_digits k (v / 10) ++ ((48 + v % 10) ∷ [])

-- How many digits a number below 2^32 has without leading zeros.
unfoldable pub digit_count : ℕ → ℕ
digit_count v =
    when nat_lt v 10 then 1
    else when nat_lt v 100 then 2
    else when nat_lt v 1000 then 3
    else when nat_lt v 10000 then 4
    else when nat_lt v 100000 then 5
    else when nat_lt v 1000000 then 6
    else when nat_lt v 10000000 then 7
    else when nat_lt v 100000000 then 8
    else when nat_lt v 1000000000 then 9
    else 10

-- An identifier: its digits alone.
unfoldable pub decimal : ℕ → List ℕ
decimal v = last_digits (digit_count v) v

-- A row, with CR LF behind it, the last one too.
unfoldable pub row_text : Row → List ℕ
row_text r = name_text r.name ++ (comma ∷ (decimal r.identifier ++ (cr ∷ lf ∷ [])))

unfoldable pub write_sheet : List Row → List ℕ
write_sheet [] = []
write_sheet (r ∷ rs) = row_text r ++ write_sheet rs

-- The first name of the bytes: those before the first zero byte. And the bytes behind that zero byte.
unfoldable pub first_name : List ℕ → List ℕ
first_name [] = []
first_name (b ∷ s) = when nat_eq b 0 then [] else b ∷ first_name s

unfoldable pub behind_name : List ℕ → List ℕ
behind_name [] = []
behind_name (b ∷ s) = when nat_eq b 0 then s else behind_name s

-- One name for each identifier.
unfoldable pub rows_in : List ℕ → List ℕ → List Row
rows_in l [] = []
rows_in l (v ∷ ids) = record { name = first_name l; identifier = v } ∷ rows_in (behind_name l) ids

-- Are the bytes one name for each identifier, and nothing else? There are as many zero bytes as identifiers, and nothing behind the last.
unfoldable pub zeros : List ℕ → ℕ
zeros [] = 0
zeros (b ∷ s) = when nat_eq b 0 then 1 + zeros s else zeros s

unfoldable pub ends_well : List ℕ → Bool
ends_well [] = true
ends_well (b ∷ []) = nat_eq b 0
ends_well (b ∷ c ∷ s) = ends_well (c ∷ s)

unfoldable pub names_for : List ℕ → ℕ → Bool
names_for l n = nat_eq (zeros l) n && ends_well l
