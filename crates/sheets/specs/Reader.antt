-- The reader: a byte at a time, from place to place. `decides` (proofs/Theorem.antt) says that it reads exactly the sheets of Grammar.antt.
-- Assumes nothing.
use Rattle.std.specs.Prelude.{List, [], ◌∷◌, ◌++◌, ℕ, ◌+◌, ◌-◌, ◌*◌, nat_eq}
use Rattle.lists.specs.Basics.{when◌then◌else◌}
use Rattle.sheets.specs.declared.Place.{Place}
use Rattle.sheets.specs.declared.Place.TheVariants.{Start, Plain, Opened, Quoted, Closed, Number, Digits, NumberOpened, NumberQuoted, NumberClosed, Return, Wrong}
use Rattle.sheets.specs.declared.Effect.{Effect}
use Rattle.sheets.specs.declared.Effect.TheVariants.{Quiet, Letter, EndName, Figure, EndRow}
use Rattle.sheets.specs.declared.Ending.{Ending}
use Rattle.sheets.specs.declared.Ending.TheVariants.{Within, BehindRows, BehindNumber}
use Rattle.sheets.specs.Grammar.{quote, comma, cr, lf, bare, is_digit}

-- In an unquoted name, or before it.
unfoldable pub unquoted : ℕ → Place
unquoted b = when nat_eq b comma then Number else when nat_eq b 0 then Wrong else when bare b then Plain else Wrong

-- In a quoted name: a quote ends it, or is the first of two.
unfoldable pub quoted : ℕ → Place
quoted b = when nat_eq b quote then Closed else when nat_eq b 0 then Wrong else Quoted

unfoldable pub closed : ℕ → Place
closed b = when nat_eq b quote then Quoted else when nat_eq b comma then Number else Wrong

unfoldable pub row_end : ℕ → Place
row_end b = when nat_eq b cr then Return else Wrong

unfoldable pub number : ℕ → Place
number b = when nat_eq b quote then NumberOpened else when is_digit b then Digits else Wrong

unfoldable pub digits : ℕ → Place
digits b = when is_digit b then Digits else row_end b

unfoldable pub number_quoted : ℕ → Place
number_quoted b = when nat_eq b quote then NumberClosed else when is_digit b then NumberQuoted else Wrong

-- Where a byte leads to.
unfoldable pub next : Place → ℕ → Place
next Start b = when nat_eq b quote then Opened else unquoted b
next Plain b = unquoted b
next Opened b = quoted b
next Quoted b = quoted b
next Closed b = closed b
next Number b = number b
next Digits b = digits b
next NumberOpened b = when is_digit b then NumberQuoted else Wrong
next NumberQuoted b = number_quoted b
next NumberClosed b = row_end b
next Return b = when nat_eq b lf then Start else Wrong
next Wrong b = Wrong

unfoldable pub effect : Place → Effect
effect Start = Quiet
effect Plain = Letter
effect Opened = Quiet
effect Quoted = Letter
effect Closed = Quiet
effect Number = EndName
effect Digits = Figure
effect NumberOpened = Quiet
effect NumberQuoted = Figure
effect NumberClosed = Quiet
effect Return = EndRow
effect Wrong = Quiet

-- What it adds to the names: a byte, or the zero byte behind a name.
unfoldable pub said : Effect → ℕ → List ℕ
said Quiet b = []
said Letter b = b ∷ []
said EndName b = 0 ∷ []
said Figure b = []
said EndRow b = []

-- The number that is being read, where it was v.
unfoldable pub valued : Effect → ℕ → ℕ → ℕ
valued Quiet b v = v
valued Letter b v = v
valued EndName b v = 0
valued Figure b v = 10 * v + (b - 48)
valued EndRow b v = v

-- What it adds to the identifiers.
unfoldable pub told : Effect → ℕ → List ℕ
told Quiet v = []
told Letter v = []
told EndName v = []
told Figure v = []
told EndRow v = v ∷ []

-- A reader: its place, the names so far, each followed by a zero byte, the identifiers so far, and the number that is being read.
pub record Reader : Type 0 where
  pub place : Place
  pub names : List ℕ
  pub identifiers : List ℕ
  pub value : ℕ

unfoldable pub moved : Reader → Place → ℕ → Reader
moved m q b = record { place = q; names = m.names ++ said (effect q) b; identifiers = m.identifiers ++ told (effect q) m.value; value = valued (effect q) b m.value }

unfoldable pub fed : Reader → ℕ → Reader
fed m b = moved m (next m.place b) b

unfoldable pub run : Reader → List ℕ → Reader
run m [] = m
run m (b ∷ t) = run (fed m b) t

unfoldable pub fresh : Reader
fresh = record { place = Start; names = []; identifiers = []; value = 0 }

-- A reader at a place, with what it has so far.
abbrev pub standing : Place → List ℕ → List ℕ → ℕ → Reader
standing p n i v = record { place = p; names = n; identifiers = i; value = v }

-- What a text says: nothing, or names and identifiers.
pub data Said : Type 0 where
  nothing : Said
  lists : List ℕ → List ℕ → Said

-- Where a text may end: behind the rows, or behind a number.
unfoldable pub ending : Place → Ending
ending Start = BehindRows
ending Plain = Within
ending Opened = Within
ending Quoted = Within
ending Closed = Within
ending Number = Within
ending Digits = BehindNumber
ending NumberOpened = Within
ending NumberQuoted = Within
ending NumberClosed = BehindNumber
ending Return = Within
ending Wrong = Within

unfoldable pub ended_as : Ending → Reader → Said
ended_as Within m = nothing
ended_as BehindRows m = lists m.names m.identifiers
ended_as BehindNumber m = lists m.names (m.identifiers ++ (m.value ∷ []))

unfoldable pub ended : Reader → Said
ended m = ended_as (ending m.place) m

unfoldable pub reading : List ℕ → Said
reading t = ended (run fresh t)
