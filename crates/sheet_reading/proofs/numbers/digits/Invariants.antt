-- `digits`: all bytes passed are digits, and make the number. Assumes nothing.
use mathlib.Core.Path.{◌≡◌}
use mathlib.Core.Bool.{true}
use Prim.Native.Nat.{◌≤◌}
use Rattle.lists.specs.Basics.{every}
use Rattle.sheets.specs.Grammar.{is_digit, worth}
use Rattle.sheet_reading.specs.Runs.{between}
use Rattle.sheet_reading.proofs.numbers.digits.Given as goal

abbrev pub invariant-loop-i : goal.invariant-loop-i
invariant-loop-i l = (every is_digit (between l.from l.i l.text) ≡ true) × (l.value ≡ worth 0 (between l.from l.i l.text)) × (l.value ≤ 999999999)
