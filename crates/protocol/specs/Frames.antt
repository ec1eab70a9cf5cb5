-- Document 01, '`ringrun`': the frame that a line is, what is printed for it, and the record's words after it.
-- A line is its bytes without LF, which ends it.
use Rattle.std.specs.Prelude.{Bool, ◌&&◌, ◌||◌, List, [], ◌∷◌, ◌++◌, ℕ, zero, suc, ◌+◌, ◌-◌, ◌*◌, ◌/◌, ◌%◌, nat_le, nat_lt, nat_eq, length, get_or, Option, Some, None}
use Rattle.lists.specs.Basics.{when◌then◌else◌, require, every, table}
use Rattle.protocol.specs.Refusals.{number_of}
use Rattle.protocol.specs.Outcomes.{Outcome}
use Rattle.std.specs.Prelude.{Err, Ok}
use Rattle.protocol.specs.declared.Frame.{Frame}
use Rattle.protocol.specs.declared.Frame.TheVariants.{Founding, Command}
use Rattle.protocol.specs.Names.{UNREADABLE}
use Rattle.protocol.specs.Answers.{answer_words}
use Rattle.protocol.specs.Calls.{Called, fresh_by_call, step_call}

-- 'What `ringrun` reads and prints is hexadecimal', 'upper case': 0 to 9 are the bytes 48 to 57, A to F the bytes 65 to 70.
unfoldable pub is_digit : ℕ → Bool
is_digit b = (nat_le 48 b && nat_le b 57) || (nat_le 65 b && nat_le b 70)

-- The value of a digit; of any other byte, which is never read as one, 0.
unfoldable pub digit_value : ℕ → ℕ
digit_value b =
    when nat_lt b 48 then 0
    else when nat_lt b 58 then b - 48
    else when nat_lt b 65 then 0
    else when nat_lt b 71 then b - 55
    else 0

-- The number that digits are, read on behind a number that has been read: each digit makes it 16 times as large.
abbrev pub number_after : ℕ → List ℕ → ℕ
number_after v [] = v
number_after v (d ∷ digits) = number_after (v * 16 + digit_value d) digits

abbrev pub number : List ℕ → ℕ
number digits = number_after 0 digits

-- So many bytes, from a place of the line on. One that the line does not have is 0, which counts as the digit 0.
abbrev pub bytes_at : List ℕ → ℕ → ℕ → List ℕ
bytes_at l at n = table n (λ i. get_or l (at + i) 0)

-- The numbers that 2 and 8 digits are, from a place of the line on.
abbrev pub read2 : List ℕ → ℕ → ℕ
read2 l at = number (bytes_at l at 2)

abbrev pub read8 : List ℕ → ℕ → ℕ
read8 l at = number (bytes_at l at 8)

-- '`F0` and identifiers of 8 digits found a ring': so many digits follow F0.
unfoldable pub founding : ℕ → Option Frame
founding n = require (nat_eq (n % 8) 0) None (Some (Founding (n / 8)))

unfoldable pub identifier_at : List ℕ → ℕ → ℕ
identifier_at l i = read8 l (2 + 8 * i)

unfoldable pub identifiers : List ℕ → ℕ → List ℕ
identifiers l n = table n (identifier_at l)

-- 'Otherwise 2 digits of operation, 8 of x, 8 of y.'
unfoldable pub command : List ℕ → Option Frame
command l = require (nat_eq (length l) 18) None (Some (Command (read2 l 0) (read8 l 2) (read8 l 10)))

-- 'A frame that does not read so, or exceeds 514 digits'; 'an empty line is a frame that does not read'.
unfoldable pub frame : List ℕ → Option Frame
frame l =
    require (nat_le (length l) 514) None
    (require (every is_digit l) None
    (require (nat_le 2 (length l)) None
    (when nat_eq (read2 l 0) 240 then founding (length l - 2) else command l)))

-- The last digit of a number, its last n digits, and its last 2, 4 and 8.
unfoldable pub digit_of : ℕ → ℕ
digit_of v = when nat_lt (v % 16) 10 then 48 + v % 16 else 55 + v % 16

abbrev pub print : ℕ → ℕ → List ℕ
print zero v = []
print (suc n) v = print n (v / 16) ++ (digit_of v ∷ [])

abbrev pub print2 : ℕ → List ℕ
print2 v = print 2 v

abbrev pub print4 : ℕ → List ℕ
print4 v = print 4 v

abbrev pub print8 : ℕ → List ℕ
print8 v = print 8 v

-- 'A refusal prints `EE` and its number in 2 digits.' EE is 238.
unfoldable pub refusal_text : ℕ → List ℕ
refusal_text k = print2 238 ++ print2 k

-- 'An answer prints kind 2, hub 2, number 8, ticket 8, hops 4 digits; founding prints quiet.'
unfoldable pub fields_text : List ℕ → List ℕ
fields_text f = print2 (get_or f 0 0) ++ (print2 (get_or f 1 0) ++ (print8 (get_or f 2 0) ++ (print8 (get_or f 3 0) ++ print4 (get_or f 4 0))))

unfoldable pub outcome_text : Outcome → List ℕ
outcome_text (Err k) = refusal_text (number_of k)
outcome_text (Ok a) = fields_text (answer_words a)

-- 'prints one line each': the text and LF (10).
unfoldable pub line : List ℕ → List ℕ
line t = t ++ (10 ∷ [])

-- What a line leaves: what is printed for it, and the lent slice.
pub record Printed : Type 0 where
  pub printed : List ℕ
  pub slice : List ℕ

unfoldable pub answering : Called → Printed
answering c = record { printed = line (outcome_text c.outcome); slice = c.slice }

-- A founding frame names hub 0 (document 02, 2026-02). What is no frame prints EEFF, and no word changes. FF is 255.
unfoldable pub frame_call : List ℕ → List ℕ → Option Frame → Printed
frame_call w l (Some (Founding n)) = answering (fresh_by_call w (identifiers l n) 0)
frame_call w l (Some (Command operation x y)) = answering (step_call w operation x y)
frame_call w l None = record { printed = line (refusal_text UNREADABLE); slice = w }

unfoldable pub line_call : List ℕ → List ℕ → Printed
line_call w l = frame_call w l (frame l)
