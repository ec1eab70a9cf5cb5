-- The identifiers of a founding: one more read, and that they all stand in the line. Assumes nothing.
use Rattle.std.specs.Prelude.{◌≡◌, List, [], ◌∷◌, ◌++◌, ℕ, ◌+◌, ◌-◌, ◌*◌, ◌/◌, ◌%◌, ◌≤◌, ◌<◌, nat_le, nat_eq, length, take, set, Option, Some, None}
use Rattle.std.proofs.Common.{refl, ap, sym, ◌∙◌, subst, add-one, arith, leb→le, take-suc-set}
use Rattle.lists.specs.Choice.{choose, tested}
use Rattle.lists.specs.Basics.{every, table}
use Rattle.lists.specs.Blocks.{length_table}
use Rattle.protocol.specs.declared.Frame.{Frame}
use Rattle.protocol.specs.declared.Frame.TheVariants.{Founding, Command}
use Rattle.protocol.specs.Frames.{is_digit, read2, read8, founding, command, frame, identifier_at, identifiers}

pub identifiers_none : (l ids : List ℕ) → take 0 ids ≡ identifiers l 0
unfolding identifiers table
identifiers_none l ids = refl

pub identifiers_more : (l ids : List ℕ) (i : ℕ) → i < length ids → take i ids ≡ identifiers l i
    → take (i + 1) (set ids i (read8 l (2 + 8 * i))) ≡ identifiers l (i + 1)
unfolding identifiers identifier_at table
identifiers_more l ids i h e = rw add-one (take-suc-set ids i (read8 l (2 + 8 * i)) h ∙ ap (λ z. z ++ (read8 l (2 + 8 * i) ∷ [])) e)

pub length_identifiers : (l : List ℕ) (n : ℕ) → length (identifiers l n) ≡ n
unfolding identifiers
length_identifiers l n = length_table n (identifier_at l)

-- A founding in a line of n bytes has room there for its identifiers, and they are at most 64.
unfoldable pub Fits : ℕ → Option Frame → Type 0
Fits n (Some (Founding k)) = (k ≤ 64) × (2 + 8 * k ≤ n)
Fits n (Some (Command operation x y)) = Unit {0}
Fits n None = Unit {0}

founding_fits : (n : ℕ) → 2 ≤ n → n ≤ 514 → Fits n (founding (n - 2))
unfolding Fits founding
founding_fits n h k = tested (Fits n) (nat_eq ((n - 2) % 8) 0) None (Some (Founding ((n - 2) / 8))) tt (λ _. (omega arith, omega arith))

command_fits : (l : List ℕ) → Fits (length l) (command l)
unfolding Fits command
command_fits l = tested (Fits (length l)) (nat_eq (length l) 18) None (Some (Command (read2 l 0) (read8 l 2) (read8 l 10))) tt (λ _. tt)

pub frame_fits : (l : List ℕ) → Fits (length l) (frame l)
unfolding Fits frame
frame_fits l =
    tested (Fits (length l)) (nat_le (length l) 514) None _ tt
    (λ s. tested (Fits (length l)) (every is_digit l) None _ tt
    (λ _. tested (Fits (length l)) (nat_le 2 (length l)) None _ tt
    (λ t. choose (Fits (length l)) (nat_eq (read2 l 0) 240) (founding (length l - 2)) (command l)
    (λ _. founding_fits (length l) (leb→le 2 (length l) t) (leb→le (length l) 514 s))
    (λ _. command_fits l))))

pub decoded_fits : (l : List ℕ) (r : Option Frame) (k : ℕ) → r ≡ frame l → r ≡ Some (Founding k) → (k ≤ 64) × (2 + 8 * k ≤ length l)
unfolding Fits
decoded_fits l r k e f = subst (Fits (length l)) (sym e ∙ f) (frame_fits l)
