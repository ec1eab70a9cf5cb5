-- Document 01, 'Questions before a call, in order' and 'Reading the ring': what each call gives, for every list of words.
-- 'The first no decides. The number is returned, and no word of record or output changes.'
use Rattle.std.specs.Prelude.{Bool, ◌&&◌, List, [], ◌∷◌, ◌++◌, ℕ, zero, suc, nat_le, nat_lt, nat_eq, length, take, drop}
use Rattle.lists.specs.Basics.{when◌then◌else◌, require, first, distinct}
use Rattle.protocol.specs.declared.Answer.TheVariants.{Quiet}
use Rattle.protocol.specs.Outcomes.{Outcome, Ownership, Roll}
use Rattle.std.specs.Prelude.{Err, Ok}
use Rattle.protocol.specs.declared.refusal.Refusal.{Refusal}
use Rattle.protocol.specs.declared.refusal.Refusal.TheVariants.{IdentifierCount, IdentifierTwice, NotInRing, NotWellFormed, NoFounder, NoHolder, NoHub, NoWayRound, OutputShort, RecordShort}
use Rattle.protocol.specs.Record.{most_nodes, row_size, row_start, record_size, none, State, count, count_in, row, read, words}
use Rattle.protocol.specs.WellFormed.{well_formed}
use Rattle.protocol.specs.Fresh.{smallest, fresh}
use Rattle.protocol.specs.Routing.{in_ring}
use Rattle.protocol.specs.Step.{Result, refused, accepted, step}
use Rattle.protocol.specs.Membership.{holds}
use Rattle.protocol.specs.Answers.{refusal, number_words}

-- 'are there 1,988 words? 1.'
unfoldable pub long : List ℕ → Bool
long w = nat_le record_size (length w)

-- Every call but fresh: questions 1 and 2. `no_result k` is the refusal k.
unfoldable pub on_record : {A : Type 0} → List ℕ → (Refusal → A) → A → A
on_record w no_result rest = require (long w) (no_result RecordShort) (require (well_formed w) (no_result NotWellFormed) rest)

-- What a step or a fresh call leaves: its outcome, and the lent slice.
pub record Called : Type 0 where
  pub outcome : Outcome
  pub slice : List ℕ

abbrev pub turned_down : List ℕ → Refusal → Called
turned_down w k = record { outcome = Err k; slice = w }

-- 'later ones are never read or written'
unfoldable pub written : List ℕ → Result → Called
written w (refused k) = turned_down w k
written w (accepted a s) = record { outcome = Ok a; slice = words s ++ drop record_size w }

unfoldable pub step_call : List ℕ → ℕ → ℕ → ℕ → Called
step_call w operation x y = on_record w (turned_down w) (written w (step (read w) operation x y))

-- Fresh, with the founder named. It asks how many identifiers there are (13), whether two are equal (14), and at last (document 02, 2026-02)
-- whether the founder is one of the hubs (18). It answers quiet.
unfoldable pub fresh_by_call : List ℕ → List ℕ → ℕ → Called
fresh_by_call w ids founder =
    require (long w) (turned_down w RecordShort)
    (require (nat_le 1 (length ids) && nat_le (length ids) most_nodes) (turned_down w IdentifierCount)
    (require (distinct ids) (turned_down w IdentifierTwice)
    (require (nat_lt founder (length ids)) (turned_down w NoFounder)
    (written w (accepted Quiet (fresh ids founder))))))

-- Fresh, where nobody is named.
abbrev pub fresh_call : List ℕ → List ℕ → Called
fresh_call w ids = fresh_by_call w ids (smallest ids)

-- Owner query: 'does some hub hold the number? 15 (the lowest hub number if several).'
abbrev pub lowest_holder : State → ℕ → ℕ
lowest_holder s v = first (λ hub. holds s hub v) (count s)

unfoldable pub owner_call : List ℕ → ℕ → Ownership
owner_call w v =
    on_record w Err
    (require (nat_lt (lowest_holder (read w) v) (count_in w)) (Err NoHolder)
    (Ok (lowest_holder (read w) v)))

-- 'The hub row is handed out as the seven words inside the caller's record'; 'on a no to 1, 2 or hub below n it hands out an empty part'.
unfoldable pub row_call : List ℕ → ℕ → List ℕ
row_call w hub = on_record w (λ k. []) (require (nat_lt hub (count_in w)) [] (take row_size (drop (row_start hub) w)))

-- The hubs passed by following succ, where that comes back to its start.
pub data Traversal : Type 0 where
  lost : Traversal
  complete : List ℕ → Traversal

abbrev pub followed_by : ℕ → Traversal → Traversal
followed_by hub lost = lost
followed_by hub (complete l) = complete (hub ∷ l)

-- 'A roll call from a hub is that hub followed by the roll of its successor, until the start returns', of at most so many hubs.
-- 'Does following succ come back to the start after at most n hubs (a succ of none is a no)?'
unfoldable pub roll : State → ℕ → ℕ → ℕ → Traversal
roll s start zero hub = lost
roll s start (suc left) hub =
    when nat_eq (row s hub).succ start then complete (hub ∷ [])
    else when nat_eq (row s hub).succ none then lost
    else followed_by hub (roll s start left (row s hub).succ)

-- What a roll call leaves: its outcome, and the lent output.
pub record Rolled : Type 0 where
  pub outcome : Roll
  pub output : List ℕ

abbrev pub unrolled : List ℕ → Refusal → Rolled
unrolled out k = record { outcome = Err k; output = out }

-- 'its length, at most n, is returned and output words past it keep their content'; 'Has the output that many words? 17.'
unfoldable pub roll_written : List ℕ → Traversal → Rolled
roll_written out lost = unrolled out NoWayRound
roll_written out (complete l) =
    require (nat_le (length l) (length out)) (unrolled out OutputShort)
    (record { outcome = Ok (length l); output = l ++ drop (length l) out })

-- 'hub below n? 4. State 2 to 4? 5.', then 16 and 17
unfoldable pub roll_call : List ℕ → ℕ → List ℕ → Rolled
roll_call w hub out =
    on_record w (unrolled out)
    (require (nat_lt hub (count_in w)) (unrolled out NoHub)
    (require (in_ring (row (read w) hub)) (unrolled out NotInRing)
    (roll_written out (roll (read w) hub (count_in w) hub))))

-- The same by numbers: the refusal, 0 for none; what it says, which is the length; and the output.
pub record RolledNumbers : Type 0 where
  pub code : ℕ
  pub said : List ℕ
  pub output : List ℕ

abbrev pub numbered : List ℕ → Roll → RolledNumbers
numbered out r = record { code = refusal r; said = number_words r; output = out }

abbrev pub roll_numbers : List ℕ → ℕ → List ℕ → RolledNumbers
roll_numbers w hub out = numbered (roll_call w hub out).output (roll_call w hub out).outcome
