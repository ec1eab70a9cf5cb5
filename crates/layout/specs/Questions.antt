-- Questions 1 and 2 in the words' terms, those of a fresh call, and those of a route. Assumes nothing.
use Rattle.std.specs.Prelude.{◌≡◌, Bool, true, false, not, ◌&&◌, List, ℕ, ◌/◌, ◌≤◌, ◌<◌, nat_lt}
use Rattle.std.proofs.Common.{◌∙◌, ap, arith, le→leb, lt→ltb, T_not, le-leb, lt-ltb}
use Rattle.std.proofs.Common.{nat_le}
use Rattle.std.proofs.Math.Dec.{T, leb→le, ltb→lt}
use Rattle.std.proofs.Math.ListN.{length}
use Rattle.std.proofs.lemmas.Bool.{lt-leb}
use Rattle.lists.specs.Basics.{when◌then◌else◌, require, distinct}
use Rattle.lists.specs.Choice.{on_yes, on_no, choose, tested}
use Rattle.lists.specs.Tests.{T_true, and_left, and_right, and_both}
use Rattle.protocol.specs.declared.Answer.TheVariants.{Quiet}
use Rattle.protocol.specs.declared.refusal.Refusal.{Refusal}
use Rattle.protocol.specs.declared.refusal.Refusal.TheVariants.{RecordShort, NotWellFormed, NoOperation, NoHub, NotInRing, NotOutside, Locked, LastHub, NoMessage, NotExpected, MessagesFull, TicketsUsedUp, IdentifierCount, IdentifierTwice, NoHolder, NoWayRound, OutputShort, NoFounder, NoSheet, IdentifierTooLarge, RoomShort, RevisionLower, PriceDiffers, CardsFull, RouteLong, PlacesShort}
use Rattle.protocol.specs.Refusals.{number_of}
use Rattle.protocol.specs.Record.{most_nodes, record_size}
use Rattle.protocol.specs.Fresh.{fresh}
use Rattle.protocol.specs.Step.{accepted}
use Rattle.protocol.specs.WellFormed.{well_formed}
use Rattle.protocol.specs.Calls.{Called, long, on_record, turned_down, written, fresh_by_call}
use Rattle.protocol.specs.Batch.{place_size, most_questions, fitting, on_batch}

pub long_yes : (w : List ℕ) → record_size ≤ length w → long w ≡ true
unfolding long
long_yes w l = le-leb record_size (length w) l

pub long_no : (w : List ℕ) → length w < record_size → long w ≡ false
unfolding long
long_no w l = lt-leb record_size (length w) l

module _ {A : Type 0} (w : List ℕ) (no_result : Refusal → A) (rest : A) where
  pub record_1 : length w < record_size → on_record w no_result rest ≡ no_result RecordShort
  unfolding on_record
  record_1 l = on_no _ _ _ (long_no w l)

  pub record_2 : record_size ≤ length w → well_formed w ≡ false → on_record w no_result rest ≡ no_result NotWellFormed
  unfolding on_record
  record_2 l e = on_yes _ _ _ (long_yes w l) ∙ on_no _ _ _ e

  pub record_rest : record_size ≤ length w → well_formed w ≡ true → on_record w no_result rest ≡ rest
  unfolding on_record
  record_rest l e = on_yes _ _ _ (long_yes w l) ∙ on_yes _ _ _ e

-- What a fresh call asks.
pub record Asked (w ids : List ℕ) (founder : ℕ) : Type 0 where
  pub long : record_size ≤ length w
  pub some : 1 ≤ length ids
  pub few : length ids ≤ most_nodes
  pub differ : T (distinct ids)
  pub below : founder < length ids

module _ (w ids : List ℕ) (founder : ℕ) where
  -- What holds of its result: a question was answered no, the last one only where the founder is no hub of a list that has some; or each was
  -- answered yes.
  pub fresh_cases : (P : Called → Type 0)
      → ((k : Refusal) → (k ≡ NoFounder → (1 ≤ length ids) × (length ids ≤ founder)) → P (turned_down w k))
      → (Asked w ids founder → P (written w (accepted Quiet (fresh ids founder))))
      → P (fresh_by_call w ids founder)
  unfolding fresh_by_call long require
  fresh_cases P refuses founds =
      tested P (nat_le record_size (length w)) _ _ (refuses RecordShort (λ e. absurd (omega (arith, ap number_of e))))
      (λ l. tested P (nat_le 1 (length ids) && nat_le (length ids) most_nodes) _ _ (refuses IdentifierCount (λ e. absurd (omega (arith, ap number_of e))))
      (λ n. tested P (distinct ids) _ _ (refuses IdentifierTwice (λ e. absurd (omega (arith, ap number_of e))))
      (λ d. choose P (nat_lt founder (length ids)) _ _
      (λ b. founds (record { long = leb→le record_size (length w) l; some = some n; few = few n; differ = d; below = ltb→lt founder (length ids) b }))
      (λ c. refuses NoFounder (λ e. (some n, omega (arith, behind c)))))))
    where
      some : T (nat_le 1 (length ids) && nat_le (length ids) most_nodes) → 1 ≤ length ids
      some n = leb→le 1 (length ids) (and_left (nat_le 1 (length ids)) (nat_le (length ids) most_nodes) n)

      few : T (nat_le 1 (length ids) && nat_le (length ids) most_nodes) → length ids ≤ most_nodes
      few n = leb→le (length ids) most_nodes (and_right (nat_le 1 (length ids)) (nat_le (length ids) most_nodes) n)

      behind : T (not (nat_lt founder (length ids))) → ¬ (founder < length ids)
      behind c l = T_not (nat_lt founder (length ids)) c (lt→ltb founder (length ids) l)

  -- And where each is answered yes, it founds.
  pub fresh_founds : Asked w ids founder → fresh_by_call w ids founder ≡ written w (accepted Quiet (fresh ids founder))
  unfolding fresh_by_call
  fresh_founds a =
      on_yes _ _ _ (long_yes w a.long)
      ∙ on_yes _ _ _ (T_true _ (and_both (nat_le 1 (length ids)) (nat_le (length ids) most_nodes) (le→leb _ _ a.some) (le→leb _ _ a.few)))
      ∙ on_yes _ _ _ (T_true _ a.differ)
      ∙ on_yes _ _ _ (lt-ltb founder (length ids) a.below)

-- What holds of two things that one route's questions decide: it holds where a question was answered no, and where there is a place for each number.
pub batch_both : {A B : Type 0} (P : A → B → Type 0) (w numbers out : List ℕ) (no-a : Refusal → A) (no-b : Refusal → B) (a : A) (b : B)
    → ((k : Refusal) → P (no-a k) (no-b k)) → (length numbers ≤ length out / place_size → P a b) → P (on_batch w numbers out no-a a) (on_batch w numbers out no-b b)
unfolding on_batch on_record fitting require when◌then◌else◌
batch_both {A} {B} P w numbers out no-a no-b a b refuses asks =
    go (long w) (well_formed w) (nat_le (length numbers) most_questions) (nat_le (length numbers) (length out / place_size)) (λ t. asks (leb→le _ _ t))
  where
    four : {C : Type 0} → (Refusal → C) → C → Bool → Bool → Bool → Bool → C
    four no_result rest p q u v =
        require p (no_result RecordShort) (require q (no_result NotWellFormed) (require u (no_result RouteLong) (require v (no_result PlacesShort) rest)))

    go : (p q u v : Bool) → (T v → P a b) → P (four no-a a p q u v) (four no-b b p q u v)
    go true true true true f = f tt
    go true true true false f = refuses PlacesShort
    go true true false v f = refuses RouteLong
    go true false u v f = refuses NotWellFormed
    go false q u v f = refuses RecordShort

-- No refusal has the number 0, which says that there is none.
pub above_0 : (k : Refusal) → 0 < number_of k
above_0 RecordShort = omega arith
above_0 NotWellFormed = omega arith
above_0 NoOperation = omega arith
above_0 NoHub = omega arith
above_0 NotInRing = omega arith
above_0 NotOutside = omega arith
above_0 Locked = omega arith
above_0 LastHub = omega arith
above_0 NoMessage = omega arith
above_0 NotExpected = omega arith
above_0 MessagesFull = omega arith
above_0 TicketsUsedUp = omega arith
above_0 IdentifierCount = omega arith
above_0 IdentifierTwice = omega arith
above_0 NoHolder = omega arith
above_0 NoWayRound = omega arith
above_0 OutputShort = omega arith
above_0 NoFounder = omega arith
above_0 NoSheet = omega arith
above_0 IdentifierTooLarge = omega arith
above_0 RoomShort = omega arith
above_0 RevisionLower = omega arith
above_0 PriceDiffers = omega arith
above_0 CardsFull = omega arith
above_0 RouteLong = omega arith
above_0 PlacesShort = omega arith
