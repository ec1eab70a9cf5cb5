-- The questions of a batch counted by their places: that this is counting them one by one. Assumes nothing.
use Rattle.std.specs.Prelude.{◌≡◌, List, [], ◌∷◌, ◌++◌, nat_eq, take, drop, get_or}
use Rattle.std.proofs.Math.Path.{refl, ap, sym, subst}
use Rattle.std.proofs.Common.{◌∙◌, append_assoc, arith, add-one, take-suc, get_or-append-add, ne_eqb}
use Prim.Native.Nat.{ℕ, zero, suc, ◌+◌, ◌*◌, ◌≤◌, ◌<◌}
use Rattle.std.proofs.Math.ListN.{length}
use Rattle.std.proofs.Math.Seq.{take-length}
use Rattle.std.proofs.lemmas.List.{get_or_at}
use Rattle.lists.specs.Basics.{when◌then◌else◌, flat}
use Rattle.lists.specs.Blocks.{flat_split, length_front}
use Rattle.protocol.specs.declared.Answer.{Answer}
use Rattle.protocol.specs.declared.Answer.TheVariants.{Quiet, Found, Entered, Gone, JoinTurnedAway, LeaveTurnedAway, Joined, Left}
use Rattle.protocol.specs.Refusals.{number_of}
use Rattle.protocol.specs.Outcomes.{Outcome}
use Rattle.std.specs.Prelude.{Err, Ok}
use Rattle.protocol.specs.declared.Tally.{Tally}
use Rattle.protocol.specs.Names.{REFUSAL}
use Rattle.protocol.specs.Answers.{answer_words, kind_of, count_of, raised_at, counted}
use Rattle.protocol.specs.Batch.{ask_each, place_size, place_words, BatchCalled, unasked, batch_written, batch_call, batch_outcomes, counted_all}
use Rattle.layout.specs.Questions.{batch_both}
use Rattle.layout.specs.Questions.{above_0}
use Rattle.batches.specs.Each.{length_asked, place_size_lem}

-- How many places a call with n numbers has written.
unfoldable pub written_places : Outcome → ℕ → ℕ
written_places (Err k) n = 0
written_places (Ok a) n = n

-- The count that a place raises, from its first word on: its refusal, then its answer's kind.
unfoldable pub count_at : List ℕ → ℕ → ℕ
count_at o at = when nat_eq (get_or o at 0) 0 then get_or o (at + 1) 0 else REFUSAL

-- The tally after the first n places.
unfoldable pub counted_places : Tally → List ℕ → ℕ → Tally
counted_places t o zero = t
counted_places t o (suc n) = raised_at (count_at o (place_size * n)) (counted_places t o n)

pub counted_none : (t : Tally) (o : List ℕ) → t ≡ counted_places t o 0
unfolding counted_places
counted_none t o = refl

pub counted_next : (t : Tally) (o : List ℕ) (i : ℕ) → raised_at (count_at o (place_size * i)) (counted_places t o i) ≡ counted_places t o (i + 1)
unfolding counted_places
counted_next t o i = ap (counted_places t o) (sym (add-one i))

kind_first : (a : Answer) (rest : List ℕ) → get_or (answer_words a ++ rest) 0 0 ≡ kind_of a
unfolding answer_words kind_of
kind_first Quiet rest = refl
kind_first (Found hub number ticket hops) rest = refl
kind_first (Entered hub) rest = refl
kind_first (Gone hub) rest = refl
kind_first (JoinTurnedAway hub) rest = refl
kind_first (LeaveTurnedAway hub) rest = refl
kind_first (Joined hub) rest = refl
kind_first (Left hub) rest = refl

-- A place tells a refusal from an answer, since no refusal has the number 0.
place_counts : (o : Outcome) (p rest : List ℕ) (at : ℕ) → length p ≡ at → count_at (p ++ (place_words o ++ rest)) at ≡ count_of o
unfolding count_at count_of place_words when◌then◌else◌
place_counts (Err k) p rest at e =
    let q : List ℕ = 0 ∷ 0 ∷ 0 ∷ 0 ∷ 0 ∷ rest in
    ap (λ z. when nat_eq z 0 then get_or (p ++ (number_of k ∷ q)) (at + 1) 0 else REFUSAL) (get_or_at p (number_of k) q 0 at e)
    ∙ ap (λ z. when z then get_or (p ++ (number_of k ∷ q)) (at + 1) 0 else REFUSAL) (ne_eqb (number_of k) 0 (λ z. omega (arith, z, above_0 k)))
place_counts (Ok a) p rest at e =
    let q : List ℕ = answer_words a ++ rest in
    ap (λ z. when nat_eq z 0 then get_or (p ++ (0 ∷ q)) (at + 1) 0 else REFUSAL) (get_or_at p 0 q 0 at e)
    ∙ ap (λ z. get_or (p ++ (0 ∷ q)) (z + 1) 0) (sym e) ∙ get_or-append-add p (0 ∷ q) 1 0 ∙ kind_first a rest

-- one question more, at the end
counted_last : (t : Tally) (outcomes : List Outcome) (o : Outcome) → counted_all t (outcomes ++ (o ∷ [])) ≡ counted (counted_all t outcomes) o
unfolding counted_all
counted_last t [] o = refl
counted_last t (x ∷ outcomes) o = counted_last (counted t x) outcomes o

-- The places of these outcomes, counted, are the outcomes counted.
module _ (t : Tally) (outcomes : List Outcome) (rest : List ℕ) where
  abbrev o : List ℕ
  o = flat place_words outcomes ++ rest

  none : Outcome
  none = Ok Quiet

  at_place : (i : ℕ) → i < length outcomes → count_at o (place_size * i) ≡ count_of (get_or outcomes i none)
  at_place i l =
      ap (λ z. count_at (z ++ rest) (place_size * i)) (flat_split place_words outcomes i none l)
      ∙ ap (λ z. count_at z (place_size * i))
      (append_assoc (flat place_words (take i outcomes)) (place_words (get_or outcomes i none) ++ flat place_words (drop (suc i) outcomes)) rest
      ∙ ap (λ z. flat place_words (take i outcomes) ++ z) (append_assoc (place_words (get_or outcomes i none)) (flat place_words (drop (suc i) outcomes)) rest))
      ∙ place_counts (get_or outcomes i none) (flat place_words (take i outcomes)) (flat place_words (drop (suc i) outcomes) ++ rest) (place_size * i)
      (length_front place_words place_size place_size_lem outcomes i (omega arith))

  up_to : (i : ℕ) → i ≤ length outcomes → counted_places t o i ≡ counted_all t (take i outcomes)
  unfolding counted_places counted_all counted
  up_to zero l = refl
  up_to (suc i) l =
      ap (λ z. raised_at z (counted_places t o i)) (at_place i (omega arith))
      ∙ ap (raised_at (count_of (get_or outcomes i none))) (up_to i (omega arith))
      ∙ sym (counted_last t (take i outcomes) (get_or outcomes i none))
      ∙ ap (counted_all t) (sym (take-suc outcomes i none (omega arith)))

  places_counted : counted_places t o (length outcomes) ≡ counted_all t outcomes
  places_counted = up_to (length outcomes) (omega arith) ∙ ap (counted_all t) (take-length outcomes)

each_counted : (t : Tally) (w : List ℕ) (hub : ℕ) (numbers rest : List ℕ)
    → counted_places t (flat place_words (ask_each w hub numbers).outcomes ++ rest) (length numbers) ≡ counted_all t (ask_each w hub numbers).outcomes
each_counted t w hub numbers rest =
    ap (counted_places t (flat place_words (ask_each w hub numbers).outcomes ++ rest)) (sym (length_asked w hub numbers))
    ∙ places_counted t (ask_each w hub numbers).outcomes rest

-- What the call says of its tally, refused or not: what stands in the places that it wrote, counted, is what it asked.
module _ (w : List ℕ) (hub : ℕ) (numbers out : List ℕ) where
  pub record Counted (c : BatchCalled) (outcomes : List Outcome) : Type 0 where
    pub room : place_size * written_places c.outcome (length numbers) ≤ length out
    pub tally : (t : Tally) → counted_places t c.output (written_places c.outcome (length numbers)) ≡ counted_all t outcomes

  pub call_counts : (c : BatchCalled) → batch_call w hub numbers out ≡ c → Counted c (batch_outcomes w hub numbers out)
  unfolding batch_call batch_outcomes batch_written written_places counted_places counted_all
  call_counts c e =
      subst (λ z. Counted z (batch_outcomes w hub numbers out)) e
      (batch_both Counted w numbers out (unasked w out) (λ k. []) (batch_written numbers out (ask_each w hub numbers)) (ask_each w hub numbers).outcomes
      (λ k. record { room = omega arith; tally = λ t. refl })
      (λ l. record { room = omega arith; tally = λ t. each_counted t w hub numbers (drop (place_size * length numbers) out) }))
