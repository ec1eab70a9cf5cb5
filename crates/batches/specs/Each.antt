-- The questions of a batch one by one, from the front and at the end; and their places in the output. Assumes nothing.
use Rattle.std.specs.Prelude.{◌≡◌, refl, false, List, [], ◌∷◌, ◌++◌, ℕ, suc, ◌+◌, ◌*◌, ◌/◌, ◌≤◌, ◌<◌, length, take, drop, get_or}
use Rattle.std.proofs.Math.Path.{ap}
use Rattle.std.proofs.Common.{sym, ◌∙◌, append_assoc, append-nil, arith, add-one, take-suc, drop-drop, le-leb}
use Rattle.std.proofs.Math.Seq.{take-length, length-take-le}
use Rattle.std.proofs.lemmas.Bool.{lt-leb}
use borrow.Rule.Slice.PartMut.{put_mid}
use Rattle.lists.specs.Basics.{when◌then◌else◌, flat}
use Rattle.lists.specs.Choice.{on_yes, on_no}
use Rattle.lists.specs.Blocks.{flat_append, length_flat}
use Rattle.lists.specs.Splice.{splice, splice_at}
use Rattle.protocol.specs.declared.Answer.{Answer}
use Rattle.protocol.specs.Outcomes.{Outcome}
use Rattle.std.specs.Prelude.{Err, Ok}
use Rattle.protocol.specs.declared.Answer.TheVariants.{Quiet, Found, Entered, Gone, JoinTurnedAway, LeaveTurnedAway, Joined, Left}
use Rattle.protocol.specs.declared.refusal.Refusal.{Refusal}
use Rattle.protocol.specs.declared.refusal.Refusal.TheVariants.{NotWellFormed, PlacesShort, RecordShort, RouteLong}
use Rattle.protocol.specs.Record.{record_size, read}
use Rattle.protocol.specs.WellFormed.{well_formed}
use Rattle.protocol.specs.Step.{step, ask}
use Rattle.protocol.specs.Answers.{answer_words}
use Rattle.protocol.specs.Calls.{Called, turned_down, written, step_call}
use Rattle.protocol.specs.Batch.{Asked, in_front, ask_each, place_size, place_words, most_questions, fitting, on_batch, batch_written}
use Rattle.layout.specs.Form.{Valid}
use Rattle.layout.specs.Questions.{record_1, record_2, record_rest}
use Rattle.layout.specs.Asks.{Again, ask_again}

-- the outcomes are as many as the numbers
pub length_asked : (w : List ℕ) (hub : ℕ) (numbers : List ℕ) → length (ask_each w hub numbers).outcomes ≡ length numbers
unfolding ask_each
length_asked w hub [] = refl
length_asked w hub (v ∷ numbers) = ap suc (length_asked (step_call w 0 hub v).slice hub numbers)

-- one number more, behind the others
abbrev pub behind : Asked → Called → Asked
behind asked c = record { outcomes = asked.outcomes ++ (c.outcome ∷ []); slice = c.slice }

pub ask_last : (w : List ℕ) (hub : ℕ) (numbers : List ℕ) (v : ℕ)
    → ask_each w hub (numbers ++ (v ∷ [])) ≡ behind (ask_each w hub numbers) (step_call (ask_each w hub numbers).slice 0 hub v)
unfolding ask_each
ask_last w hub [] v = refl
ask_last w hub (u ∷ numbers) v = ap (in_front (step_call w 0 hub u).outcome) (ask_last (step_call w 0 hub u).slice hub numbers v)

-- a question on a valid record, which stays valid
pub ask_valid : (w : List ℕ) → Valid w → (hub v : ℕ) → step_call w 0 hub v ≡ written w (ask (read w) hub v)
unfolding step_call step when◌then◌else◌
ask_valid w v hub number = record_rest w (turned_down w) _ v.long v.formed

pub each_valid : (w : List ℕ) → Valid w → (hub : ℕ) (numbers : List ℕ) → Again w (ask_each w hub numbers).slice
unfolding ask_each
each_valid w v hub [] = record { valid = v; length = refl }
each_valid w v hub (u ∷ numbers) =
    let k = ask_again w v hub u in
    let r = each_valid (step_call w 0 hub u).slice k.valid hub numbers in
    record { valid = r.valid; length = r.length ∙ k.length }

-- an answer has five
pub answer_size : (a : Answer) → length (answer_words a) ≡ 5
unfolding answer_words
answer_size Quiet = refl
answer_size (Found hub number ticket hops) = refl
answer_size (Entered hub) = refl
answer_size (Gone hub) = refl
answer_size (JoinTurnedAway hub) = refl
answer_size (LeaveTurnedAway hub) = refl
answer_size (Joined hub) = refl
answer_size (Left hub) = refl

-- and a place six words
pub place_size_lem : (o : Outcome) → length (place_words o) ≡ place_size
unfolding place_words
place_size_lem (Err k) = refl
place_size_lem (Ok a) = ap suc (answer_size a)

-- an answer's five words, one by one
pub word_by_word : (l : List ℕ) → length l ≡ 5 → get_or l 0 0 ∷ get_or l 1 0 ∷ get_or l 2 0 ∷ get_or l 3 0 ∷ get_or l 4 0 ∷ [] ≡ l
word_by_word [] e = absurd (omega arith)
word_by_word (a ∷ []) e = absurd (omega arith)
word_by_word (a ∷ b ∷ []) e = absurd (omega arith)
word_by_word (a ∷ b ∷ c ∷ []) e = absurd (omega arith)
word_by_word (a ∷ b ∷ c ∷ d ∷ []) e = absurd (omega arith)
word_by_word (a ∷ b ∷ c ∷ d ∷ f ∷ []) e = refl
word_by_word (a ∷ b ∷ c ∷ d ∷ f ∷ g ∷ l) e = absurd (omega arith)

-- what a part from a on, as long as vs, puts back where it became vs
pub put_part : (w vs : List ℕ) (a k : ℕ) → k ≡ length vs → put_mid a k w vs ≡ splice w a vs
unfolding splice
put_part w vs a k e =
    ap (λ z. take a w ++ (vs ++ z)) (drop-drop k a w ∙ ap (λ n. drop (a + n) w) e) ∙ sym (append_assoc (take a w) vs (drop (a + length vs) w))

-- the output with these outcomes written from its first place on
abbrev pub placed : List ℕ → List Outcome → ℕ → List ℕ
placed out outcomes n = flat place_words outcomes ++ drop (place_size * n) out

-- one place more
pub place_next : (out : List ℕ) (outcomes : List Outcome) (o : Outcome) (n : ℕ) → length outcomes ≡ n
    → splice (placed out outcomes n) (place_size * n) (place_words o) ≡ placed out (outcomes ++ (o ∷ [])) (n + 1)
place_next out outcomes o n e =
    let l : length (flat place_words outcomes) ≡ place_size * n = length_flat place_words place_size place_size_lem outcomes ∙ ap (λ k. place_size * k) e in
    let k : place_size * n + place_size ≡ place_size * (n + 1) = omega arith in
    splice_at (flat place_words outcomes) (drop (place_size * n) out) (place_words o) (place_size * n) l
    ∙ ap (λ m. flat place_words outcomes ++ (place_words o ++ drop m (drop (place_size * n) out))) (place_size_lem o)
    ∙ ap (λ z. flat place_words outcomes ++ (place_words o ++ z)) (drop-drop place_size (place_size * n) out ∙ ap (λ m. drop m out) k)
    ∙ sym (append_assoc (flat place_words outcomes) (place_words o) (drop (place_size * (n + 1)) out))
    ∙ ap (λ z. z ++ drop (place_size * (n + 1)) out) (sym (flat_append place_words outcomes (o ∷ []) ∙ ap (λ z. flat place_words outcomes ++ z) (append-nil (place_words o))))

-- What the first i numbers leave.
abbrev pub up_to : List ℕ → ℕ → List ℕ → ℕ → Asked
up_to w hub numbers i = ask_each w hub (take i numbers)

-- Where i is the number of numbers, that is what the call writes.
pub all_written : (w : List ℕ) (hub : ℕ) (numbers out : List ℕ) (i : ℕ) (z o : List ℕ) → i ≡ length numbers → z ≡ (up_to w hub numbers i).slice
    → o ≡ placed out (up_to w hub numbers i).outcomes i → batch_written numbers out (ask_each w hub numbers) ≡ record { outcome = Ok Quiet; slice = z; output = o }
unfolding batch_written
all_written w hub numbers out i z o e ez eo =
    ap (batch_written numbers out) (sym (ap (λ k. ask_each w hub (take k numbers)) e ∙ ap (ask_each w hub) (take-length numbers)))
    ∙ ap (λ k. record { outcome = Ok Quiet; slice = (up_to w hub numbers i).slice; output = placed out (up_to w hub numbers i).outcomes k }) (sym e)
    ∙ ap (λ y. record { outcome = Ok Quiet; slice = y; output = placed out (up_to w hub numbers i).outcomes i }) (sym ez)
    ∙ ap (λ y. record { outcome = Ok Quiet; slice = z; output = y }) (sym eo)

-- What one turn leaves, which asks number i: the slice, and the output with its outcome in place i.
pub record Turned : Type 0 where
  pub slice : List ℕ
  pub output : List ℕ

abbrev pub turned : List ℕ → ℕ → Called → Turned
turned out i c = record { slice = c.slice; output = splice out (place_size * i) (place_words c.outcome) }

unfoldable pub turn : List ℕ → ℕ → List ℕ → List ℕ → ℕ → Turned
turn w hub numbers out i = turned out i (step_call w 0 hub (get_or numbers i 0))

-- On a valid record it is the question's own meaning.
pub turn_is : (w : List ℕ) → Valid w → (hub : ℕ) (numbers out : List ℕ) (i : ℕ) (c : Called) → written w (ask (read w) hub (get_or numbers i 0)) ≡ c
    → turn w hub numbers out i ≡ turned out i c
unfolding turn
turn_is w v hub numbers out i c e = ap (turned out i) (ask_valid w v hub (get_or numbers i 0) ∙ e)

-- A turn on what the first i numbers left gives what one more leaves.
module _ (w : List ℕ) (hub : ℕ) (numbers out : List ℕ) (i : ℕ) (l : i < length numbers) (z o : List ℕ) (e : z ≡ (up_to w hub numbers i).slice)
    (f : o ≡ placed out (up_to w hub numbers i).outcomes i) (z' o' : List ℕ) (said : turn z hub numbers o i ≡ record { slice = z'; output = o' }) where
  abbrev so : Asked
  so = up_to w hub numbers i

  next : up_to w hub numbers (i + 1) ≡ behind so (step_call so.slice 0 hub (get_or numbers i 0))
  next =
      ap (λ k. ask_each w hub (take k numbers)) (add-one i) ∙ ap (ask_each w hub) (take-suc numbers i 0 l) ∙ ask_last w hub (take i numbers) (get_or numbers i 0)

  turned_next : turn z hub numbers o i ≡ record { slice = (up_to w hub numbers (i + 1)).slice; output = placed out (up_to w hub numbers (i + 1)).outcomes (i + 1) }
  unfolding turn
  turned_next =
      ap (λ y. turn y hub numbers o i) e ∙ ap (λ y. turn so.slice hub numbers y i) f
      ∙ ap (λ y. record { slice = (step_call so.slice 0 hub (get_or numbers i 0)).slice; output = y })
      (place_next out so.outcomes (step_call so.slice 0 hub (get_or numbers i 0)).outcome i (length_asked w hub (take i numbers) ∙ length-take-le i numbers (omega arith)))
      ∙ ap (λ y. record { slice = y.slice; output = placed out y.outcomes (i + 1) }) (sym next)

  pub next_slice : z' ≡ (up_to w hub numbers (i + 1)).slice
  next_slice = ap (λ (y : Turned). y.slice) (sym said ∙ turned_next)

  pub next_output : o' ≡ placed out (up_to w hub numbers (i + 1)).outcomes (i + 1)
  next_output = ap (λ (y : Turned). y.output) (sym said ∙ turned_next)

-- The questions of the call, in the words' terms.
module _ {A : Type 0} (w numbers out : List ℕ) (no_result : Refusal → A) (rest : A) where
  abbrev call : A
  call = on_batch w numbers out no_result rest

  pub batch_1 : length w < record_size → call ≡ no_result RecordShort
  unfolding on_batch
  batch_1 l = record_1 w no_result _ l

  pub batch_2 : record_size ≤ length w → well_formed w ≡ false → call ≡ no_result NotWellFormed
  unfolding on_batch
  batch_2 l e = record_2 w no_result _ l e

  module _ (v : Valid w) where
    formed : call ≡ fitting numbers out no_result rest
    unfolding on_batch
    formed = record_rest w no_result _ v.long v.formed

    pub batch_25 : most_questions < length numbers → call ≡ no_result RouteLong
    unfolding fitting
    batch_25 l = formed ∙ on_no _ _ _ (lt-leb (length numbers) most_questions l)

    module _ (few : length numbers ≤ most_questions) where
      pub batch_26 : length out / place_size < length numbers → call ≡ no_result PlacesShort
      unfolding fitting
      batch_26 l = formed ∙ on_yes _ _ _ (le-leb (length numbers) most_questions few) ∙ on_no _ _ _ (lt-leb (length numbers) (length out / place_size) l)

      pub batch_rest : length numbers ≤ length out / place_size → call ≡ rest
      unfolding fitting
      batch_rest l = formed ∙ on_yes _ _ _ (le-leb (length numbers) most_questions few) ∙ on_yes _ _ _ (le-leb (length numbers) (length out / place_size) l)
