-- The questions of the calls in the words' terms, and what the step without cards leaves for the cards. Assumes nothing.
use Rattle.std.specs.Prelude.{◌≡◌, List, ◌++◌, ℕ, ◌+◌, ◌-◌, ◌≤◌, ◌<◌, length, get_or, take, drop}
use Rattle.std.proofs.Common.{sym, ◌∙◌, ap, subst, arith, length-append, length-drop, take-append-drop, drop_at, ext_get_or, get_or-take, get_or-drop, get_or-append-add, length-take-le}
use Rattle.std.proofs.Math.Decide.{dec_lt}
use Rattle.std.proofs.Math.ListN.{get_or-append}
use Rattle.protocol.specs.declared.Answer.{Answer}
use Rattle.protocol.specs.declared.refusal.Refusal.{Refusal}
use Rattle.protocol.specs.Outcomes.{Outcome}
use Rattle.std.specs.Prelude.{Err, Ok}
use Rattle.protocol.specs.Record.{record_size, count, read, words}
use Rattle.protocol.specs.WellFormed.{identifiers}
use Rattle.protocol.specs.Step.{Result, refused, step}
use Rattle.protocol.specs.Step.{accepted as went}
use Rattle.protocol.specs.Calls.{written, turned_down, step_call}
use Rattle.protocol.specs.Cards.{CardsCalled, after_call}
use Rattle.layout.specs.Words.{count_of_read}
use Rattle.layout.specs.Form.{Valid, valid_form}
use Rattle.layout.specs.Questions.{record_rest}
use Rattle.card_checks.specs.Homes.{ids_size}
use Rattle.cards.specs.Movers.{Bound, Bounded, step_bounded}

-- What a step writes keeps the later words, since it keeps the slice's length.
pub tail_kept : (w slice : List ℕ) (o : Outcome) (r : Result) → record_size ≤ length w → length slice ≡ length w
    → written w r ≡ record { outcome = o; slice = slice } → drop record_size slice ≡ drop record_size w
unfolding written
tail_kept w slice o (refused z) l e q = ap (λ c. drop record_size c.slice) (sym q)
tail_kept w slice o (went a s) l e q =
    let p : slice ≡ words s ++ drop record_size w = sym (ap (λ c. c.slice) q) in
    let n : length (words s) ≡ record_size = omega (arith, e, ap length p, length-append (words s) (drop record_size w), length-drop record_size w) in
    ap (drop record_size) p ∙ drop_at (words s) (drop record_size w) record_size n

-- the record as it was, put together again
pub put_back : (w slice saved : List ℕ) → saved ≡ take record_size w → drop record_size slice ≡ drop record_size w → saved ++ drop record_size slice ≡ w
put_back w slice saved e q = ap (λ z. z ++ drop record_size slice) e ∙ ap (λ z. take record_size w ++ z) q ∙ take-append-drop record_size w

-- the hub that an answer moves is one of the record's
pub refused_answered : {number : Refusal} {a : Answer} → Err number ≡ Ok a → ⊥
refused_answered e = subst is_refused e tt
  where
    is_refused : Outcome → Type 0
    is_refused = elim [ Err j ↦ Unit {0} | Ok x ↦ ⊥ ]

is_bound : (w : List ℕ) (a : Answer) (r : Result) → Bounded (count (read w)) r → (written w r).outcome ≡ Ok a → Bound (count (read w)) a
unfolding written
is_bound w a (refused z) b e = absurd (refused_answered e)
is_bound w a (went x s) b e = subst (Bound (count (read w))) (ap answer_in e) b
  where
    answer_in : Outcome → Answer
    answer_in = elim [ Err j ↦ x | Ok y ↦ y ]

pub answer_bound : (w slice : List ℕ) (operation x y : ℕ) (o : Outcome) (a : Answer) → Valid w → written w (step (read w) operation x y) ≡ record { outcome = o; slice = slice }
    → o ≡ Ok a → Bound (length (identifiers (read w))) a
answer_bound w slice operation x y o a v e g =
    subst (λ z. Bound z a) (count_of_read w ∙ sym (ids_size w))
    (is_bound w a (step (read w) operation x y) (step_bounded (read w) (valid_form w v) operation x y) (ap (λ c. c.outcome) e ∙ g))

-- a step with cards, where the step without them gave this
pub after_law : (w k slice : List ℕ) (operation x y : ℕ) (o : Outcome) (z : CardsCalled) → Valid w
    → written w (step (read w) operation x y) ≡ record { outcome = o; slice = slice } → after_call w k slice o ≡ z
    → after_call w k (step_call w operation x y).slice (step_call w operation x y).outcome ≡ z
unfolding step_call
after_law w k slice operation x y o z v e q =
    ap (λ c. after_call w k c.slice c.outcome) (record_rest w (turned_down w) (written w (step (read w) operation x y)) v.long v.formed ∙ e) ∙ q

-- copies of words
pub saved_all : (w saved : List ℕ) → record_size ≤ length w → length saved ≡ record_size → ((j : ℕ) → j < record_size → get_or saved j 0 ≡ get_or w j 0) → saved ≡ take record_size w
saved_all w saved l e f =
    ext_get_or 0 saved (take record_size w) (e ∙ sym (length-take-le record_size w l)) (λ i u. f i (omega arith) ∙ sym (get_or-take record_size w i 0 (omega arith)))

pub restored_all : (w saved now : List ℕ) → length saved ≤ length w → length now ≡ length w → ((j : ℕ) → j < length saved → get_or now j 0 ≡ get_or saved j 0)
    → ((j : ℕ) → length saved ≤ j → get_or now j 0 ≡ get_or w j 0) → now ≡ saved ++ drop (length saved) w
restored_all w saved now l e f g =
    ext_get_or 0 now (saved ++ drop (length saved) w) (omega (arith, e, length-append saved (drop (length saved) w), length-drop (length saved) w)) (λ i u. go i (dec_lt i (length saved)))
  where
    go : (i : ℕ) → Dec (i < length saved) → get_or now i 0 ≡ get_or (saved ++ drop (length saved) w) i 0
    go i (yes k) = f i k ∙ sym (get_or-append saved (drop (length saved) w) 0 i k)
    go i (no k) =
        let q : length saved + (i - length saved) ≡ i = omega arith in
        g i (omega arith)
        ∙ ap (λ z. get_or w z 0) (sym q) ∙ sym (get_or-drop (length saved) w (i - length saved) 0)
        ∙ sym (get_or-append-add saved (drop (length saved) w) (i - length saved) 0) ∙ ap (λ z. get_or (saved ++ drop (length saved) w) z 0) q

-- a refused step has written nothing
pub refused_kept : (w slice : List ℕ) (o : Outcome) (number : Refusal) (r : Result) → written w r ≡ record { outcome = o; slice = slice } → o ≡ Err number → slice ≡ w
unfolding written
refused_kept w slice o number (refused z) e g = sym (ap (λ c. c.slice) e)
refused_kept w slice o number (went a s) e g = absurd (refused_answered (sym (ap (λ c. c.outcome) e ∙ g)))

pub came_back : (w slice saved : List ℕ) (o : Outcome) (r : Result) → record_size ≤ length w → length slice ≡ length w
    → written w r ≡ record { outcome = o; slice = slice } → saved ≡ take record_size w → w ≡ saved ++ drop record_size slice
came_back w slice saved o r l n e q = sym (put_back w slice saved q (tail_kept w slice o r l n e))
