-- The calls look only at the first 1,988 words of a longer list, and leave the others alone. Assumes nothing.
use Rattle.std.specs.Prelude.{◌≡◌, Bool, true, false, ◌&&◌, List, [], ◌++◌, ℕ, ◌≤◌, nat_le, nat_lt, length, take, drop}
use Rattle.std.proofs.Math.Path.{refl, ap}
use Rattle.std.proofs.Common.{sym, ◌∙◌, append_assoc, append-nil, arith, length-append, drop_of_length-le, take_at}
use Rattle.std.proofs.Math.ListN.{get_or-append}
use Rattle.std.proofs.lemmas.List.{drop-append-le}
use Rattle.lists.specs.Basics.{when◌then◌else◌, require, distinct}
use Rattle.lists.specs.Choice.{on_yes}
use Rattle.lists.specs.Tests.{says_same, T_true, true_T}
use Rattle.protocol.specs.declared.refusal.Refusal.{Refusal}
use Rattle.protocol.specs.declared.refusal.Refusal.TheVariants.{IdentifierCount, IdentifierTwice, NoFounder, NoHolder, NoHub, NotInRing, NotWellFormed}
use Rattle.protocol.specs.Record.{most_nodes, record_size, count_in, row, read, words}
use Rattle.protocol.specs.WellFormed.{well_formed}
use Rattle.protocol.specs.Step.{Result, refused, accepted, step}
use Rattle.protocol.specs.Routing.{in_ring}
use Rattle.protocol.specs.Calls.{Called, turned_down, written, on_record, step_call, owner_call, fresh_by_call, lowest_holder, Rolled, unrolled, roll, roll_written, roll_call}
use Rattle.protocol.specs.Fresh.{fresh}
use Rattle.protocol.specs.declared.Answer.TheVariants.{Quiet}
use Rattle.std.specs.Prelude.{Err, Ok}
use Rattle.layout.specs.Words.{length_words, read_words}
use Rattle.layout.specs.Form.{valid, valid_words, valid_form, well_formed_words}
use Rattle.layout.specs.Questions.{long_yes, record_2, record_rest}

-- a call's result, with words behind it
abbrev pub with : List ℕ → Called → Called
with t c = record { outcome = c.outcome; slice = c.slice ++ t }

-- well formed, and the words of their state
words_only : (a : List ℕ) → length a ≡ record_size → well_formed a ≡ true → a ≡ words (read a)
words_only a e ok =
    let v = valid a (omega arith) ok in
    valid_words a v ∙ ap (λ l. words (read a) ++ l) (drop_of_length-le a {i = record_size} (omega arith)) ∙ append-nil (words (read a))

module _ (a t : List ℕ) (e : length a ≡ record_size) where
  enough : record_size ≤ length (a ++ t)
  enough = simp length-append (omega arith)

  longer : well_formed a ≡ true → well_formed (a ++ t) ≡ true
  longer ok =
      rw (words_only a e ok) (T_true _ (well_formed_words (read a) t (valid_form a (valid a (omega arith) ok))))

  same_read : well_formed a ≡ true → read (a ++ t) ≡ read a
  same_read ok =
      ap (λ l. read (l ++ t)) (words_only a e ok) ∙ read_words (read a) t (valid_form a (valid a (omega arith) ok)).few

  shorter : well_formed (a ++ t) ≡ true → well_formed a ≡ true
  shorter ok =
      let v = valid (a ++ t) enough ok in
      let f = valid_form (a ++ t) v in
      let s = read (a ++ t) in
      let p : a ++ t ≡ words s ++ drop record_size (a ++ t) = valid_words (a ++ t) v in
      let q : a ≡ words s = sym (take_at a t record_size e) ∙ ap (take record_size) p ∙ take_at (words s) (drop record_size (a ++ t)) record_size (length_words s [] f.few f.short) in
      rw (q, ← append-nil (words s)) (T_true _ (well_formed_words s [] f))

  pub same_formed : well_formed (a ++ t) ≡ well_formed a
  same_formed =
      says_same {P = well_formed a ≡ true}
      (record { to = λ k. shorter (T_true _ k); fro = λ k. true_T _ (longer k) })
      (record { to = λ k. T_true _ k; fro = λ k. true_T _ k })

  -- what is written
  pub same_written : (r : Result) → written (a ++ t) r ≡ with t (written a r)
  unfolding written
  same_written (refused k) = refl
  same_written (accepted x s) =
      ap (λ l. record { outcome = Ok x; slice = words s ++ l }) (drop-append-le record_size a t (omega arith))
      ∙ ap (λ l. record { outcome = Ok x; slice = l }) (sym (append_assoc (words s) (drop record_size a) t))

  -- questions 1 and 2
  module _ {A : Type 0} (no-long no_short : Refusal → A) (rest-long rest-short : A) (f : A → A) where
    same_questions : ((k : Refusal) → no-long k ≡ f (no_short k)) → (well_formed a ≡ true → rest-long ≡ f rest-short)
        → on_record (a ++ t) no-long rest-long ≡ f (on_record a no_short rest-short)
    same_questions n r = go (well_formed a) refl
      where
        go : (b : Bool) → well_formed a ≡ b → on_record (a ++ t) no-long rest-long ≡ f (on_record a no_short rest-short)
        go true ok =
            record_rest (a ++ t) no-long rest-long enough (same_formed ∙ ok) ∙ r ok
            ∙ ap f (sym (record_rest a no_short rest-short (omega arith) ok))
        go false bad =
            record_2 (a ++ t) no-long rest-long enough (same_formed ∙ bad) ∙ n NotWellFormed
            ∙ ap f (sym (record_2 a no_short rest-short (omega arith) bad))

  pub same_step : (operation x y : ℕ) → step_call (a ++ t) operation x y ≡ with t (step_call a operation x y)
  unfolding step_call
  same_step operation x y =
      same_questions (turned_down (a ++ t)) (turned_down a) (written (a ++ t) (step (read (a ++ t)) operation x y)) (written a (step (read a) operation x y)) (with t)
      (λ k. refl)
      (λ ok. ap (λ s. written (a ++ t) (step s operation x y)) (same_read ok) ∙ same_written (step (read a) operation x y))

  pub same_owner : (v : ℕ) → owner_call (a ++ t) v ≡ owner_call a v
  unfolding owner_call
  same_owner v =
      same_questions Err Err
      (require (nat_lt (lowest_holder (read (a ++ t)) v) (count_in (a ++ t))) (Err NoHolder) (Ok (lowest_holder (read (a ++ t)) v)))
      (require (nat_lt (lowest_holder (read a) v) (count_in a)) (Err NoHolder) (Ok (lowest_holder (read a) v)))
      (λ o. o)
      (λ k. refl)
      (λ ok. rw (same_read ok, get_or-append a t 0 1 (omega arith)))

  pub same_roll : (hub : ℕ) (out : List ℕ) → roll_call (a ++ t) hub out ≡ roll_call a hub out
  unfolding roll_call
  same_roll hub out =
      same_questions (unrolled out) (unrolled out) (rest (a ++ t)) (rest a)
      (λ r. r)
      (λ k. refl)
      (λ ok. rw (same_read ok, get_or-append a t 0 1 (omega arith)))
    where
      rest : List ℕ → Rolled
      rest w =
          require (nat_lt hub (count_in w)) (unrolled out NoHub)
          (require (in_ring (row (read w) hub)) (unrolled out NotInRing)
          (roll_written out (roll (read w) hub (count_in w) hub)))

-- a question asked of two calls
same_question : {A X : Type 0} (f : A → X) (b : Bool) (x y x' y' : A) → f x ≡ f x' → f y ≡ f y' → f (require b x y) ≡ f (require b x' y')
unfolding require when◌then◌else◌
same_question f true x y x' y' p q = q
same_question f false x y x' y' p q = p

-- a fresh call does not read the words: what is made of its result may be made of that on other words
pub same_fresh : {X : Type 0} (f : Called → X) (w z ids : List ℕ) (founder : ℕ) → record_size ≤ length w → record_size ≤ length z
    → ((k : Refusal) → f (turned_down w k) ≡ f (turned_down z k))
    → f (written w (accepted Quiet (fresh ids founder))) ≡ f (written z (accepted Quiet (fresh ids founder)))
    → f (fresh_by_call w ids founder) ≡ f (fresh_by_call z ids founder)
unfolding fresh_by_call
same_fresh f w z ids founder l m n r =
    ap f (on_yes _ _ _ (long_yes w l))
    ∙ same_question f (nat_le 1 (length ids) && nat_le (length ids) most_nodes) _ _ _ _ (n IdentifierCount)
    (same_question f (distinct ids) _ _ _ _ (n IdentifierTwice) (same_question f (nat_lt founder (length ids)) _ _ _ _ (n NoFounder) r))
    ∙ sym (ap f (on_yes _ _ _ (long_yes z m)))
