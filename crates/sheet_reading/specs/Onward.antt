-- What a text says from a place on: a reader there, and what follows for it from the next byte, or from a run of bytes. The functions that
-- read are proved by these laws. Assumes nothing.
use Rattle.std.specs.Prelude.{◌≡◌, Bool, true, not, ℕ, ◌+◌, ◌-◌, ◌*◌, ◌≤◌, ◌<◌, nat_eq, length, drop, get_or}
use Rattle.std.proofs.Math.Path.{refl, ap, sym}
use Rattle.std.proofs.Common.{◌∙◌, add-one, arith, length-append, drop_of_length-le, drop-cons}
use mathlib.Core.List.{List, [], ◌∷◌, ◌++◌, append_assoc, append-nil}
use Rattle.lists.specs.Basics.{every}
use Rattle.sheets.specs.Grammar.{quote, bare, non_zero, is_digit, worth}
use Rattle.sheets.specs.Bytes.{every_head, every_tail, and_first, and_second, not_yes}
use Rattle.sheet_reading.specs.Kinds.{plain_byte, quoted_byte}
use Rattle.sheets.specs.declared.Place.{Place}
use Rattle.sheets.specs.declared.Place.TheVariants.{Start, Plain, Opened, Quoted, Closed, Number, Digits, NumberOpened, NumberQuoted, NumberClosed, Return, Wrong}
use Rattle.sheets.specs.declared.Effect.TheVariants.{Letter, Figure}
use Rattle.sheets.specs.declared.Ending.{Ending}
use Rattle.sheets.specs.declared.Ending.TheVariants.{Within, BehindRows, BehindNumber}
use Rattle.sheets.specs.Reader.{Reader, next, effect, said, told, valued, moved, fed, run, standing, Said, nothing, lists, ending, ended_as, ended}
use Rattle.sheets.proofs.Complete.{run_append, to_place, to_opened, to_closed, to_start, to_number, to_numberopened, to_numberclosed, to_return, in_next, quoted_next, digits_next, number_quoted_next}
use Rattle.sheet_reading.specs.Runs.{between, rest_between}

unfoldable pub onward : List ℕ → Place → List ℕ → List ℕ → ℕ → ℕ → Said
onward t p n c v i = ended (run (standing p n c v) (drop i t))

-- nothing is said where the reader is wrong
wrong_run : (t n c : List ℕ) (v : ℕ) → ended (run (standing Wrong n c v) t) ≡ nothing
unfolding run fed moved next ended ended_as ending effect said told valued
wrong_run [] n c v = refl
wrong_run (b ∷ t) n c v = wrong_run t (n ++ []) (c ++ []) v

module _ (t : List ℕ) where
  -- the next byte
  front : (i b : ℕ) → i < length t → get_or t i 0 ≡ b → drop i t ≡ b ∷ drop (i + 1) t
  front i b h e = drop-cons t i 0 h ∙ ap (λ k. get_or t i 0 ∷ drop k t) (sym (add-one i)) ∙ ap (λ x. x ∷ drop (i + 1) t) e

  module _ (p : Place) (n c : List ℕ) (v i : ℕ) where
    -- behind the end of the text
    pub onward_end : length t ≤ i → onward t p n c v i ≡ ended_as (ending p) (standing p n c v)
    unfolding onward ended run
    onward_end h = ap (λ l. ended (run (standing p n c v) l)) (drop_of_length-le t {i = i} h)

    module _ (h : i < length t) where
      abbrev b : ℕ
      b = get_or t i 0

      from_front : (u : Said) → ended (run (standing p n c v) (b ∷ drop (i + 1) t)) ≡ u → onward t p n c v i ≡ u
      unfolding onward
      from_front u e = ap (λ l. ended (run (standing p n c v) l)) (front i b h refl) ∙ e

      pub onward_wrong : next p b ≡ Wrong → onward t p n c v i ≡ nothing
      unfolding moved
      onward_wrong e = from_front nothing (ap ended (to_place p n c (drop (i + 1) t) v b Wrong e) ∙ wrong_run (drop (i + 1) t) (n ++ said (effect Wrong) b) (c ++ told (effect Wrong) v) (valued (effect Wrong) b v))

      pub onward_opened : next p b ≡ Opened → onward t p n c v i ≡ onward t Opened n c v (i + 1)
      unfolding onward
      onward_opened e = from_front _ (ap ended (to_opened p n c (drop (i + 1) t) v b e))

      pub onward_closed : next p b ≡ Closed → onward t p n c v i ≡ onward t Closed n c v (i + 1)
      unfolding onward
      onward_closed e = from_front _ (ap ended (to_closed p n c (drop (i + 1) t) v b e))

      -- a byte of a name
      pub onward_letter : (q : Place) → effect q ≡ Letter → next p b ≡ q → onward t p n c v i ≡ onward t q (n ++ (b ∷ [])) c v (i + 1)
      unfolding onward moved said told valued
      onward_letter q l e = from_front _ (
          ap ended (to_place p n c (drop (i + 1) t) v b q e)
          ∙ ap (λ x. ended (run (record { place = q; names = n ++ said x b; identifiers = c ++ told x v; value = valued x b v }) (drop (i + 1) t))) l
          ∙ ap (λ x. ended (run (standing q (n ++ (b ∷ [])) x v) (drop (i + 1) t))) (append-nil c))

      pub onward_quoted : next p b ≡ Quoted → onward t p n c v i ≡ onward t Quoted (n ++ (b ∷ [])) c v (i + 1)
      unfolding effect
      onward_quoted e = onward_letter Quoted refl e

      pub onward_number : next p b ≡ Number → onward t p n c v i ≡ onward t Number (n ++ (0 ∷ [])) c 0 (i + 1)
      unfolding onward
      onward_number e = from_front _ (ap ended (to_number p n c (drop (i + 1) t) v b e))

      pub onward_number_opened : next p b ≡ NumberOpened → onward t p n c v i ≡ onward t NumberOpened n c v (i + 1)
      unfolding onward
      onward_number_opened e = from_front _ (ap ended (to_numberopened p n c (drop (i + 1) t) v b e))

      pub onward_number_closed : next p b ≡ NumberClosed → onward t p n c v i ≡ onward t NumberClosed n c v (i + 1)
      unfolding onward
      onward_number_closed e = from_front _ (ap ended (to_numberclosed p n c (drop (i + 1) t) v b e))

      pub onward_return : next p b ≡ Return → onward t p n c v i ≡ onward t Return n (c ++ (v ∷ [])) v (i + 1)
      unfolding onward
      onward_return e = from_front _ (ap ended (to_return p n c (drop (i + 1) t) v b e))

      pub onward_start : next p b ≡ Start → onward t p n c v i ≡ onward t Start n c v (i + 1)
      unfolding onward
      onward_start e = from_front _ (ap ended (to_start p n c (drop (i + 1) t) v b e))

      -- two places from which the next byte leads to the same
      pub onward_as : (q : Place) → next p b ≡ next q b → onward t p n c v i ≡ onward t q n c v i
      unfolding onward run fed moved
      onward_as q e =
          from_front _ (ap (λ z. ended (run (moved (standing p n c v) z b) (drop (i + 1) t))) e)
          ∙ sym (ap (λ l. ended (run (standing q n c v) l)) (front i b h refl))

  -- runs: bytes of a name, and digits
  module _ (f : ℕ → Bool) (p : Place) (stays : (b : ℕ) → f b ≡ true → next p b ≡ p) where
    names_run : effect p ≡ Letter → (s n c : List ℕ) (v : ℕ) → every f s ≡ true → run (standing p n c v) s ≡ standing p (n ++ s) c v
    unfolding run fed moved said told valued
    names_run l [] n c v e = simp append-nil
    names_run l (b ∷ s) n c v e =
        ap (λ q. run (moved (standing p n c v) q b) s) (stays b (every_head f b s e))
        ∙ ap (λ x. run (record { place = p; names = n ++ said x b; identifiers = c ++ told x v; value = valued x b v }) s) l
        ∙ ap (λ x. run (standing p (n ++ (b ∷ [])) x v) s) (append-nil c)
        ∙ names_run l s (n ++ (b ∷ [])) c v (every_tail f b s e)
        ∙ ap (λ x. standing p x c v) (append_assoc n (b ∷ []) s)

    digits_run : effect p ≡ Figure → (s n c : List ℕ) (v : ℕ) → every f s ≡ true → run (standing p n c v) s ≡ standing p n c (worth v s)
    unfolding run fed moved said told valued worth
    digits_run l [] n c v e = refl
    digits_run l (b ∷ s) n c v e =
        ap (λ q. run (moved (standing p n c v) q b) s) (stays b (every_head f b s e))
        ∙ ap (λ x. run (record { place = p; names = n ++ said x b; identifiers = c ++ told x v; value = valued x b v }) s) l
        ∙ ap (λ x. run (standing p x (c ++ []) (10 * v + (b - 48))) s) (append-nil n)
        ∙ ap (λ x. run (standing p n x (10 * v + (b - 48))) s) (append-nil c)
        ∙ digits_run l s n c (10 * v + (b - 48)) (every_tail f b s e)

    over : (i j : ℕ) → i ≤ j → (n c : List ℕ) (v : ℕ) (m : Reader) → run (standing p n c v) (between i j t) ≡ m → onward t p n c v i ≡ ended (run m (drop j t))
    unfolding onward
    over i j h n c v m e =
        ap (λ l. ended (run (standing p n c v) l)) (rest_between i j t h) ∙ ap ended (run_append (standing p n c v) (between i j t) (drop j t))
        ∙ ap (λ z. ended (run z (drop j t))) e

    pub names_over : effect p ≡ Letter → (i j : ℕ) → i ≤ j → every f (between i j t) ≡ true → (n c : List ℕ) (v : ℕ) → onward t p n c v i ≡ onward t p (n ++ between i j t) c v j
    unfolding onward
    names_over l i j h e n c v = over i j h n c v _ (names_run l (between i j t) n c v e)

    digits_over : effect p ≡ Figure → (i j : ℕ) → i ≤ j → every f (between i j t) ≡ true → (n c : List ℕ) (v : ℕ) → onward t p n c v i ≡ onward t p n c (worth v (between i j t)) j
    unfolding onward
    digits_over l i j h e n c v = over i j h n c v _ (digits_run l (between i j t) n c v e)

  pub plain_stays : (b : ℕ) → plain_byte b ≡ true → next Plain b ≡ Plain
  unfolding plain_byte
  plain_stays b e = in_next b (and_first (bare b) (non_zero b) e) (and_second (bare b) (non_zero b) e)

  pub quoted_stays : (b : ℕ) → quoted_byte b ≡ true → next Quoted b ≡ Quoted
  unfolding quoted_byte
  quoted_stays b e = quoted_next b (not_yes _ (and_first (not (nat_eq b quote)) (non_zero b) e)) (and_second (not (nat_eq b quote)) (non_zero b) e)

  module _ (i j : ℕ) (h : i ≤ j) where
    pub plain_over : every plain_byte (between i j t) ≡ true → (n c : List ℕ) (v : ℕ) → onward t Plain n c v i ≡ onward t Plain (n ++ between i j t) c v j
    unfolding effect
    plain_over e n c v = names_over plain_byte Plain plain_stays refl i j h e n c v

    pub quoted_over : every quoted_byte (between i j t) ≡ true → (n c : List ℕ) (v : ℕ) → onward t Quoted n c v i ≡ onward t Quoted (n ++ between i j t) c v j
    unfolding effect
    quoted_over e n c v = names_over quoted_byte Quoted quoted_stays refl i j h e n c v

    pub digits_on : every is_digit (between i j t) ≡ true → (n c : List ℕ) (v : ℕ) → onward t Digits n c v i ≡ onward t Digits n c (worth v (between i j t)) j
    unfolding effect
    digits_on e n c v = digits_over is_digit Digits digits_next refl i j h e n c v

    pub number_quoted_on : every is_digit (between i j t) ≡ true → (n c : List ℕ) (v : ℕ) → onward t NumberQuoted n c v i ≡ onward t NumberQuoted n c (worth v (between i j t)) j
    unfolding effect
    number_quoted_on e n c v = digits_over is_digit NumberQuoted number_quoted_next refl i j h e n c v

-- What was said is still said at the end: names and identifiers only grow.
pub record Grown (n c x y : List ℕ) : Type 0 where
  pub more_names : List ℕ
  pub more_numbers : List ℕ
  pub names : x ≡ n ++ more_names
  pub numbers : y ≡ c ++ more_numbers

run_grows : (t : List ℕ) (m : Reader) → Grown m.names m.identifiers (run m t).names (run m t).identifiers
unfolding run fed moved
run_grows [] m = record { more_names = []; more_numbers = []; names = sym (append-nil m.names); numbers = sym (append-nil m.identifiers) }
run_grows (b ∷ t) m =
    let r = run_grows t (fed m b) in
    let s = said (effect (next m.place b)) b in
    let k = told (effect (next m.place b)) m.value in
    record {
      more_names = s ++ r.more_names;
      more_numbers = k ++ r.more_numbers;
      names = r.names ∙ append_assoc m.names s r.more_names;
      numbers = r.numbers ∙ append_assoc m.identifiers k r.more_numbers;
    }

as_grows : (e : Ending) (m : Reader) (n c x y : List ℕ) → Grown n c m.names m.identifiers → ended_as e m ≡ lists x y → Grown n c x y
unfolding ended_as
as_grows Within m n c x y g q = absurd (let z : ◌≡◌ {A = ℕ} 0 1 = cc in omega arith)
as_grows BehindRows m n c x y g q =
    let a : x ≡ m.names = cc in
    let b : y ≡ m.identifiers = cc in
    record { more_names = g.more_names; more_numbers = g.more_numbers; names = a ∙ g.names; numbers = b ∙ g.numbers }
as_grows BehindNumber m n c x y g q =
    let a : x ≡ m.names = cc in
    let b : y ≡ m.identifiers ++ (m.value ∷ []) = cc in
    record {
      more_names = g.more_names;
      more_numbers = g.more_numbers ++ (m.value ∷ []);
      names = a ∙ g.names;
      numbers = b ∙ ap (λ l. l ++ (m.value ∷ [])) g.numbers ∙ append_assoc c g.more_numbers (m.value ∷ []);
    }

module _ (t : List ℕ) (p : Place) (n c : List ℕ) (v i : ℕ) (x y : List ℕ) (e : onward t p n c v i ≡ lists x y) where
  pub onward_grown : Grown n c x y
  unfolding onward ended
  onward_grown =
      let m = run (standing p n c v) (drop i t) in
      as_grows (ending m.place) m n c x y (run_grows (drop i t) (standing p n c v)) e

  pub onward_grows : (length n ≤ length x) × (length c ≤ length y)
  onward_grows =
      let g = onward_grown in
      let a = ap length g.names ∙ length-append n g.more_names in
      let b = ap length g.numbers ∙ length-append c g.more_numbers in
      (omega arith, omega arith)
