-- How identifiers lie in what is lent: as words, or as bytes, four a word. Assumes nothing.
use Rattle.std.specs.Prelude.{◌≡◌, refl, List, [], ◌∷◌, ◌++◌, ℕ, ◌+◌, ◌*◌, ◌≤◌, length}
use Rattle.std.proofs.Common.{sym}
use Rattle.std.proofs.Math.Nat.{one-mul, mul-add}
use native.Mathlib.Omega.{arith}
use Rattle.lists.specs.Blocks.{flat_append, length_flat}
use Rattle.protocol.specs.Bytes.{word_bytes, bytes_of}
use Rattle.sheets.specs.Calls.{as_words}

pub bytes_append : (s t : List ℕ) → bytes_of (s ++ t) ≡ bytes_of s ++ bytes_of t
bytes_append s t = flat_append word_bytes s t

pub length_bytes : (l : List ℕ) → length (bytes_of l) ≡ 4 * length l
length_bytes l = length_flat word_bytes 4 (λ x. refl) l

-- Each identifier takes as many places, behind those before.
pub record Forms (form : List ℕ → List ℕ) (each : ℕ) : Type 0 where
  pub none : form [] ≡ []
  pub join : (x y : List ℕ) → form (x ++ y) ≡ form x ++ form y
  pub size : (x : List ℕ) → length (form x) ≡ each * length x

-- one more behind so many
pub form_room : (form : List ℕ → List ℕ) (each : ℕ) → Forms form each → (row v n : ℕ) → each * (row + 1) ≤ n → each * row + length (form (v ∷ [])) ≤ n
form_room form each laws row v n h =
    let a = mul-add each row 1 in
    let b : length (form (v ∷ [])) ≡ each * 1 = laws.size (v ∷ []) in
    omega arith

pub words_form : Forms as_words 1
words_form = record { none = refl; join = λ x y. refl; size = λ x. sym (one-mul (length x)) }

pub bytes_form : Forms (λ i. bytes_of i) 4
bytes_form = record { none = refl; join = bytes_append; size = length_bytes }
