-- The kinds of a byte: which bytes end a run of a name. Assumes nothing.
use Rattle.std.specs.Prelude.{◌≡◌, Bool, not, ◌&&◌, List, ℕ, ◌<◌, nat_eq, get_or, T}
use Rattle.std.proofs.Math.Path.{refl, sym}
use Rattle.std.proofs.Common.{ap, ◌∙◌}
use Rattle.std.proofs.Math.Bool.{true, false}
use Rattle.lists.specs.Basics.{when◌then◌else◌, table}
use Rattle.lists.specs.Tests.{true_T}
use Rattle.lists.specs.Blocks.{get_or_table}
use Rattle.sheet_reading.specs.declared.bytes.Kind.{Kind}
use Rattle.sheet_reading.specs.declared.bytes.Kind.TheVariants.{Plain, Quoted, Neither}
use Rattle.sheets.specs.Grammar.{quote, bare, non_zero}
use Rattle.sheets.specs.Bytes.{bare_quote, and_first, and_second}

-- A byte of an unquoted name, and one of a quoted name that stands for itself.
unfoldable pub plain_byte : ℕ → Bool
plain_byte b = bare b && non_zero b

unfoldable pub quoted_byte : ℕ → Bool
quoted_byte b = not (nat_eq b quote) && non_zero b

-- In which names a byte stands for itself.
unfoldable pub kind_of : ℕ → Kind
kind_of b = when plain_byte b then Plain else when quoted_byte b then Quoted else Neither

abbrev pub says_plain : Kind → Bool
says_plain Plain = true
says_plain Quoted = false
says_plain Neither = false

abbrev pub says_quoted : Kind → Bool
says_quoted Plain = true
says_quoted Quoted = true
says_quoted Neither = false

-- what a look at the kind says
pub plain_quoted : (b : ℕ) → plain_byte b ≡ true → quoted_byte b ≡ true
unfolding plain_byte quoted_byte
plain_quoted b e = rw (bare_quote b (and_first (bare b) (non_zero b) e), and_second (bare b) (non_zero b) e)

module _ (b : ℕ) where
  by_kind : (p q : Bool) → plain_byte b ≡ p → quoted_byte b ≡ q → kind_of b ≡ (when p then Plain else when q then Quoted else Neither)
  unfolding kind_of
  by_kind p q e f = rw (e, f)

  pub kind_plain : says_plain (kind_of b) ≡ plain_byte b
  unfolding when◌then◌else◌
  kind_plain = go (plain_byte b) (quoted_byte b) refl refl
    where
      go : (p q : Bool) → plain_byte b ≡ p → quoted_byte b ≡ q → says_plain (kind_of b) ≡ plain_byte b
      go true q e f = ap says_plain (by_kind true q e f) ∙ sym e
      go false true e f = ap says_plain (by_kind false true e f) ∙ sym e
      go false false e f = ap says_plain (by_kind false false e f) ∙ sym e

  pub kind_quoted : says_quoted (kind_of b) ≡ quoted_byte b
  unfolding when◌then◌else◌
  kind_quoted = go (plain_byte b) (quoted_byte b) refl refl
    where
      go : (p q : Bool) → plain_byte b ≡ p → quoted_byte b ≡ q → says_quoted (kind_of b) ≡ quoted_byte b
      go true true e f = ap says_quoted (by_kind true true e f) ∙ sym f
      go true false e f = absurd (let z : T false = true_T false (sym f ∙ plain_quoted b e) in z)
      go false true e f = ap says_quoted (by_kind false true e f) ∙ sym f
      go false false e f = ap says_quoted (by_kind false false e f) ∙ sym f

-- a table of all bytes
pub by_table : (l : List Kind) → l ≡ table 256 kind_of → (b : ℕ) (d : Kind) → b < 256 → get_or l b d ≡ kind_of b
by_table l e b d h = ap (λ t. get_or t b d) e ∙ get_or_table 256 kind_of b d h
