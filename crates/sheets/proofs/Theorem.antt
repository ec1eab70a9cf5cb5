-- The claims about the office's sheet (document 02, 2026-03): the reader decides the grammar; what was written is read back as it was; and what was
-- read can be written. Assumes nothing.
use Rattle.std.specs.Prelude.{◌≡◌, refl, ◌⊎◌, true, ◌&&◌, List, [], ◌∷◌, ◌++◌, ℕ, ◌≤◌, nat_le, length}
use Rattle.std.proofs.Common.{ap, ap₂, sym, ◌∙◌, subst, inl, inr, append_assoc, arith, le-leb, leb→le}
use Rattle.lists.specs.Choice.{choose, on_yes}
use Rattle.lists.specs.Basics.{All, every}
use Rattle.lists.specs.Tests.{T_true, true_T}
use Rattle.sheets.specs.Grammar.{Row, quote, comma, cr, lf, bare, doubled, Field, plain, quoted, RowText, row, Sheet, empty, last, more}
use Rattle.sheets.specs.Reader.{Said, nothing, lists, reading}
use Rattle.sheets.specs.Rows.{names_of, identifiers_of}
use Rattle.sheets.specs.Bytes.{every_head, every_tail, digits_bare}
use Rattle.sheets.proofs.Complete.{complete}
use Rattle.sheets.proofs.Sound.{sound, silent}
use Rattle.sheets.specs.Writer.{name_text, decimal, row_text, write_sheet, behind_name, rows_in, names_for}
use Rattle.sheets.specs.Decimal.{decimal_digits}
use Rattle.sheets.specs.Buffers.{Named, Writable, names_back, ids_in, rows_named, names_fit, rows_back}
use Rattle.sheets.specs.Calls.{done, is_word, laid, as_words, read_into, read_call, sheet_text, write_call}

name_written : (s : List ℕ) → Field (name_text s) s
unfolding name_text
name_written s = choose (λ t. Field t s) (every bare s) s (quote ∷ (doubled s ++ (quote ∷ []))) (λ e. plain (T_true _ e)) (λ _. quoted)

row_written : (r : Row) → Writable r → RowText (name_text r.name ++ (comma ∷ decimal r.identifier)) r
row_written r w =
    let d = decimal_digits r.identifier (omega arith) in
    subst (λ v. RowText (name_text r.name ++ (comma ∷ decimal r.identifier)) (record { name = r.name; identifier = v })) d.2
    (row (name_written r.name) w.0 (plain (digits_bare (decimal r.identifier) d.0)) d.0 d.1)

-- What is written is a sheet that says the rows.
pub written_is_sheet : (rs : List Row) → All Writable rs → Sheet (write_sheet rs) rs
unfolding write_sheet row_text
written_is_sheet [] w = empty
written_is_sheet (r ∷ rs) w =
    let f = name_text r.name in
    let d = decimal r.identifier in
    let e : (f ++ (comma ∷ (d ++ (cr ∷ lf ∷ [])))) ++ write_sheet rs ≡ (f ++ (comma ∷ d)) ++ (cr ∷ lf ∷ write_sheet rs) = simp append_assoc in
    subst (λ t. Sheet t (r ∷ rs)) (sym e) (more (row_written r w.0) (written_is_sheet rs w.1))

-- What was written is read back as it was.
pub round_trip : (rs : List Row) → All Writable rs → reading (write_sheet rs) ≡ lists (names_of rs) (identifiers_of rs)
round_trip rs w = complete (written_is_sheet rs w)

-- Every row of a sheet has a name without a zero byte, so the rows are told by the buffers.
sheet_named : {t : List ℕ} {rs : List Row} → Sheet t rs → All Named rs
sheet_named empty = tt
sheet_named (last (row x z y e l)) = (z, tt)
sheet_named (more (row x z y e l) s) = (z, sheet_named s)

-- A text says one list of rows at most.
pub one_reading : {t : List ℕ} {rs rs' : List Row} → Sheet t rs → Sheet t rs' → rs ≡ rs'
one_reading {t} {rs} {rs'} s s' =
    let e : lists (names_of rs) (identifiers_of rs) ≡ lists (names_of rs') (identifiers_of rs') = sym (complete s) ∙ complete s' in
    let n : names_of rs ≡ names_of rs' = cc in
    let i : identifiers_of rs ≡ identifiers_of rs' = cc in
    sym (rows_back rs (sheet_named s)) ∙ ap₂ rows_in n i ∙ rows_back rs' (sheet_named s')

-- The reader decides: a text is a sheet and its rows are read, or it is none and nothing is read.
pub decides : (t : List ℕ) → ((rs : List Row) × Sheet t rs × (reading t ≡ lists (names_of rs) (identifiers_of rs))) ⊎ ((reading t ≡ nothing) × ((rs : List Row) → Sheet t rs → ⊥))
decides t = go (reading t) refl
  where
    go : (s : Said) → reading t ≡ s → ((rs : List Row) × Sheet t rs × (reading t ≡ lists (names_of rs) (identifiers_of rs))) ⊎ ((reading t ≡ nothing) × ((rs : List Row) → Sheet t rs → ⊥))
    go nothing e = inr (e, λ rs s. silent (names_of rs) (identifiers_of rs) (sym e ∙ complete s))
    go (lists n i) e = let r = sound t n i e in inl (r.rows, r.sheet, complete r.sheet)

-- The same for the lent buffers: what was written from names and identifiers is read back into them.
writable_in : (l ids : List ℕ) → every is_word ids ≡ true → All Writable (rows_in l ids)
unfolding rows_in is_word
writable_in l [] e = tt
writable_in l (v ∷ ids) e =
    let h = leb→le v 4294967295 (true_T _ (every_head is_word v ids e)) in
    (((rows_named l (v ∷ ids)).0, omega arith), writable_in (behind_name l) ids (every_tail is_word v ids e))

pub read_back : (l ids : List ℕ) → names_for l (length ids) ≡ true → every is_word ids ≡ true → reading (sheet_text l ids) ≡ lists l ids
unfolding sheet_text
read_back l ids f e = round_trip (rows_in l ids) (writable_in l ids e) ∙ ap₂ lists (names_back l ids f) (ids_in l ids)

-- What was read can be written: it is one name with its zero byte for each identifier.
pub can_be_written : (t n i : List ℕ) → reading t ≡ lists n i → names_for n (length i) ≡ true
can_be_written t n i e =
    let r = sound t n i e in
    ap₂ (λ x y. names_for x (length y)) r.names r.identifiers ∙ names_fit r.rows (sheet_named r.sheet)

-- The calls: what was written is read back into any buffers that are long enough ..
pub written_then_read : (names ids ids' names' : List ℕ) → names_for names (length ids) ≡ true → every is_word ids ≡ true → length ids ≤ length ids' → length names ≤ length names'
    → read_call (sheet_text names ids) ids' names' ≡ record { outcome = done (length ids) (length names); identifiers = laid ids' ids; names = laid names' names }
unfolding read_call read_into
written_then_read names ids ids' names' f e h k =
    ap (read_into as_words ids' names') (read_back names ids f e)
    ∙ on_yes (every is_word ids) _ _ e
    ∙ on_yes (nat_le (length ids) (length ids') && nat_le (length names) (length names')) _ _ (rw (le-leb (length ids) (length ids') h, le-leb (length names) (length names') k))

-- .. and what was read can be written into any text that is long enough.
pub read_then_written : (t n i text : List ℕ) → reading t ≡ lists n i → length (sheet_text n i) ≤ length text
    → write_call n i text ≡ record { outcome = done (length i) (length (sheet_text n i)); text = laid text (sheet_text n i) }
unfolding write_call
read_then_written t n i text e h =
    on_yes (names_for n (length i)) _ _ (can_be_written t n i e) ∙ on_yes (nat_le (length (sheet_text n i)) (length text)) _ _ (le-leb (length (sheet_text n i)) (length text) h)
