-- An input in pieces, as reads bring it: the law about pieces, `in_pieces`, is at the end. Assumes nothing.
use Rattle.std.specs.Prelude.{◌≡◌, refl, Bool, true, false, ℕ, suc, nat_eq, length, take, replicate}
use Rattle.std.proofs.Common.{ap, sym, ◌∙◌, arith, ne_eqb, take-take}
use mathlib.Core.List.{List, [], ◌∷◌, ◌++◌, append_assoc, append-nil, flatten}
use Rattle.lists.specs.Basics.{when◌then◌else◌}
use Rattle.protocol.specs.Record.{record_size}
use Rattle.frames.specs.Lines.{enough}
use Rattle.texts.specs.Laws.{take_more}
use Rattle.protocol.specs.Ringrun.{lines_of, answers, ringrun, Standing, line_ended, byte_fed, fed, ended}

-- Of a line that has begun the first 515 bytes are kept, one more than a frame can have.
unfoldable pub cut : Standing → Standing
cut s = record { slice = s.slice; begun = take 515 s.begun; printed = s.printed }

-- What is done with the bytes of one read; and what is written where the reads bring these pieces, one after the other, and then the input
-- ends.
unfoldable pub taken : List ℕ → List ℕ → List ℕ → Standing
taken w begun piece = cut (fed (record { slice = w; begun = begun; printed = [] }) piece)

unfoldable pub written : List ℕ → List ℕ → List (List ℕ) → List ℕ
written w begun [] = (ended (record { slice = w; begun = begun; printed = [] })).printed
written w begun (piece ∷ pieces) = (taken w begun piece).printed ++ written (taken w begun piece).slice (taken w begun piece).begun pieces

-- Fed piece by piece or at once, an input does the same.
pub fed_pieces : (s : Standing) (p q : List ℕ) → fed s (p ++ q) ≡ fed (fed s p) q
unfolding fed
fed_pieces s [] q = refl
fed_pieces s (b ∷ p) q = fed_pieces (byte_fed s b) p q

-- The end of the input does to a line that has begun what LF does.
pub last_lf : (s : Standing) (input : List ℕ) → ¬ (length (fed s input).begun ≡ 0) → ended (fed s input) ≡ fed s (input ++ (10 ∷ []))
unfolding fed byte_fed ended when◌then◌else◌
last_lf s input h = rw (fed_pieces s input (10 ∷ []), ne_eqb (length (fed s input).begun) 0 h)

-- Fed byte by byte to its end, an input prints what its lines print.
pub fed_lines : (s : Standing) (input : List ℕ) → (ended (fed s input)).printed ≡ s.printed ++ answers s.slice (lines_of s.begun input)
unfolding fed ended byte_fed line_ended lines_of answers when◌then◌else◌
fed_lines s [] = go (nat_eq (length s.begun) 0)
  where
    go : (t : Bool) → (when t then s else line_ended s).printed ≡ s.printed ++ answers s.slice (when t then [] else s.begun ∷ [])
    go true = sym (append-nil s.printed)
    go false = ap (λ z. s.printed ++ z) (sym (append-nil _))
fed_lines s (b ∷ rest) = fed_lines (byte_fed s b) rest ∙ go (nat_eq b 10)
  where
    more : Standing
    more = record { slice = s.slice; begun = s.begun ++ (b ∷ []); printed = s.printed }

    go : (t : Bool)
        → (when t then line_ended s else more).printed ++ answers (when t then line_ended s else more).slice (lines_of (when t then line_ended s else more).begun rest)
        ≡ s.printed ++ answers s.slice (when t then s.begun ∷ lines_of [] rest else lines_of (s.begun ++ (b ∷ [])) rest)
    go true = append_assoc s.printed _ _
    go false = refl

-- A line that is cut is answered as the whole one.
cut_line : (s : Standing) → line_ended (cut s) ≡ line_ended s
unfolding line_ended cut
cut_line s = rw (enough s.slice s.begun)

-- The next byte goes behind the bytes that are kept, and is then kept or not.
cut_byte : (s : Standing) (b : ℕ) → cut (byte_fed (cut s) b) ≡ cut (byte_fed s b)
unfolding byte_fed cut when◌then◌else◌
cut_byte s b = go (nat_eq b 10)
  where
    go : (t : Bool)
        → cut (when t then line_ended (cut s) else record { slice = (cut s).slice; begun = (cut s).begun ++ (b ∷ []); printed = (cut s).printed })
        ≡ cut (when t then line_ended s else record { slice = s.slice; begun = s.begun ++ (b ∷ []); printed = s.printed })
    go true = ap cut (cut_line s)
    go false = ap (λ z. record { slice = s.slice; begun = z; printed = s.printed }) (take_more 515 s.begun (b ∷ []))

pub cut_fed : (s : Standing) (input : List ℕ) → cut (fed (cut s) input) ≡ cut (fed s input)
unfolding fed cut
cut_fed s [] = ap (λ z. record { slice = s.slice; begun = z; printed = s.printed }) (take-take 515 515 s.begun (omega arith))
cut_fed s (b ∷ rest) =
    sym (cut_fed (byte_fed (cut s) b) rest)
    ∙ ap (λ z. cut (fed z rest)) (cut_byte s b)
    ∙ cut_fed (byte_fed s b) rest

some : (l : List ℕ) → nat_eq (suc (length l)) 0 ≡ false
some l = ne_eqb (suc (length l)) 0 (λ e. omega arith)

pub cut_ended : (s : Standing) → (ended (cut s)).printed ≡ (ended s).printed
unfolding ended cut when◌then◌else◌
cut_ended s = go s.begun
  where
    go : (begun : List ℕ)
        → (ended (record { slice = s.slice; begun = take 515 begun; printed = s.printed })).printed ≡ (ended (record { slice = s.slice; begun = begun; printed = s.printed })).printed
    go [] = refl
    go (b ∷ begun) =
        rw (some (take 514 begun), some begun)
        (ap (λ z. z.printed) (cut_line (record { slice = s.slice; begun = b ∷ begun; printed = s.printed })))

written_lines : (w begun : List ℕ) (pieces : List (List ℕ)) → written w begun pieces ≡ answers w (lines_of begun (flatten pieces))
unfolding fed taken written flatten
written_lines w begun [] = fed_lines (record { slice = w; begun = begun; printed = [] }) []
written_lines w begun (p ∷ pieces) =
    ap (λ z. t.printed ++ z) (written_lines t.slice t.begun pieces)
    ∙ sym (fed_lines t (flatten pieces))
    ∙ sym (cut_ended (fed t (flatten pieces)))
    ∙ ap (λ z. (ended z).printed) (cut_fed u (flatten pieces))
    ∙ cut_ended (fed u (flatten pieces))
    ∙ ap (λ z. (ended z).printed) (sym (fed_pieces s p (flatten pieces)))
    ∙ fed_lines s (p ++ flatten pieces)
  where
    s : Standing
    s = record { slice = w; begun = begun; printed = [] }

    u : Standing
    u = fed s p

    t : Standing
    t = cut u

-- In whatever pieces an input arrives, what is written is what `ringrun` prints for it.
pub in_pieces : (pieces : List (List ℕ)) → written (replicate record_size 0) [] pieces ≡ ringrun (flatten pieces)
unfolding ringrun
in_pieces pieces = written_lines (replicate record_size 0) [] pieces
