-- What the code does on its lists, as the meaning has it. Assumes nothing.
use Rattle.std.specs.Prelude.{◌≡◌, refl, Bool, true, false, List, [], ◌∷◌, ◌++◌, ℕ, ◌+◌, ◌-◌, ◌≤◌, ◌<◌, length, take, drop, set, get_or, nat_eq}
use Rattle.std.proofs.Common.{ap, sym, ◌∙◌, add-one, arith, drop-drop, take_all}
use Rattle.std.proofs.Math.Seq.{paste, paste-suc}
use borrow.Author.Tests.{ne_eqb}
use Rattle.lists.specs.Basics.{when◌then◌else◌}
use Rattle.protocol.specs.Frames.{line_call}
use Rattle.texts.specs.Laws.{all_fits}
use Rattle.texts.specs.Lines.{Gathering, kept, gathered}
use Rattle.protocol.specs.Ringrun.{Standing, line_ended, byte_fed, fed, ended}
use Rattle.stream.specs.Pieces.{cut, cut_fed}

-- one byte more is copied
pub paste_more : (d : List ℕ) (at : ℕ) (s : List ℕ) (j : ℕ) → at + j < length d → j < length s
    → set (paste d at s j) (at + j) (get_or s j 0) ≡ paste d at s (j + 1)
paste_more d at s j h k = rw add-one (paste-suc d at s j 0 h k)

-- from turn to turn
pub drop_further : (a b : ℕ) (l m : List ℕ) → a ≤ b → drop a l ≡ drop a m → drop b l ≡ drop b m
drop_further a b l m h e =
    let s : b ≡ a + (b - a) = omega arith in
    rw s (sym (drop-drop (b - a) a l) ∙ ap (drop (b - a)) e ∙ drop-drop (b - a) a m)

-- the answer to a line stands behind those that wait, where there is room for it
pub answered : (n : ℕ) (w l after out text : List ℕ) → line_call w l ≡ record { printed = text; slice = after } → length out + length text ≤ n
    → line_ended (record { slice = w; begun = l; printed = out }) ≡ record { slice = after; begun = []; printed = take n (out ++ text) }
unfolding line_ended
answered n w l after out text called room = rw (called, all_fits n out text room)

-- the answer to a line stands behind what was printed before it
pub answer_behind : (w l after out text : List ℕ) → line_call w l ≡ record { printed = text; slice = after }
    → line_ended (record { slice = w; begun = l; printed = out }) ≡ record { slice = after; begun = []; printed = out ++ text }
unfolding line_ended
answer_behind w l after out text called = rw called refl

-- A line is gathered up to its LF and then ends; or the input ends first.
unfoldable resumed : Standing → Gathering → Standing
resumed s g = when g.ended then line_ended (record { slice = s.slice; begun = g.part; printed = s.printed }) else record { slice = s.slice; begun = g.part; printed = s.printed }

gathered_fed : (s : Standing) (input : List ℕ) → cut (fed s input) ≡ cut (fed (resumed s (gathered 515 s.begun input)) (gathered 515 s.begun input).left)
unfolding fed byte_fed cut kept gathered resumed when◌then◌else◌
gathered_fed s [] = refl
gathered_fed s (b ∷ rest) = go (nat_eq b 10) (gathered_fed (record { slice = s.slice; begun = take 515 (s.begun ++ (b ∷ [])); printed = s.printed }) rest)
  where
    more : Standing
    more = record { slice = s.slice; begun = s.begun ++ (b ∷ []); printed = s.printed }

    onward : Bool → Gathering
    onward t = when t then record { part = s.begun; ended = true; left = rest } else gathered 515 (kept 515 s.begun b) rest

    go : (t : Bool) → cut (fed (cut more) rest) ≡ cut (fed (resumed (cut more) (onward false)) (onward false).left)
        → cut (fed (when t then line_ended s else more) rest) ≡ cut (fed (resumed s (onward t)) (onward t).left)
    go true k = refl
    go false k = sym (cut_fed more rest) ∙ k

module _ (w begun printed input part left : List ℕ) (e : Bool) (got : gathered 515 begun input ≡ record { part = part; ended = e; left = left }) where
  known : cut (fed (record { slice = w; begun = begun; printed = printed }) input)
      ≡ cut (fed (resumed (record { slice = w; begun = begun; printed = printed }) (record { part = part; ended = e; left = left })) left)
  known =
      gathered_fed (record { slice = w; begun = begun; printed = printed }) input
      ∙ ap (λ g. cut (fed (resumed (record { slice = w; begun = begun; printed = printed }) g) g.left)) got

  pub line_ends : e ≡ true → (after : Standing) → line_ended (record { slice = w; begun = part; printed = printed }) ≡ after
      → cut (fed (record { slice = w; begun = begun; printed = printed }) input) ≡ cut (fed after left)
  unfolding resumed when◌then◌else◌
  line_ends t after a = known ∙ rw (t, a)

  pub line_goes_on : e ≡ false → cut (fed (record { slice = w; begun = begun; printed = printed }) input) ≡ cut (fed (record { slice = w; begun = part; printed = printed }) left)
  unfolding resumed when◌then◌else◌
  line_goes_on t = known ∙ rw t

-- the end of the input
module _ (w line : List ℕ) where
  pub nothing_begun : length line ≡ 0 → ended (record { slice = w; begun = line; printed = [] }) ≡ record { slice = w; begun = line; printed = [] }
  unfolding ended when◌then◌else◌
  nothing_begun e = rw e

  pub last_line : ¬ (length line ≡ 0) → (after : Standing) → line_ended (record { slice = w; begun = line; printed = [] }) ≡ after
      → ended (record { slice = w; begun = line; printed = [] }) ≡ after
  unfolding ended when◌then◌else◌
  last_line h after a = rw (ne_eqb (length line) 0 h) a

-- the last turn
pub all_taken : (w line printed : List ℕ) → length line ≤ 515 → cut (fed (record { slice = w; begun = line; printed = printed }) []) ≡ record { slice = w; begun = line; printed = printed }
unfolding fed cut
all_taken w line printed h = ap (λ z. record { slice = w; begun = z; printed = printed }) (take_all 515 line h)
