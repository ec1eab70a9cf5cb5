-- Cards handed over to another hub, one after the other; and what that does to a book when a hub enters or leaves. Assumes nothing.
use Rattle.std.specs.Prelude.{◌≡◌, refl, ℕ, suc, ◌+◌, ◌<◌}
use Rattle.std.proofs.Math.Path.{sym, ap}
use Rattle.std.proofs.Common.{◌∙◌, inl, inr, add-one, arith}
use mathlib.Core.List.{List, [], ◌∷◌, ◌++◌, map}
use Rattle.std.proofs.Common.{nat_le}
use lib.ListN.{length, get_or, set, take, drop, length-append, length-map}
use lib.Seq.{length-take-le, set_at, drop-cons, take-suc, append_snoc, take-length, drop-length, set-get_or}
use Rattle.clockwise.specs.Clockwise.{dist}
use Rattle.lists.specs.Basics.{when◌then◌else◌, Mem}
use Rattle.protocol.specs.declared.Card.{Card}
use Rattle.protocol.specs.Record.{round}
use Rattle.protocol.specs.Cards.{card_start, Book, book_words, card_from, marked, home, rehoused, moved, no_card}
use Rattle.layout.specs.Owners.{Names}
use Rattle.cardlayout.specs.Marks.{Marked}
use Rattle.cardlayout.specs.Reach.{reach, home_on, home_off}
use Rattle.cardlayout.specs.Books.{Fits, with_hub, put_hub_is, card_read}
use Rattle.cardlayout.specs.Sound.{BookForm}

-- a card within reach of an identifier gets the hub
unfoldable pub handed : ℕ → ℕ → ℕ → Card → Card
handed id far hub c = with_hub c (when nat_le (dist round c.machine id) far then hub else c.hub)

-- the first j cards handed over
abbrev pub handed_book : ℕ → ℕ → ℕ → Book → ℕ → Book
handed_book id far hub b j = record { marks = b.marks; cards = map (handed id far hub) (take j b.cards) ++ drop j b.cards }

-- one more place of a list changed
module _ {A : Type 0} (f : A → A) (l : List A) (j : ℕ) (d : A) (h : j < length l) where
  front_size : length (map f (take j l)) ≡ j
  front_size = length-map (take j l) f ∙ length-take-le j l (omega arith)

  pub mapped_at : get_or (map f (take j l) ++ drop j l) j d ≡ get_or l j d
  mapped_at = ap (λ z. get_or (map f (take j l) ++ z) j d) (drop-cons l j d h) ∙ lib.Seq.get_or_at (map f (take j l)) (get_or l j d) (drop (suc j) l) d j front_size

  pub mapped_more : set (map f (take j l) ++ drop j l) j (f (get_or l j d)) ≡ map f (take (j + 1) l) ++ drop (j + 1) l
  mapped_more =
      ap (λ z. set (map f (take j l) ++ z) j (f (get_or l j d))) (drop-cons l j d h)
      ∙ set_at (map f (take j l)) (get_or l j d) (drop (suc j) l) (f (get_or l j d)) j front_size
      ∙ sym (append_snoc (map f (take j l)) (f (get_or l j d)) (drop (suc j) l))
      ∙ ap (λ z. z ++ drop (suc j) l) (sym (mathlib.Core.List.map-append f (take j l) (get_or l j d ∷ [])) ∙ ap (map f) (sym (take-suc l j d h)))
      ∙ ap (λ z. map f (take z l) ++ drop z l) (sym (add-one j))

  pub mapped_size : length (map f (take j l) ++ drop j l) ≡ length l
  mapped_size = length-append (map f (take j l)) (drop j l) ∙ omega (arith, front_size, lib.ListN.length-drop j l)

-- The words with the first j cards handed over.
module _ (id far hub : ℕ) (b : Book) (t : List ℕ) (f : Fits b) (j : ℕ) (h : j < length b.cards) where
  abbrev so : Book
  so = handed_book id far hub b j

  pub handed_fits : Fits (handed_book id far hub b j)
  handed_fits = record { marks = f.marks; cards = omega (arith, f.cards, mapped_size (handed id far hub) b.cards j no_card h) }

  pub handed_read : card_from (book_words (handed_book id far hub b j) ++ t) (card_start j) ≡ get_or b.cards j no_card
  handed_read =
      card_read so t handed_fits j no_card (omega (arith, mapped_size (handed id far hub) b.cards j no_card h))
      ∙ mapped_at (handed id far hub) b.cards j no_card h

  pub handed_more : (x : ℕ) → x ≡ (when nat_le (dist round (get_or b.cards j no_card).machine id) far then hub else (get_or b.cards j no_card).hub)
      → set (book_words (handed_book id far hub b j) ++ t) (card_start j + 3) x ≡ book_words (handed_book id far hub b (j + 1)) ++ t
  unfolding handed
  handed_more x e =
      put_hub_is so t handed_fits j x no_card (omega (arith, mapped_size (handed id far hub) b.cards j no_card h))
      ∙ ap (λ z. book_words (record { marks = b.marks; cards = set so.cards j (with_hub z x) }) ++ t) (mapped_at (handed id far hub) b.cards j no_card h)
      ∙ ap (λ z. book_words (record { marks = b.marks; cards = set so.cards j (with_hub (get_or b.cards j no_card) z) }) ++ t) e
      ∙ ap (λ z. book_words (record { marks = b.marks; cards = z }) ++ t) (mapped_more (handed id far hub) b.cards j no_card h)

pub handed_none : (id far hub : ℕ) (b : Book) → handed_book id far hub b 0 ≡ b
handed_none id far hub b = refl

pub handed_all : (id far hub : ℕ) (b : Book) → handed_book id far hub b (length b.cards) ≡ record { marks = b.marks; cards = map (handed id far hub) b.cards }
handed_all id far hub b =
    ap (λ z. record { marks = b.marks; cards = z })
    (ap (λ z. map (handed id far hub) z ++ drop (length b.cards) b.cards) (take-length b.cards)
    ∙ ap (λ z. map (handed id far hub) b.cards ++ z) (drop-length b.cards) ∙ mathlib.Core.List.append-nil (map (handed id far hub) b.cards))

-- cards one by one
map_same : {A B : Type 0} (f g : A → B) (l : List A) → ((x : A) → Mem x l → f x ≡ g x) → map f l ≡ map g l
map_same f g [] e = refl
map_same f g (x ∷ l) e = ap (λ z. z ∷ map f l) (e x (inl refl)) ∙ ap (λ z. g x ∷ z) (map_same f g l (λ y k. e y (inr k)))

map_keep : {A : Type 0} (f : A → A) (l : List A) → ((x : A) → Mem x l → f x ≡ x) → map f l ≡ l
map_keep f [] e = refl
map_keep f (x ∷ l) e = ap (λ z. z ∷ map f l) (e x (inl refl)) ∙ ap (λ z. x ∷ z) (map_keep f l (λ y k. e y (inr k)))

-- Handing over is what the owner among the new members asks for.
module _ (ids : List ℕ) (b : Book) (N : Names ids) (F : BookForm ids b) (small : (c : Card) → Mem c b.cards → c.machine < round)
    (h : ℕ) (lh : h < length ids) (lm : h < length b.marks) where
  abbrev name : ℕ
  name = get_or ids h 0

  below : (k : ℕ) → Marked b.marks k → k < length ids
  below = F.marks.below

  pub entered_cards : map (handed (get_or ids h 0) (reach ids (set b.marks h 1) h) h) b.cards ≡ map (rehoused ids (marked (set b.marks h 1))) b.cards
  unfolding handed rehoused
  entered_cards = map_same _ _ b.cards (λ c i. ap (with_hub c)
      (ap (λ z. when nat_le (dist round c.machine name) (reach ids (set b.marks h 1) h) then h else z) (F.homes c i)
      ∙ sym (home_on ids b.marks N below h lh lm c.machine F.marks.some.0 (small c i) F.marks.some.1)))

  pub left_cards : Marked b.marks h → (m : ℕ) → Marked (set b.marks h 0) m
      → map (handed (get_or ids h 0) (reach ids b.marks h) (home ids (marked (set b.marks h 0)) (get_or ids h 0))) b.cards ≡ map (rehoused ids (marked (set b.marks h 0))) b.cards
  unfolding handed rehoused
  left_cards kh m k = map_same _ _ b.cards (λ c i. ap (with_hub c)
      (ap (λ z. when nat_le (dist round c.machine name) (reach ids b.marks h) then home ids (marked (set b.marks h 0)) name else z) (F.homes c i)
      ∙ sym (home_off ids b.marks N below h lh lm c.machine m (small c i) kh k)))

-- A hub that is no member strikes nobody off: the cards stay.
pub stay_cards : (ids : List ℕ) (b : Book) → BookForm ids b → (h : ℕ) → get_or b.marks h 0 ≡ 0 → moved ids b (set b.marks h 0) ≡ b
unfolding moved rehoused
stay_cards ids b F h e =
    let q : set b.marks h 0 ≡ b.marks = ap (set b.marks h) (sym e) ∙ set-get_or b.marks h 0 in
    ap (λ z. record { marks = z; cards = map (rehoused ids (marked z)) b.cards }) q
    ∙ ap (λ z. record { marks = b.marks; cards = z }) (map_keep (rehoused ids (marked b.marks)) b.cards (λ c i. ap (with_hub c) (sym (F.homes c i))))
