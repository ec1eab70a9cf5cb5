-- What holds of a book beside its ledger, between two calls; and that it holds when the ledger changes, and after an offer. Assumes nothing.
use Rattle.std.specs.Prelude.{◌≡◌, refl, List, [], ◌∷◌, map, ℕ, ◌≤◌, ◌<◌, nat_eq, length, get_or}
use Rattle.std.proofs.Common.{sym, ◌∙◌, ap, subst, inl, inr, arith}
use Rattle.std.proofs.lemmas.List.{length-map}
use Rattle.lists.specs.Basics.{Mem}
use Rattle.lists.specs.Choice.{choose}
use Rattle.lists.specs.Members.{mem_map, place}
use Rattle.lists.specs.Tests.{Distinct}
use Rattle.protocol.specs.declared.Card.{Card}
use Rattle.protocol.specs.Record.{round, most_nodes}
use Rattle.protocol.specs.Membership.{mark}
use Rattle.protocol.specs.Cards.{Book, marked, home, rehoused, moved}
use Rattle.cardlayout.specs.Marks.{Marked}
use Rattle.cardlayout.specs.Books.{Fits}
use Rattle.cardlayout.specs.Sound.{MarksForm, BookForm}
use Rattle.custody.specs.Custody.{Offer, put, priced}
use Rattle.custody.specs.Offers.{Right}

-- A ledger of a ring: its members are hubs, and there is one.
pub record Ledger (ids members : List ℕ) : Type 0 where
  pub few : length ids ≤ most_nodes
  pub below : (h : ℕ) → mark members h ≡ 1 → h < length ids
  pub some : (h : ℕ) × (mark members h ≡ 1)

-- members is the ledger, b the book, prices the plain list
pub record Kept (ids members : List ℕ) (b : Book) (prices : List Offer) : Type 0 where
  pub fits : Fits b
  pub marks : (h : ℕ) → h < most_nodes → get_or b.marks h 0 ≡ mark members h
  pub small : (c : Card) → Mem c b.cards → c.machine < round
  pub differ : Distinct (map (λ c. c.machine) b.cards)
  pub homes : (c : Card) → Mem c b.cards → c.hub ≡ home ids (marked b.marks) c.machine
  pub plain : map priced b.cards ≡ prices

mark_bit : (members : List ℕ) (h : ℕ) → mark members h < 2
unfolding mark
mark_bit [] h = omega arith
mark_bit (k ∷ members) h = choose (λ z. z < 2) (nat_eq k h) 1 (mark members h) (λ _. omega arith) (λ _. mark_bit members h)

-- Marks that say what the ledger says are as they must be.
module _ {ids members : List ℕ} (L : Ledger ids members) (marks : List ℕ) (size : length marks ≡ most_nodes)
    (says : (h : ℕ) → h < most_nodes → get_or marks h 0 ≡ mark members h) where
  pub to_marked : (h : ℕ) → mark members h ≡ 1 → Marked marks h
  to_marked h e = let l = L.below h e in record { below = omega (arith, size, L.few); at = says h (omega (arith, L.few)) ∙ e }

  pub from_marked : (h : ℕ) → Marked marks h → mark members h ≡ 1
  from_marked h m = sym (says h (omega (arith, m.below, size))) ∙ m.at

  marks_form : MarksForm (length ids) marks
  marks_form = record {
    bits = λ x i. (let p = place x marks 0 i in omega (arith, p.2, says p.0 (omega (arith, p.1, size)), mark_bit members p.0));
    some = (L.some.0, to_marked L.some.0 L.some.1);
    below = λ k m. L.below k (from_marked k m);
  }

pub book_form : {ids members : List ℕ} {b : Book} {prices : List Offer} → Ledger ids members → Kept ids members b prices → BookForm ids b
book_form {ids} {members} {b} {prices} L K = record { marks = marks_form L b.marks K.fits.marks K.marks; differ = K.differ; homes = K.homes }

-- a list whose elements were changed where nobody looks
pub map_after : {A B : Type 0} (f : A → A) (g : A → B) → ((x : A) → g (f x) ≡ g x) → (l : List A) → map g (map f l) ≡ map g l
map_after f g e [] = refl
map_after f g e (x ∷ l) = ap (λ z. z ∷ map g (map f l)) (e x) ∙ ap (λ z. g x ∷ z) (map_after f g e l)

-- New members: all cards get the owner among them.
pub moves : {ids members : List ℕ} {b : Book} {prices : List Offer} → Kept ids members b prices → (others marks : List ℕ) → length marks ≡ most_nodes
    → ((h : ℕ) → h < most_nodes → get_or marks h 0 ≡ mark others h) → Kept ids others (moved ids b marks) prices
unfolding moved rehoused
moves {ids} {members} {b} K others marks size says = record {
  fits = record { marks = size; cards = omega (arith, K.fits.cards, length-map b.cards (rehoused ids (marked marks))) };
  marks = says;
  small = λ c i. (let r = mem_map (rehoused ids (marked marks)) b.cards c i in omega (arith, ap (λ z. z.machine) r.2, K.small r.0 r.1));
  differ = subst Distinct (sym (map_after (rehoused ids (marked marks)) (λ c. c.machine) (λ c. refl) b.cards)) K.differ;
  homes = λ c i. (let r = mem_map (rehoused ids (marked marks)) b.cards c i in
      subst (λ z. z.hub ≡ home ids (marked marks) z.machine) (sym r.2) refl);
  plain = map_after (rehoused ids (marked marks)) priced (λ c. refl) b.cards ∙ K.plain;
}

-- A card that is offered, and kept.
pub takes : {ids members : List ℕ} {b : Book} {prices : List Offer} → Kept ids members b prices → (c : Card) → c.machine < round
    → c.hub ≡ home ids (marked b.marks) c.machine → (l : List Card) → Right b.cards c l → Kept ids members (record { marks = b.marks; cards = l }) (put prices (priced c))
takes {ids} {members} {b} K c lc hc l r = record {
  fits = record { marks = K.fits.marks; cards = r.few };
  marks = K.marks;
  small = λ x i. elim (r.from x i) [ inl q ↦ subst (λ z. z.machine < round) (sym q) lc | inr k ↦ K.small x k ];
  differ = r.differ K.differ;
  homes = λ x i. elim (r.from x i) [ inl q ↦ subst (λ z. z.hub ≡ home ids (marked b.marks) z.machine) (sym q) hc | inr k ↦ K.homes x k ];
  plain = r.prices ∙ ap (λ z. put z (priced c)) K.plain;
}
