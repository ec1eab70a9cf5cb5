-- What an offer makes of a list of cards, and of the plain list of prices. Assumes nothing.
use Rattle.std.specs.Prelude.{◌≡◌, refl, ◌⊎◌, ◌≢◌, Bool, List, [], ◌∷◌, ◌++◌, map, ℕ, zero, suc, ◌≤◌, ◌<◌, nat_eq, length, get_or, set}
use Rattle.std.proofs.Common.{sym, ◌∙◌, ap, subst, inl, inr, arith, eqb→eq, length-set, length-append}
use Rattle.std.proofs.lemmas.List.{map-append}
use Rattle.std.proofs.Common.{nat_lt}
use Rattle.std.proofs.Math.Dec.{ltb→lt, nltb→le}
use Rattle.std.proofs.Math.Seq.{map-set_same}
use borrow.Author.Tests.{eqb-false, eqb-true}
use Rattle.lists.specs.Basics.{when◌then◌else◌, require, Mem, first}
use Rattle.lists.specs.Choice.{choose, passes, tested}
use Rattle.lists.specs.Members.{mem_map, mem_set, mem_split, place}
use Rattle.lists.specs.Search.{Located, Missed, search_ends}
use Rattle.lists.specs.Tests.{→eqb, Distinct}
use Rattle.protocol.specs.declared.Card.{Card}
use Rattle.protocol.specs.declared.refusal.Refusal.TheVariants.{CardsFull}
use Rattle.protocol.specs.Cards.{most_cards, declined, kept, no_card, renewed, offered}
use Rattle.custody.specs.Custody.{put, priced}
use Rattle.custody.specs.Offers.{Fair}

distinct_last : (l : List ℕ) (x : ℕ) → Distinct l → ((y : ℕ) → Mem y l → y ≢ x) → Distinct (l ++ (x ∷ []))
unfolding Distinct
distinct_last [] x d f = ((λ y k. absurd k), tt)
distinct_last (z ∷ l) x d f = ((λ y k. go y (mem_split y l (x ∷ []) k)), distinct_last l x d.1 (λ y k. f y (inr k)))
  where
    go : (y : ℕ) → Mem y l ⊎ Mem y (x ∷ []) → ¬ (z ≡ y)
    go y (inl k) = d.0 y k
    go y (inr (inl e)) = λ q. f z (inl refl) (q ∙ e)
    go y (inr (inr k)) = absurd k

-- The plain list, where the machine stands first at place j; and where it does not stand.
put_set : (l : List Card) (j : ℕ) (c : Card) → j < length l → (get_or l j no_card).machine ≡ c.machine
    → ((i : ℕ) → i < j → (get_or l i no_card).machine ≢ c.machine) → put (map priced l) (priced c) ≡ map priced (set l j c)
unfolding put
put_set [] j c h e f = absurd (omega arith)
put_set (x ∷ l) zero c h e f =
    passes (λ z. z ≡ priced c ∷ map priced l) (nat_eq x.machine c.machine) (priced c ∷ map priced l) (priced x ∷ put (map priced l) (priced c)) (→eqb _ _ e) refl
put_set (x ∷ l) (suc j) c h e f =
    choose (λ z. z ≡ priced x ∷ map priced (set l j c)) (nat_eq x.machine c.machine) (priced c ∷ map priced l) (priced x ∷ put (map priced l) (priced c))
    (λ t. absurd (f 0 (omega arith) (eqb→eq _ _ t)))
    (λ _. ap (λ z. priced x ∷ z) (put_set l j c (omega arith) e (λ i k. f (suc i) (omega arith))))

put_last : (l : List Card) (c : Card) → ((i : ℕ) → i < length l → (get_or l i no_card).machine ≢ c.machine)
    → put (map priced l) (priced c) ≡ map priced (l ++ (c ∷ []))
unfolding put
put_last [] c f = refl
put_last (x ∷ l) c f =
    choose (λ z. z ≡ priced x ∷ map priced (l ++ (c ∷ []))) (nat_eq x.machine c.machine) (priced c ∷ map priced l) (priced x ∷ put (map priced l) (priced c))
    (λ t. absurd (f 0 (omega arith) (eqb→eq _ _ t)))
    (λ _. ap (λ z. priced x ∷ z) (put_last l c (λ i k. f (suc i) (omega arith))))

module _ (cards : List Card) (c : Card) (some : length cards ≤ most_cards) where
  abbrev alike : ℕ → Bool
  alike j = nat_eq (get_or cards j no_card).machine c.machine

  -- the kept card of its machine, at place j
  module _ (j : ℕ) (l : j < length cards) (at : (get_or cards j no_card).machine ≡ c.machine) (before : (i : ℕ) → i < j → (get_or cards i no_card).machine ≢ c.machine) where
    replaced : Fair cards c (kept (set cards j c))
    replaced =
        record {
          few = omega (arith, some, length-set cards j c);
          from = λ x i. mem_set cards j c x i;
          differ = λ d. subst Distinct (sym (map-set_same (λ z. z.machine) cards j c no_card (sym at))) d;
          prices = sym (put_set cards j c l at before);
        }

    same : (get_or cards j no_card).revision ≡ c.revision → (get_or cards j no_card).price ≡ c.price → Fair cards c (kept cards)
    same er ep =
        record {
          few = some;
          from = λ x i. inr i;
          differ = λ d. d;
          prices = sym (put_set cards j c l at before ∙ map-set_same priced cards j c no_card (λ i. record { machine = sym at i; revision = sym er i; price = sym ep i }));
        }

    renews : Fair cards c (renewed cards j (get_or cards j no_card) c)
    unfolding renewed
    renews =
        choose (Fair cards c) (nat_lt (get_or cards j no_card).revision c.revision) _ _ (λ _. replaced)
        (λ _. tested (Fair cards c) _ _ _ tt (λ r. tested (Fair cards c) _ _ _ tt (λ p. same (eqb→eq _ _ r) (eqb→eq _ _ p))))

  -- no card of its machine
  added : ((i : ℕ) → i < length cards → (get_or cards i no_card).machine ≢ c.machine) → length cards < most_cards → Fair cards c (kept (cards ++ (c ∷ [])))
  added none room =
      record {
        few = omega (arith, length-append cards (c ∷ []));
        from = λ x i. back x (mem_split x cards (c ∷ []) i);
        differ = λ d. subst Distinct (sym (map-append (λ z. z.machine) cards (c ∷ []))) (distinct_last (map (λ z. z.machine) cards) c.machine d other);
        prices = sym (put_last cards c none);
      }
    where
      back : (x : Card) → Mem x cards ⊎ Mem x (c ∷ []) → (x ≡ c) ⊎ Mem x cards
      back x (inl k) = inr k
      back x (inr (inl e)) = inl e
      back x (inr (inr k)) = absurd k

      other : (y : ℕ) → Mem y (map (λ z. z.machine) cards) → y ≢ c.machine
      other y i e =
          let r = mem_map (λ z. z.machine) cards y i in
          let p = place r.0 cards no_card r.1 in
          none p.0 p.1 (ap (λ z. z.machine) p.2 ∙ sym r.2 ∙ e)

  abbrev at : ℕ
  at = first alike (length cards)

  pub offer_fair : Fair cards c (offered cards c)
  unfolding offered
  offer_fair = go (search_ends alike (length cards))
    where
      go : Located alike (length cards) ⊎ Missed alike (length cards)
          → Fair cards c (when nat_lt at (length cards) then renewed cards at (get_or cards at no_card) c
          else require (nat_lt (length cards) most_cards) (declined CardsFull) (kept (cards ++ (c ∷ []))))
      go (inl f) =
          choose (Fair cards c) (nat_lt at (length cards)) _ _
          (λ _. renews at f.below (eqb-true _ _ f.here) (λ i l. eqb-false _ _ (f.before i l)))
          (λ t. absurd (omega (arith, f.below, nltb→le at (length cards) t)))
      go (inr f) =
          choose (Fair cards c) (nat_lt at (length cards)) _ _
          (λ t. absurd (omega (arith, f.end, ltb→lt at (length cards) t)))
          (λ _. tested (Fair cards c) _ _ _ tt (λ t. added (λ i l. eqb-false _ _ (f.none i l)) (ltb→lt _ _ t)))
