-- Who owns a machine, as the code finds it: by tables of identifiers and of each hub's reach. Assumes nothing.
use Rattle.std.specs.Prelude.{◌≡◌, refl, ◌⊎◌, Option, Some, None, MatchOption, IsSome, List, zip, fold, take, min, nat_le, nat_lt, nat_eq, length, replicate}
use Rattle.std.proofs.Common.{sym, ◌∙◌, ap, ap₂, subst, inl, inr, mod-eq_of_lt, arith, leb→le, le→leb, eqb→eq}
use mathlib.Core.Bool.{Bool, true, false, ◌&&◌}
use Prim.Native.Nat.{ℕ, zero, suc, ◌+◌, ◌%◌, ◌≤◌, ◌<◌}
use Rattle.std.proofs.Math.Decide.{dec_lt}
use Rattle.std.proofs.Math.Dec.{nleb→lt}
use Rattle.std.proofs.Math.ListN.{get_or, get_or-map}
use Rattle.std.proofs.lemmas.List.{length-map}
use Rattle.std.specs.List.{position_or_len, range_with_len}
use Rattle.std.proofs.lemmas.List.FromFn.{length-range_with_len, get_or-range_with_len}
use Rattle.wellformed.specs.Laws.{fold_every}
use Rattle.lists.specs.Blocks.{table_of}
use Rattle.std.proofs.lemmas.List.Sums.{position_or_len_is, fold_more}
use Rattle.std.proofs.Math.Seq.{take-length}
use Rattle.std.proofs.lemmas.Slice.Zip.{get_or-zip, length-zip}
use Rattle.std.proofs.Common.{cond, lt-ltb, le-ltb, add-one}
use Rattle.clockwise.specs.Clockwise.{dist}
use Rattle.clockwise.specs.Laws.{dist_lt}
use Rattle.lists.specs.Basics.{when◌then◌else◌, first, every, table}
use Rattle.lists.specs.Choice.{choose, passes}
use Rattle.lists.specs.Members.{distinct_apart}
use Rattle.lists.specs.Search.{Located, Missed, search_ends}
use Rattle.lists.specs.Tests.{says_and, says_as, says_same, says_eq, says_lt, says_le, →eqb, and_left, and_right, and_both, T_true, true_T}
use Rattle.lists.specs.Merge.{every_none, every_more, every_last}
use Rattle.protocol.specs.Record.{round, most_nodes, row_start, count_in, outside, row, read}
use Rattle.protocol.specs.WellFormed.{identifiers}
use Rattle.protocol.specs.Cards.{card_start, card_from, marked, home}
use Rattle.layout.specs.Words.{row_of_read, row_beyond, count_of_read}
use Rattle.layout.specs.Form.{Form}
use Rattle.layout.specs.Owners.{Names, owner_is}
use Rattle.cardlayout.specs.Marks.{home_is, Marked, mem_marked, marked_mem}
use Rattle.cardlayout.specs.Reach.{top, gap, least, least_none, least_more, least_says, gap_to, reach, reach_owns, owns_reach, owner_of}
use Rattle.cardlayout.specs.Sound.{MarksForm}

-- The identifiers of the record, copied side by side.
pub record Copied (names ids : List ℕ) : Type 0 where
  pub at : (i : ℕ) → get_or names i 0 ≡ get_or ids i 0

pub copied : (w names : List ℕ) → ((i : ℕ) → i < count_in w → get_or names i 0 ≡ get_or w (row_start i) 0) → ((i : ℕ) → count_in w ≤ i → get_or names i 0 ≡ 0)
    → Copied names (identifiers (read w))
copied w names f g = record { at = λ i. go i (dec_lt i (count_in w)) ∙ sym (get_or-map (λ h. h.identifier) (read w).rows i (outside 0)) }
  where
    go : (i : ℕ) → Dec (i < count_in w) → get_or names i 0 ≡ (row (read w) i).identifier
    go i (yes l) = f i l ∙ sym (ap (λ h. h.identifier) (row_of_read w i l))
    go i (no l) = g i (omega arith) ∙ sym (ap (λ h. h.identifier) (row_beyond w i (omega arith)))

-- Identifiers of a well-formed record: they differ, and are words.
pub names_of : (w : List ℕ) → Form (read w) → ((i : ℕ) → get_or w i 0 < round) → Names (identifiers (read w))
names_of w f small = record {
  small = λ h. subst (λ z. z < round) (sym (get_or-map (λ h. h.identifier) (read w).rows h (outside 0))) (go h (dec_lt h (count_in w)));
  apart = distinct_apart (identifiers (read w)) f.differ;
}
  where
    go : (h : ℕ) → Dec (h < count_in w) → (row (read w) h).identifier < round
    go h (yes l) = omega (arith, ap (λ z. z.identifier) (row_of_read w h l), small (row_start h))
    go h (no l) = omega (arith, ap (λ z. z.identifier) (row_beyond w h (omega arith)))

pub ids_size : (w : List ℕ) → length (identifiers (read w)) ≡ count_in w
ids_size w = length-map (read w).rows (λ h. h.identifier) ∙ count_of_read w

-- Whether the card of machine v with this hub is at home, by the tables.
unfoldable pub at_home : List ℕ → List ℕ → List ℕ → ℕ → ℕ → Bool
at_home names marks reaches v hub =
    nat_lt hub 64 && nat_eq (get_or marks (hub % 64) 0) 1 && nat_le (dist round v (get_or names (hub % 64) 0)) (get_or reaches (hub % 64) 0)

-- The distance of the nearest member, and who that is.
unfoldable pub far_to : List ℕ → List ℕ → ℕ → ℕ → ℕ
far_to names marks v m = when nat_eq (get_or marks m 0) 1 then dist round v (get_or names m 0) else top

unfoldable pub closest : List ℕ → List ℕ → ℕ → ℕ
closest names marks v = least (far_to names marks v) (length marks)

unfoldable pub is_close : List ℕ → List ℕ → ℕ → ℕ → ℕ → Bool
is_close names marks v d m = nat_eq (get_or marks m 0) 1 && nat_le (dist round v (get_or names m 0)) d

unfoldable pub nearest : List ℕ → List ℕ → ℕ → ℕ
nearest names marks v = first (is_close names marks v (closest names marks v)) (length marks)

-- the least number is one of them, or top
attained : (f : ℕ → ℕ) (n : ℕ) → (least f n ≡ top) ⊎ ((i : ℕ) × (i < n) × (f i ≡ least f n))
unfolding least
attained f zero = inl refl
attained f (suc n) =
    choose (λ z. (z ≡ top) ⊎ ((i : ℕ) × (i < suc n) × (f i ≡ z))) (nat_le (least f n) (f n)) (least f n) (f n)
    (λ _. elim (attained f n) [ inl e ↦ inl e | inr r ↦ inr (r.0, omega (arith, r.1), r.2) ])
    (λ _. inr (n, omega arith, refl))

least_cong : (f g : ℕ → ℕ) (n : ℕ) → ((i : ℕ) → f i ≡ g i) → least f n ≡ least g n
unfolding least
least_cong f g zero e = refl
least_cong f g (suc n) e = ap (λ z. when nat_le z (f n) then z else f n) (least_cong f g n e) ∙ ap (λ z. when nat_le (least g n) z then least g n else z) (e n)

-- Where a hub is marked, one of the marked hubs is at the least distance, and the search for the nearest ends there.
module _ (names marks : List ℕ) (v : ℕ) (lv : v < round) (s : ℕ) (k : Marked marks s) where
  at_least : (m : ℕ) × Marked marks m × (dist round v (get_or names m 0) ≤ closest names marks v)
  unfolding closest far_to
  at_least = elim (attained (far_to names marks v) (length marks)) [
    | inl e ↦ (s, k, omega (arith, e, dist_lt round v (get_or names s 0) lv))
    | inr r ↦ one r.0 r.1 r.2
  ]
    where
      one : (i : ℕ) → i < length marks → far_to names marks v i ≡ closest names marks v → (m : ℕ) × Marked marks m × (dist round v (get_or names m 0) ≤ closest names marks v)
      one i l = choose (λ z. z ≡ closest names marks v → (m : ℕ) × Marked marks m × (dist round v (get_or names m 0) ≤ closest names marks v))
          (nat_eq (get_or marks i 0) 1) (dist round v (get_or names i 0)) top
          (λ t e. (i, record { below = l; at = eqb→eq _ 1 t }, omega (arith, e)))
          (λ t e. (s, k, omega (arith, e, dist_lt round v (get_or names s 0) lv)))

  pub nearest_ends : Located (is_close names marks v (closest names marks v)) (length marks)
  unfolding is_close
  nearest_ends = go (search_ends (is_close names marks v (closest names marks v)) (length marks))
    where
      go : Located (is_close names marks v (closest names marks v)) (length marks) ⊎ Missed (is_close names marks v (closest names marks v)) (length marks)
          → Located (is_close names marks v (closest names marks v)) (length marks)
      go (inl f) = f
      go (inr f) =
          let m = at_least in
          absurd (mathlib.Core.Bool.true≢false (sym (T_true _ (and_both (nat_eq (get_or marks m.0 0) 1) (nat_le (dist round v (get_or names m.0 0)) (closest names marks v)) (→eqb _ 1 m.1.at) (le→leb _ _ m.2)))
          ∙ f.none m.0 m.1.below))

  pub nearest_below : nearest names marks v < length marks
  unfolding nearest
  nearest_below = nearest_ends.below

-- the code's reach is that by the ring's identifiers
pub reach_same : (ids names marks : List ℕ) → Copied names ids → (h : ℕ) → reach names marks h ≡ reach ids marks h
unfolding reach gap_to
reach_same ids names marks C h = least_cong (gap_to names marks h) (gap_to ids marks h) (length marks)
    (λ m. ap (λ z. when nat_eq (get_or marks m 0) 1 then gap z (get_or names h 0) else top) (C.at m) ∙ ap (λ z. when nat_eq (get_or marks m 0) 1 then gap (get_or ids m 0) z else top) (C.at h))

module _ (ids names marks : List ℕ) (N : Names ids) (C : Copied names ids) (M : MarksForm (length ids) marks) where
  abbrev id : ℕ → ℕ
  id h = get_or ids h 0

  -- a card is at home, by the tables
  pub home_test : length marks ≡ most_nodes → (reaches : List ℕ) → ((h : ℕ) → Marked marks h → get_or reaches h 0 ≡ reach names marks h)
      → (v hub : ℕ) → v < round → at_home names marks reaches v hub ≡ nat_eq hub (home ids (marked marks) v)
  unfolding at_home
  home_test size reaches table v hub lv =
      says_same
      (says_and (says_and (says_lt hub 64) (says_eq (get_or marks (hub % 64) 0) 1)) (says_le (dist round v (get_or names (hub % 64) 0)) (get_or reaches (hub % 64) 0)))
      (says_as (says_eq hub (home ids (marked marks) v)) back (λ k. there k))
    where
      Passed : Type 0
      Passed = ((hub < 64) × (get_or marks (hub % 64) 0 ≡ 1)) × (dist round v (get_or names (hub % 64) 0) ≤ get_or reaches (hub % 64) 0)

      there : Passed → hub ≡ home ids (marked marks) v
      there k =
          let e : hub % 64 ≡ hub = mod-eq_of_lt {n = hub} {m = 64} k.0.0 in
          let m : Marked marks hub = record { below = omega (arith, size, k.0.0); at = subst (λ z. get_or marks z 0 ≡ 1) e k.0.1 } in
          let l : dist round v (id hub) ≤ reach ids marks hub =
          omega (arith, subst (λ z. dist round v (get_or names z 0) ≤ get_or reaches z 0) e k.1, ap (dist round v) (C.at hub), table hub m, reach_same ids names marks C hub) in
          sym (home_is (reach_owns ids marks N M.below hub v lv m l))

      back : hub ≡ home ids (marked marks) v → Passed
      back e =
          let s = M.some in
          let o = owner_of ids marks N M.below s.0 v s.1 in
          let q : hub ≡ o.0 = e ∙ home_is o.1 in
          let m = mem_marked marks o.0 o.1.member in
          let l : hub < 64 = omega (arith, m.below, size) in
          let r : hub % 64 ≡ hub = mod-eq_of_lt {n = hub} {m = 64} l in
          let w = owns_reach ids marks N M.below o.0 v lv (λ k i. o.1.least k (marked_mem marks k i)) in (
            (l, subst (λ z. get_or marks z 0 ≡ 1) (sym (r ∙ q)) m.at),
            subst (λ z. dist round v (get_or names z 0) ≤ get_or reaches z 0) (sym (r ∙ q))
                (omega (arith, ap (dist round v) (C.at o.0), table o.0 m, reach_same ids names marks C o.0)),
          )

  -- the nearest member is the owner
  pub nearest_home : (v : ℕ) → v < round → nearest names marks v ≡ home ids (marked marks) v
  unfolding nearest is_close closest far_to
  nearest_home v lv =
      let d = closest names marks v in
      let h = nearest names marks v in
      let f = nearest_ends names marks v lv M.some.0 M.some.1 in
      let t = true_T _ f.here in
      let m : Marked marks h = record { below = f.below; at = eqb→eq _ 1 (and_left (nat_eq (get_or marks h 0) 1) _ t) } in
      let l = leb→le (dist round v (get_or names h 0)) d (and_right (nat_eq (get_or marks h 0) 1) _ t) in
      sym (home_is (owner_is ids (marked marks) N (λ x i. M.below x (mem_marked marks x i)) v h lv (marked_mem marks h m)
      (λ x i. omega (arith, l, near v x (mem_marked marks x i), ap (dist round v) (C.at h)))))
    where
      near : (v m : ℕ) → Marked marks m → closest names marks v ≤ dist round v (id m)
      near v m k =
          let l = (least_says (far_to names marks v) (length marks) (closest names marks v) (omega arith)).1 m k.below in
          passes (λ z. closest names marks v ≤ z → closest names marks v ≤ dist round v (id m)) (nat_eq (get_or marks m 0) 1) (dist round v (get_or names m 0)) top (→eqb _ 1 k.at)
          (λ z. omega (arith, ap (dist round v) (C.at m))) l

-- What the code gives: the nearest node, or none.
abbrev pub Nearest : List ℕ → List ℕ → ℕ → Option ℕ → Type 0
Nearest names marks v r = MatchOption r (nearest names marks v ≡ length marks) (λ m. (m ≡ nearest names marks v) × (m < length marks))

-- The search as the code makes it, over marks and identifiers side by side.
abbrev pub by_side : ℕ → ℕ → ℕ × ℕ → Bool
by_side v d p = nat_eq p.0 1 && nat_le (dist round v p.1) d

module _ (names marks : List ℕ) (v : ℕ) (long : length marks ≤ length names) where
  pairs_size : length (zip marks names) ≡ length marks
  pairs_size = omega (arith, length-zip marks names)

  near_at : (d m : ℕ) → m < length marks → by_side v d (get_or (zip marks names) m (0, 0)) ≡ is_close names marks v d m
  unfolding is_close
  near_at d m l = ap (by_side v d) (get_or-zip marks names m (0, 0) l (omega arith))

  near_first : (d : ℕ) → position_or_len (by_side v d) (zip marks names) ≡ first (is_close names marks v d) (length marks)
  near_first d = go (search_ends (is_close names marks v d) (length marks))
    where
      go : Located (is_close names marks v d) (length marks) ⊎ Missed (is_close names marks v d) (length marks)
          → position_or_len (by_side v d) (zip marks names) ≡ first (is_close names marks v d) (length marks)
      go (inl f) =
          position_or_len_is (by_side v d) (zip marks names) (first (is_close names marks v d) (length marks)) (0, 0) (omega (arith, f.below, pairs_size))
          (λ m l. near_at d m (omega (arith, f.below)) ∙ f.before m l)
          (λ _. near_at d (first (is_close names marks v d) (length marks)) f.below ∙ f.here)
      go (inr f) =
          position_or_len_is (by_side v d) (zip marks names) (first (is_close names marks v d) (length marks)) (0, 0) (omega (arith, f.end, pairs_size))
          (λ m l. near_at d m (omega (arith, f.end)) ∙ f.none m (omega (arith, f.end)))
          (λ l. absurd (omega (arith, f.end, pairs_size)))

  pub nearest_law : (d : ℕ) → d ≡ closest names marks v → (r : Option ℕ)
      → r ≡ cond (nat_lt (position_or_len (by_side v d) (zip marks names)) (length (zip marks names))) (Some (position_or_len (by_side v d) (zip marks names))) None
      → Nearest names marks v r
  unfolding nearest
  nearest_law d e r q =
      subst (Nearest names marks v) (sym (q
      ∙ ap₂ (λ a b. cond (nat_lt a b) (Some a) None) (near_first d ∙ ap (λ z. first (is_close names marks v z) (length marks)) e) pairs_size))
      (go (search_ends (is_close names marks v (closest names marks v)) (length marks)))
    where
      go : Located (is_close names marks v (closest names marks v)) (length marks) ⊎ Missed (is_close names marks v (closest names marks v)) (length marks)
          → Nearest names marks v (cond (nat_lt (nearest names marks v) (length marks)) (Some (nearest names marks v)) None)
      go (inl f) = subst (λ z. Nearest names marks v (cond z (Some (nearest names marks v)) None)) (sym (lt-ltb _ _ f.below)) (refl, f.below)
      go (inr f) = subst (λ z. Nearest names marks v (cond z (Some (nearest names marks v)) None)) (sym (le-ltb _ _ (omega (arith, f.end)))) f.end

-- Where a hub is marked, one is found.
pub nearest_found : (names marks : List ℕ) (v : ℕ) → v < round → (s : ℕ) → Marked marks s → (r : Option ℕ) → Nearest names marks v r → IsSome r
nearest_found names marks v lv s k (Some m) n = refl
nearest_found names marks v lv s k None e = absurd (omega (arith, e, nearest_below names marks v lv s k))

-- two tests that say the same of each value of a table
every_same : {A : Type 0} (p q : A → Bool) (g : ℕ → A) (n : ℕ) → ((j : ℕ) → p (g j) ≡ q (g j)) → every p (table n g) ≡ every q (table n g)
unfolding table
every_same p q g zero e = every_none p g ∙ sym (every_none q g)
every_same p q g (suc n) e =
    every_last p (table n g) (g n) ∙ ap₂ (λ a b. a && b) (every_same p q g n e) (e n) ∙ sym (every_last q (table n g) (g n))

-- a test of the first n places, one after the other
pub every_place : {A : Type 0} (t : ℕ → Bool) (p : A → Bool) (g : ℕ → A) (n : ℕ) → ((j : ℕ) → t j ≡ p (g j)) → fold (λ ok j. ok && t j) true (range_with_len 0 n) ≡ every p (table n g)
every_place t p g n e = fold_every t true (range_with_len 0 n) ∙ ap (every t) (sym places) ∙ up n
  where
    places : table n (λ j. j) ≡ range_with_len 0 n
    places =
        table_of (range_with_len 0 n) 0 (λ j. j) n (omega (arith, length-range_with_len 0 n)) (λ i l. omega (arith, get_or-range_with_len 0 n i 0 l))
        ∙ ap (λ z. take z (range_with_len 0 n)) (sym (length-range_with_len 0 n)) ∙ take-length (range_with_len 0 n)

    up : (m : ℕ) → every t (table m (λ j. j)) ≡ every p (table m g)
    up zero = every_none t (λ j. j) ∙ sym (every_none p g)
    up (suc m) =
        ap (λ z. every t (table z (λ j. j))) (sym (add-one m)) ∙ every_more t (λ j. j) m ∙ ap₂ (λ a b. a && b) (up m) (e m)
        ∙ sym (every_more p g m) ∙ ap (λ z. every p (table z g)) (add-one m)

-- Every card is at home.
pub homes_law : (ids names marks : List ℕ) → Names ids → Copied names ids → MarksForm (length ids) marks → length marks ≡ most_nodes
    → (reaches : List ℕ) → ((h : ℕ) → Marked marks h → get_or reaches h 0 ≡ reach names marks h)
    → (k : List ℕ) → ((i : ℕ) → get_or k i 0 < round) → (m : ℕ) (r : Bool)
    → r ≡ every (λ c. at_home names marks reaches c.machine c.hub) (table m (λ j. card_from k (card_start j)))
    → r ≡ every (λ c. nat_eq c.hub (home ids (marked marks) c.machine)) (table m (λ j. card_from k (card_start j)))
homes_law ids names marks N C M size reaches t k small m r e =
    e ∙ every_same (λ c. at_home names marks reaches c.machine c.hub) (λ c. nat_eq c.hub (home ids (marked marks) c.machine)) (λ j. card_from k (card_start j)) m
    (λ j. home_test ids names marks N C M size reaches t (get_or k (card_start j) 0) (get_or k (card_start j + 3) 0) (small (card_start j)))

-- the lesser of two numbers, as a choice
lesser : (a b : ℕ) → min a b ≡ (when nat_le a b then a else b)
lesser a b = choose (λ z. min a b ≡ z) (nat_le a b) a b (λ t. let l = leb→le a b t in omega arith) (λ t. let l = nleb→lt a b t in omega arith)

-- the least so far, and one number more
pub least_next : (f : ℕ → ℕ) (n a b : ℕ) → a ≡ least f n → b ≡ f n → min a b ≡ least f (n + 1)
least_next f n a b p q =
    lesser a b ∙ ap (λ z. when nat_le a z then a else z) q ∙ ap (λ z. when nat_le z (f n) then z else f n) p ∙ sym (least_more f n)

-- the least over marks and identifiers side by side
pub least_pairs : (h : ℕ → ℕ) (marks names : List ℕ) → length marks ≤ length names
    → fold (λ a p. min a (when nat_eq p.0 1 then h p.1 else top)) top (zip marks names) ≡ least (λ m. when nat_eq (get_or marks m 0) 1 then h (get_or names m 0) else top) (length marks)
least_pairs h marks names long =
    ap (fold by top) (sym (take-length (zip marks names)) ∙ ap (λ n. take n (zip marks names)) size) ∙ up (length marks) (omega arith)
  where
    by : ℕ → ℕ × ℕ → ℕ
    by a p = min a (when nat_eq p.0 1 then h p.1 else top)

    size : length (zip marks names) ≡ length marks
    size = omega (arith, length-zip marks names)

    up : (n : ℕ) → n ≤ length marks → fold by top (take n (zip marks names)) ≡ least (λ m. when nat_eq (get_or marks m 0) 1 then h (get_or names m 0) else top) n
    up zero l = sym (least_none _)
    up (suc n) l =
        ap (λ z. fold by top (take z (zip marks names))) (sym (add-one n))
        ∙ fold_more by top (zip marks names) n (0, 0) (omega (arith, size))
        ∙ least_next (λ m. when nat_eq (get_or marks m 0) 1 then h (get_or names m 0) else top) n _ _ (up n (omega arith)) (ap (λ p. when nat_eq p.0 1 then h p.1 else top) (get_or-zip marks names n (0, 0) (omega arith) (omega arith)))
        ∙ ap (least (λ m. when nat_eq (get_or marks m 0) 1 then h (get_or names m 0) else top)) (add-one n)

pub get_or_zeros : (n i : ℕ) → ◌≡◌ {A = ℕ} (get_or (replicate n 0) i 0) 0
get_or_zeros zero i = refl
get_or_zeros (suc n) zero = refl
get_or_zeros (suc n) (suc i) = get_or_zeros n i
