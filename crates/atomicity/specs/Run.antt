-- One step from a good state, whatever the command; and the fresh ring is good. Assumes nothing.
use Rattle.std.specs.Prelude.{◌≡◌, refl, ◌⊎◌, ◌≢◌, T, nat_lt, nat_eq, length}
use Rattle.std.proofs.Common.{sym, ◌∙◌, ap, subst, inl, inr, arith, eqb→eq, lt→ltb, length-append, get_or-set_same, get_or-set_other, get_or-take, length-take-le, take_at, drop_at}
use mathlib.Core.Bool.{Bool, true, false, ◌&&◌}
use mathlib.Core.List.{List, [], ◌∷◌, ◌++◌, map, map-append}
use Prim.Native.Nat.{ℕ, suc, ◌+◌, ◌<◌}
use Rattle.std.proofs.Math.Decide.{ℕ_discrete}
use Rattle.std.proofs.Math.Nat.{add-zero}
use Rattle.std.proofs.Math.Dec.{ltb→lt}
use Rattle.std.proofs.Math.ListN.{get_or, take, drop, get_or-map}
use Rattle.std.proofs.lemmas.List.{length-map}
use Rattle.std.proofs.Math.Seq.{split_at, append_snoc}
use Rattle.lists.specs.Basics.{when◌then◌else◌}
use Rattle.lists.specs.Choice.{choose, granted, tested}
use Rattle.lists.specs.Members.{mem_mid, all_at, get_d_any, by_row}
use Rattle.lists.specs.Search.{Located, Missed, search_ends}
use Rattle.lists.specs.Tests.{and_left, and_right, and_both, →eqb, true_T, T_true}
use Rattle.protocol.specs.declared.Row.{Row}
use Rattle.protocol.specs.declared.refusal.Refusal.TheVariants.{NoHub, NoMessage, NoOperation}
use Rattle.protocol.specs.Names.{INSIDE, OUTSIDE}
use Rattle.protocol.specs.Record.{round, State, count, row, identifier, message, no_message, outside, without_message}
use Rattle.protocol.specs.Fresh.{alone, founded_by, fresh}
use Rattle.protocol.specs.Kinds.{handle}
use Rattle.protocol.specs.Step as step
use Rattle.protocol.specs.Step.{Result, refused, accepted, conclude, on_link, oldest, delivered}
use Rattle.protocol.specs.Membership.{founding_members, mark}
use Rattle.atomicity.specs.Members.{mark_head, mark_tail}
use Rattle.atomicity.specs.Neighbours.{PredL}
use Rattle.atomicity.specs.Invariant.{Hubs, Msg, erase, from, to, join_done, Inv}
use Rattle.atomicity.specs.OneStep.{Clear}
use Rattle.atomicity.specs.Good.{row_of, core_of, hubs, kept_names, Numbers, Holds, Good, Fine, fine_refused, fine_accepted, fine_next, not_refused}
use Rattle.atomicity.specs.Deliver.{deliver_fine}
use Rattle.atomicity.specs.Commands.{ask_fine, join_fine, leave_fine}
use Rattle.atomicity.specs.Preserved.{founder_name, length_founded}

-- message j of the record, among the messages with their participants
pub record Oldest (ms : List Msg) (s : State) (x y j : ℕ) : Type 0 where
  pub pre : List Msg
  pub msg : Msg
  pub post : List Msg
  pub whole : ms ≡ pre ++ (msg ∷ post)
  pub is : message s j ≡ erase msg
  pub rest : (without_message s j).messages ≡ map erase pre ++ map erase post
  pub clear : Clear msg pre
  pub src : from msg ≡ x
  pub dst : to msg ≡ y

abbrev any : Msg
any = join_done 0 0

module _ (s : State) (ms : List Msg) (same : s.messages ≡ map erase ms) (x y : ℕ) where
  size : length s.messages ≡ length ms
  size = ap length same ∙ length-map ms erase

  message_is : (i : ℕ) → i < length ms → message s i ≡ erase (get_or ms i any)
  message_is i l =
      ap (λ z. get_or z i no_message) same
      ∙ get_d_any (map erase ms) i no_message (erase any) (omega (arith, length-map ms erase))
      ∙ get_or-map erase ms i any

  on_link_lem : (i : ℕ) → i < length ms → from (get_or ms i any) ≡ x → to (get_or ms i any) ≡ y → on_link s x y i ≡ true
  unfolding on_link
  on_link_lem i l p q =
      T_true _ (and_both (nat_eq (message s i).from x) (nat_eq (message s i).to y)
      (→eqb _ x (ap (λ z. z.from) (message_is i l) ∙ p)) (→eqb _ y (ap (λ z. z.to) (message_is i l) ∙ q)))

  -- what a search finds is the oldest of its link
  located_is : Located (on_link s x y) (length s.messages) → Oldest ms s x y (oldest s x y)
  unfolding on_link
  located_is k = record {
    pre = take j ms;
    msg = get_or ms j any;
    post = drop (suc j) ms;
    whole = split_at ms j any lj;
    is = message_is j lj;
    rest = rest;
    clear = all_at _ (take j ms) any (λ i l. earlier i (omega (arith, lt)));
    src = src;
    dst = dst;
  }
    where
      j : ℕ
      j = oldest s x y

      lj : j < length ms
      lj = omega (arith, k.below, size)

      lt : length (take j ms) ≡ j
      lt = length-take-le j ms (omega (arith, lj))

      here : T (nat_eq (message s j).from x && nat_eq (message s j).to y)
      here = true_T _ k.here

      src : from (get_or ms j any) ≡ x
      src = sym (ap (λ z. z.from) (message_is j lj)) ∙ eqb→eq _ x (and_left (nat_eq (message s j).from x) (nat_eq (message s j).to y) here)

      dst : to (get_or ms j any) ≡ y
      dst = sym (ap (λ z. z.to) (message_is j lj)) ∙ eqb→eq _ y (and_right (nat_eq (message s j).from x) (nat_eq (message s j).to y) here)

      earlier : (i : ℕ) → i < j → from (get_or (take j ms) i any) ≡ from (get_or ms j any) → to (get_or (take j ms) i any) ≡ to (get_or ms j any) → ⊥
      earlier i l p q =
          let e = get_or-take j ms i any l in
          let z : ◌≡◌ {A = Bool} true false = sym (on_link_lem i (omega (arith, lj)) (sym (ap from e) ∙ p ∙ src) (sym (ap to e) ∙ q ∙ dst)) ∙ k.before i l in
          mathlib.Core.Bool.true≢false z

      pl : length (map erase (take j ms)) ≡ j
      pl = length-map (take j ms) erase ∙ lt

      split : s.messages ≡ map erase (take j ms) ++ (erase (get_or ms j any) ∷ map erase (drop (suc j) ms))
      split = same ∙ ap (map erase) (split_at ms j any lj) ∙ map-append erase (take j ms) (get_or ms j any ∷ drop (suc j) ms)

      rest : take j s.messages ++ drop (j + 1) s.messages ≡ map erase (take j ms) ++ map erase (drop (suc j) ms)
      rest = ap (λ z. take j z ++ drop (j + 1) z) split
          ∙ ap (λ z. z ++ drop (j + 1) (map erase (take j ms) ++ (erase (get_or ms j any) ∷ map erase (drop (suc j) ms)))) (take_at (map erase (take j ms)) _ j pl)
          ∙ ap (λ z. map erase (take j ms) ++ z)
          (ap (drop (j + 1)) (sym (append_snoc (map erase (take j ms)) (erase (get_or ms j any)) (map erase (drop (suc j) ms))))
          ∙ drop_at (map erase (take j ms) ++ (erase (get_or ms j any) ∷ [])) (map erase (drop (suc j) ms)) (j + 1)
          (length-append (map erase (take j ms)) (erase (get_or ms j any) ∷ []) ∙ ap (λ z. z + 1) pl))

-- 1 for an ask
abbrev pub question : ℕ → ℕ
question operation = when nat_eq operation 0 then 1 else 0

module _ (id : ℕ → ℕ) (small : (h : ℕ) → id h < round) (c : ℕ) (inj : (a b : ℕ) → a < c → b < c → id a ≡ id b → a ≡ b)
    (s : State) (members ks : List ℕ) (G : Good id c s members ks) where
  abbrev Right : ℕ → Bool → Result → Type 0
  Right q b r = Fine id c members ks q b r

  abbrev Ends : ℕ → ℕ → Type 0
  Ends x y = Located (on_link s x y) (length s.messages) ⊎ Missed (on_link s x y) (length s.messages)

  -- a delivery on a link where something waits is not refused
  pub delivered_fine : (x y : ℕ) → Located (on_link s x y) (length s.messages) → Right s.asked false (step.deliver s x y)
  unfolding step.deliver delivered
  delivered_fine x y k =
      granted (Right s.asked false) _ _ _
      (and_both (nat_lt x (count s)) (nat_lt y (count s)) (lt→ltb x (count s) (omega (arith, rw o.src at N.src, size'))) (lt→ltb y (count s) (omega (arith, rw o.dst at N.dst, size'))))
      (granted (Right s.asked false) _ _ _ (lt→ltb _ _ k.below)
      (subst (λ z. Right s.asked false (conclude (without_message s j) y (handle (identifier s (row s y).pred) (row s y) (row s z.a) z))) (sym o.is)
      (subst (λ z. Right s.asked false (conclude (record { rows = s.rows; messages = z; asked = s.asked }) y (handle (identifier s (row s y).pred) (row s y) (row s (erase o.msg).a) (erase o.msg)))) (sym o.rest)
      (subst (λ z. Right s.asked false (conclude (record { rows = s.rows; messages = map erase o.pre ++ map erase o.post; asked = s.asked }) z (handle (identifier s (row s z).pred) (row s z) (row s (erase o.msg).a) (erase o.msg)))) o.dst
      (deliver_fine id small c inj s.rows s.asked members ks o.pre o.post o.msg o.clear H)))))
    where
      j : ℕ
      j = oldest s x y

      o : Oldest G.ms s x y j
      o = located_is s G.ms G.same x y k

      H : Holds id c s.rows s.asked members ks (o.pre ++ (o.msg ∷ o.post))
      H = subst (Holds id c s.rows s.asked members ks) o.whole G.holds

      N : Numbers c o.msg
      N = H.numbers o.msg (mem_mid o.pre o.msg o.post)

      size' : count s ≡ c
      size' = H.size

  -- what is fine with no refusal is fine
  fine_both : (q : ℕ) (r : Result) → Right q false r → Right q true r
  fine_both q (refused k) f = absurd (not_refused id c members ks q k f)
  fine_both q (accepted a s') f = fine_accepted id c members ks q true a s' (fine_next id c members ks q false a s' f)

  deliver_any : (x y : ℕ) → Ends x y → Right s.asked true (step.deliver s x y)
  unfolding step.deliver
  deliver_any x y (inl k) = fine_both s.asked _ (delivered_fine x y k)
  deliver_any x y (inr k) =
      tested (Right s.asked true) _ _ _ (fine_refused id c members ks s.asked NoHub)
      (λ _. tested (Right s.asked true) _ _ _ (fine_refused id c members ks s.asked NoMessage)
      (λ t. absurd (omega (arith, ltb→lt (oldest s x y) (length s.messages) t, k.end))))

  -- an ask takes a ticket, the other commands do not
  counts : (b : Bool) (x y : Result) → Right (s.asked + 1) true x → Right s.asked true y → Right (s.asked + (when b then 1 else 0)) true (when b then x else y)
  unfolding when◌then◌else◌
  counts true x y f g = f
  counts false x y f g = rw add-zero g

  -- one step, whatever the command
  pub step_fine : (operation x y : ℕ) → y < round → Right (s.asked + question operation) true (step.step s operation x y)
  unfolding step.step
  step_fine operation x y ly =
      counts (nat_eq operation 0) _ _ (ask_fine id small c s members ks G x y ly)
      (choose (Right s.asked true) (nat_eq operation 1) _ _ (λ _. join_fine id small c s members ks G x y)
      (λ _. choose (Right s.asked true) (nat_eq operation 2) _ _ (λ _. leave_fine id small c s members ks G x)
      (λ _. choose (Right s.asked true) (nat_eq operation 3) _ _ (λ _. deliver_any x y (search_ends (on_link s x y) (length s.messages)))
      (λ _. fine_refused id c members ks s.asked NoOperation))))

-- The invariant of a ring in which hub f is alone.
module _ (id : ℕ → ℕ) (c : ℕ) (S : Hubs) (f : ℕ) (lf : f < c)
    (core-f : S.core f ≡ record { state = INSIDE; lock = 0; flag = 0; pred = f; oldpred = 255 })
    (core-off : (h : ℕ) → h ≢ f → S.core h ≡ record { state = OUTSIDE; lock = 0; flag = 0; pred = 255; oldpred = 255 })
    (succ-f : S.succ f ≡ f) (led-f : S.led f ≡ 1) (led_off : (h : ℕ) → h ≢ f → S.led h ≡ 0) where
  alone_inv : Inv round id c S [] []
  alone_inv = record {
    one = by_row f (rw core-f (omega arith)) (λ h ne. rw (core-off h ne) (omega arith));
    count = by_row f (rw core-f (omega arith)) (λ h ne. rw (core-off h ne) (omega arith));
    idle = by_row f
        (λ e. inr (record { state = rw core-f; flag = rw core-f; back = rw core-f (record { low = rw core-f (omega arith); high = rw core-f (omega arith); at = succ-f }) }))
        (λ h ne e. inl (rw (core-off h ne)));
    loc = λ m k. absurd k;
    fwd = by_row f
        (λ l u. record { low = rw (succ-f, core-f) (omega arith); high = rw (succ-f, core-f) (omega arith); knows = λ e. inl (rw (succ-f, core-f)) })
        (λ h ne l u. absurd (omega (arith, rw (core-off h ne) at l)));
    flags = by_row f (inl (rw core-f)) (λ h ne. inl (rw (core-off h ne)));
    member = by_row f
        (rw core-f (record { out = λ e. absurd (omega arith); inside = λ l u. led-f }))
        (λ h ne. rw (core-off h ne) (record { out = λ e. led_off h ne; inside = λ l u. absurd (omega arith) }));
    next = by_row f (λ l e. rw core-f alone_next) (λ h ne l e. absurd (omega (arith, rw (core-off h ne) at l)));
    entry = λ a t p k. absurd k;
    fifo = tt;
    below = by_row f (λ l. lf) (λ h ne l. absurd (omega (arith, rw (core-off h ne) at l)));
  }
    where
      alone_next : PredL round id S.led f f
      alone_next = record { member = led-f; only = λ m l i. elim (ℕ_discrete m f) [ yes e ↦ e | no e ↦ absurd (omega (arith, led_off m e)) ] }

-- The ring that hub f of the identifiers founds.
module _ (ids : List ℕ) (f : ℕ) (lf : f < length ids) where
  abbrev rows : List Row
  rows = founded_by f ids

  abbrev name : ℕ → ℕ
  name h = get_or ids h 0

  pub founder_row : row_of rows f ≡ alone f (name f)
  founder_row = get_or-set_same (map outside ids) f (alone f (name f)) (outside 0) (omega (arith, length-map ids outside))

  pub other_row : (h : ℕ) → h ≢ f → row_of rows h ≡ outside (name h)
  other_row h ne = get_or-set_other (map outside ids) f h (alone f (name f)) (outside 0) ne ∙ get_or-map outside ids h 0

  led_off : (h : ℕ) → h ≢ f → mark (f ∷ []) h ≡ 0
  unfolding mark
  led_off h ne = mark_tail [] f h ne

  founded_good : Good name (length ids) (record { rows = rows; messages = []; asked = 0 }) (f ∷ []) []
  founded_good = record {
    ms = [];
    same = refl;
    holds = record {
      inv = alone_inv name (length ids) (hubs rows (mark (f ∷ []))) f lf (ap core_of founder_row) (λ h ne. ap core_of (other_row h ne)) (ap (λ h. h.succ) founder_row) (mark_head [] f) led_off;
      size = length_founded ids f;
      names = kept_names (map outside ids) f (alone f (name f)) name (founder_name ids f) (λ h. ap (λ z. z.identifier) (get_or-map outside ids h 0));
      once = λ k. omega arith;
      later = λ k l. omega arith;
      sum = omega arith;
      numbers = λ m k. absurd k;
    };
  }

-- The fresh ring is good, with its founder alone in the ledger.
pub fresh_good : (ids : List ℕ) (f : ℕ) → f < length ids → Good (λ h. get_or ids h 0) (length ids) (fresh ids f) (founding_members f) []
unfolding fresh
fresh_good ids f below = founded_good ids f below
