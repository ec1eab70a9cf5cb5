-- The words of every reached record have 32 bits, so they can travel as bytes. Assumes nothing.
use Rattle.std.specs.Prelude.{◌≡◌, refl, ◌⊎◌, ◌≢◌, Bool, true, false, List, [], ◌∷◌, ◌++◌, map, ℕ, ◌+◌, ◌≤◌, ◌<◌, T, nat_eq, length, get_or, drop, replicate}
use Rattle.std.proofs.Common.{sym, ◌∙◌, ap, subst, inl, inr, arith, ltb→lt}
use Rattle.std.proofs.Math.Decide.{dec_le, ℕ_discrete}
use Rattle.lists.specs.Basics.{when◌then◌else◌, flat, Mem, All}
use Rattle.lists.specs.Choice.{tested}
use Rattle.lists.specs.Members.{all_drop, all_append, all_replicate, place}
use Rattle.lists.specs.Blocks.{all_flat}
use Rattle.protocol.specs.declared.Row.{Row}
use Rattle.protocol.specs.declared.Message.{Message}
use Rattle.protocol.specs.declared.Route.{Route}
use Rattle.protocol.specs.declared.Route.TheVariants.{Own, To}
use Rattle.protocol.specs.Names.{INSIDE, LOOKUP}
use Rattle.protocol.specs.Record.{round, form, most_nodes, record_size, none, State, count, outside, row_words, message_words, unused_row_words, unused_message_words, words}
use Rattle.protocol.specs.WellFormed.{names_node}
use Rattle.protocol.specs.Fresh.{fresh}
use Rattle.protocol.specs.Step as step
use Rattle.protocol.specs.Step.{Result, refused, accepted, asking}
use Rattle.layout.specs.Words.{drop_words}
use Rattle.layout.specs.Form.{RowForm, MessageForm, Form}
use Rattle.atomicity.specs.Invariant.{Msg, erase}
use Rattle.atomicity.specs.Good.{Good, Fine, fine_next}
use Rattle.atomicity.specs.Run.{question, step_fine}
use Rattle.atomicity.specs.Demand3.{Call, Event, Word, present, called, record_after, Founded, from_fresh}
use Rattle.atomicity.specs.Engines.{On, present_laws}
use Rattle.atomicity.specs.Record.{step_sound, fresh_sound}
use Rattle.atomicity.specs.Theorem.{Course, Keeps, Kept as Held, reached_course}

-- A state's words, part by part.
row_words_lem : (n : ℕ) (h : Row) → n ≤ most_nodes → RowForm n h → h.identifier < round → All Word (row_words h)
row_words_lem n h few r i = (
  i,
  (omega (arith, r.state), (omega (arith, r.lock), (flag r.flag, (pointers.0, (pointers.1, (old r.flag, tt)))))),
)
  where
    -- none, or a hub
    pointers : (h.pred < round) × (h.succ < round)
    pointers =
        elim (dec_le INSIDE h.state) [
          | yes l ↦ (omega (arith, (r.linked l).0), omega (arith, (r.linked l).1))
          | no l ↦ (omega (arith, (r.unlinked (omega arith)).0), omega (arith, (r.unlinked (omega arith)).1))
        ]

    flag : ((h.flag ≡ 0) × (h.oldpred ≡ none)) ⊎ ((h.flag ≡ 1) × (h.state ≡ INSIDE) × (h.lock ≡ 1) × (h.oldpred < n)) → h.flag < round
    flag (inl x) = omega (arith, x.0)
    flag (inr x) = omega (arith, x.0)

    old : ((h.flag ≡ 0) × (h.oldpred ≡ none)) ⊎ ((h.flag ≡ 1) × (h.state ≡ INSIDE) × (h.lock ≡ 1) × (h.oldpred < n)) → h.oldpred < round
    old (inl x) = omega (arith, x.1)
    old (inr x) = omega (arith, x.3)

message_words_lem : (n asked : ℕ) (m : Message) → n ≤ most_nodes → asked < round → MessageForm n asked m → (m.kind ≡ LOOKUP → m.a < round) → All Word (message_words m)
message_words_lem n asked m few l r p = (
  omega (arith, r.high),
  (omega (arith, r.from), (omega (arith, r.to), (a (ℕ_discrete m.kind LOOKUP) (names_node m.kind) (λ t. r.node t) (λ f. r.zero f), (b (ℕ_discrete m.kind LOOKUP), (hops (ℕ_discrete m.kind LOOKUP), tt))))),
)
  where
    a : Dec (m.kind ≡ LOOKUP) → (k : Bool) → (T k → m.kind ≢ LOOKUP → m.a < n) → (¬ T k → m.kind ≢ LOOKUP → m.a ≡ 0) → m.a < round
    a (yes e) k f g = p e
    a (no e) true f g = omega (arith, f tt e)
    a (no e) false f g = omega (arith, g (λ t. t) e)

    b : Dec (m.kind ≡ LOOKUP) → m.b < round
    b (yes e) = omega (arith, (r.lookup e).0)
    b (no e) = omega (arith, (r.plain e).0)

    hops : Dec (m.kind ≡ LOOKUP) → m.hops < round
    hops (yes e) = omega (arith, (r.lookup e).1)
    hops (no e) = omega (arith, (r.plain e).1)

state_words : (s : State) → Form s → s.asked < round → ((h : Row) → Mem h s.rows → h.identifier < round)
    → ((m : Message) → Mem m s.messages → m.kind ≡ LOOKUP → m.a < round) → All Word (words s)
unfolding words
state_words s f l names points =
    let after : List ℕ = replicate (unused_message_words (length s.messages)) 0 in
    let messages : List ℕ = flat message_words s.messages in
    let between : List ℕ = replicate (unused_row_words (count s)) 0 in
    let rows : List ℕ = flat row_words s.rows in
    all_append Word (form ∷ count s ∷ length s.messages ∷ s.asked ∷ []) (rows ++ (between ++ (messages ++ after)))
    (omega arith, (omega (arith, f.few), (omega (arith, f.short), (l, tt))))
    (all_append Word rows (between ++ (messages ++ after))
    (all_flat row_words Word s.rows (λ h k. row_words_lem (count s) h f.few (f.rows h k) (names h k)))
    (all_append Word between (messages ++ after) (all_replicate Word (unused_row_words (count s)) 0 (omega arith))
    (all_append Word messages after
    (all_flat message_words Word s.messages (λ m k. message_words_lem (count s) s.asked m f.few l (f.messages m k) (points m k)))
    (all_replicate Word (unused_message_words (length s.messages)) 0 (omega arith)))))

-- Of a good state.
module _ (id : ℕ → ℕ) (c : ℕ) (small : (h : ℕ) → id h < round) (s : State) (members ks : List ℕ) (G : Good id c s members ks) where
  names_small : (h : Row) → Mem h s.rows → h.identifier < round
  names_small h k =
      let p = place h s.rows (outside 0) k in
      omega (arith, small p.0, G.holds.names p.0, ap (λ z. z.identifier) p.2)

  points_small : (m : Message) → Mem m s.messages → m.kind ≡ LOOKUP → m.a < round
  points_small m k = go G.ms (λ x j. (G.holds.numbers x j).point) (subst (Mem m) G.same k)
    where
      go : (ms : List Msg) → ((x : Msg) → Mem x ms → (erase x).kind ≡ LOOKUP → (erase x).a < round) → Mem m (map erase ms) → m.kind ≡ LOOKUP → m.a < round
      go (x ∷ ms) p (inl e) = subst (λ z. z.kind ≡ LOOKUP → z.a < round) (sym e) (p x (inl refl))
      go (x ∷ ms) p (inr j) = go ms (λ y i. p y (inr i)) j
      go [] p j = absurd j

-- The number of questions stays below 2^32: an ask that would pass it is refused.
abbrev Few : List ℕ → State → Type 0
Few members s = s.asked < round

module _ (s : State) where
  asking_room : (x v : ℕ) (z : Route) → s.asked < 4294967295 → On (λ t. s.asked < 4294967295) (asking s x v z)
  unfolding asking
  asking_room x v Own l = l
  asking_room x v (To z) l = tested (On (λ t. s.asked < 4294967295)) _ _ _ tt (λ t. l)

  ask_room : (x v : ℕ) → On (λ t. s.asked < 4294967295) (step.ask s x v)
  unfolding step.ask
  ask_room x v =
      tested (On (λ t. s.asked < 4294967295)) _ _ _ tt
      (λ a. tested (On (λ t. s.asked < 4294967295)) _ _ _ tt
      (λ b. tested (On (λ t. s.asked < 4294967295)) _ _ _ tt
      (λ t. asking_room x v _ (ltb→lt s.asked 4294967295 t))))

on_all : {P : Type 0} → P → (r : Result) → On (λ t. P) r
on_all p (refused k) = tt
on_all p (accepted a s) = p

on_map : {P Q : Type 0} → (P → Q) → (r : Result) → On (λ t. P) r → On (λ t. Q) r
on_map f (refused k) l = tt
on_map f (accepted a s) l = f l

few_asked : (s : State) (operation x y : ℕ) → s.asked < round → On (λ t. s.asked + question operation < round) (step.step s operation x y)
unfolding step.step when◌then◌else◌
few_asked s operation x y l = go (nat_eq operation 0) _ _ (ask_room s x y)
  where
    go : (b : Bool) (r t : Result) → On (λ z. s.asked < 4294967295) r → On (λ z. s.asked + (when b then 1 else 0) < round) (when b then r else t)
    go true r t k = on_map (λ j. omega arith) r k
    go false r t k = on_all (omega arith) t

few_kept : (ids : List ℕ) → Keeps ids Few
few_kept ids ring s members ks f G p operation x y ly =
    go (step.step s operation x y)
    (step_fine _ ring.small (length ids) ring.inj s members ks G operation x y ly) (few_asked s operation x y p)
  where
    go : (r : Result) → Fine (λ h. get_or ids h 0) (length ids) members ks (s.asked + question operation) true r → On (λ t. s.asked + question operation < round) r
        → Held ids Few members r
    go (refused k) n l = tt
    go (accepted a t) n l = omega (arith, (fine_next _ (length ids) members ks (s.asked + question operation) true a t n).asked)

-- The words behind the record stay as they were.
later : (w : List ℕ) (calls : List Call) → drop record_size (record_after present w calls) ≡ drop record_size w
unfolding record_after
later w [] = refl
later w (c ∷ calls) = later (called present w c).slice calls ∙ (step_sound w c.operation c.x c.y).0.later

-- Where the lent slice has words of 32 bits, so has every record that is reached in it.
pub reached_words : {ids : List ℕ} {founder : ℕ} {events : List Event} {w : List ℕ} (r : Founded present ids founder events w) → All Word r.slice → All Word w
unfolding fresh
reached_words {ids} {founder} {events} {w} r lent =
    subst (All Word) (sym k.is)
    (all_append Word (words s) k.tail
    (state_words s f k.also (names_small _ _ k.ring.small s _ _ k.good) (points_small _ _ k.ring.small s _ _ k.good))
    (subst (All Word) (sym tail) (all_drop Word record_size r.slice lent)))
  where
    k : Course ids founder present present_laws Few events w
    k = reached_course ids founder Few (few_kept ids) (λ g. omega arith) events w (from_fresh r)

    s : State
    s = k.state

    f : Form s
    f = k.fits

    tail : k.tail ≡ drop record_size r.slice
    tail =
        sym (drop_words s k.tail f.few f.short)
        ∙ ap (drop record_size) (sym k.is ∙ r.is)
        ∙ later _ r.calls
        ∙ (fresh_sound r.slice ids founder).0.later
