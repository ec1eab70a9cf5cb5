-- What 'well formed' says, of a state and of words, in both directions. Assumes nothing.
use Rattle.std.specs.Prelude.{◌≡◌, ◌⊎◌, ◌≢◌, true, List, ◌++◌, ℕ, zero, suc, ◌≤◌, ◌<◌, T, nat_eq, length, get_or, drop, replicate}
use Rattle.std.proofs.Common.{sym, inl, inr, arith, length-append}
use Rattle.std.proofs.Math.Decide.{dec_le, ℕ_discrete}
use Rattle.lists.specs.Basics.{Mem, every}
use Rattle.lists.specs.Members.{mem_at}
use Rattle.lists.specs.Tests.{Says, says_and, says_or, says_if, says_so, says_le, says_lt, says_eq, says_as, says_every, Distinct, says_distinct, true_T}
use Rattle.protocol.specs.declared.Row.{Row}
use Rattle.protocol.specs.declared.Message.{Message}
use Rattle.protocol.specs.Names.{INSIDE, JOINING, LEAVING, OUTSIDE, LOOKUP}
use Rattle.protocol.specs.Record.{form, most_nodes, most_messages, record_size, unused_row_words, unused_message_words, none, State, count, count_in, messages_in, row, read, words, outside}
use Rattle.protocol.specs.WellFormed.{pointers_ok, lock_ok, flag_ok, row_ok, names_node, a_ok, b_ok, hops_ok, message_ok, identifiers, formed, header_ok, unused_rows, unused_messages, unused_ok, well_formed}
use Rattle.layout.specs.Words.{Tidy, read_words, words_read, count_read, messages_read, form_read, unused_rows_read, unused_messages_read, length_words, count_of_read, messages_of_read}

-- a row, in a ring of n hubs
pub record RowForm (n : ℕ) (h : Row) : Type 0 where
  pub state : h.state ≤ LEAVING
  pub lock : h.lock ≤ 1
  pub unlinked : h.state ≤ JOINING → (h.pred ≡ none) × (h.succ ≡ none)
  pub linked : INSIDE ≤ h.state → (h.pred < n) × (h.succ < n)
  pub out : h.state ≡ OUTSIDE → h.lock ≡ 0
  pub locked : h.state ≢ OUTSIDE → h.state ≢ INSIDE → h.lock ≡ 1
  pub flag : ((h.flag ≡ 0) × (h.oldpred ≡ none)) ⊎ ((h.flag ≡ 1) × (h.state ≡ INSIDE) × (h.lock ≡ 1) × (h.oldpred < n))

-- the three tests of a row, each with what it says
abbrev Pointers : ℕ → Row → Type 0
Pointers n h = (h.state < INSIDE → (h.pred ≡ none) × (h.succ ≡ none)) × (¬ (h.state < INSIDE) → ((h.state ≤ LEAVING) × (h.pred < n)) × (h.succ < n))

says_pointers : (n : ℕ) (h : Row) → Says (pointers_ok n h) (Pointers n h)
unfolding pointers_ok
says_pointers n h =
    says_if (says_lt h.state INSIDE) (says_and (says_eq h.pred none) (says_eq h.succ none))
    (says_and (says_and (says_le h.state LEAVING) (says_lt h.pred n)) (says_lt h.succ n))

abbrev Lock : Row → Type 0
Lock h = (h.state ≡ INSIDE → h.lock < 2) × (¬ (h.state ≡ INSIDE) → (h.state ≡ OUTSIDE → h.lock ≡ 0) × (¬ (h.state ≡ OUTSIDE) → h.lock ≡ 1))

says_lock : (h : Row) → Says (lock_ok h) (Lock h)
unfolding lock_ok
says_lock h =
    says_if (says_eq h.state INSIDE) (says_lt h.lock 2) (says_if (says_eq h.state OUTSIDE) (says_eq h.lock 0) (says_eq h.lock 1))

abbrev Flag : ℕ → Row → Type 0
Flag n h = (h.flag ≡ 0 → h.oldpred ≡ none) × (¬ (h.flag ≡ 0) → (((h.flag ≡ 1) × (h.state ≡ INSIDE)) × (h.lock ≡ 1)) × (h.oldpred < n))

says_flag : (n : ℕ) (h : Row) → Says (flag_ok n h) (Flag n h)
unfolding flag_ok
says_flag n h =
    says_if (says_eq h.flag 0) (says_eq h.oldpred none)
    (says_and (says_and (says_and (says_eq h.flag 1) (says_eq h.state INSIDE)) (says_eq h.lock 1)) (says_lt h.oldpred n))

row_form : (n : ℕ) (h : Row) → (Pointers n h × Lock h) × Flag n h → RowForm n h
row_form n h k = record {
  state = states (dec_le INSIDE h.state);
  lock = locks (ℕ_discrete h.state INSIDE) (ℕ_discrete h.state OUTSIDE);
  unlinked = λ l. k.0.0.0 (omega arith);
  linked = λ l. let b = k.0.0.1 (λ z. omega arith) in (b.0.1, b.1);
  out = λ e. (k.0.1.1 (λ z. omega arith)).0 e;
  locked = λ a b. (k.0.1.1 b).1 a;
  flag = flags (ℕ_discrete h.flag 0);
}
  where
    states : Dec (INSIDE ≤ h.state) → h.state ≤ LEAVING
    states (yes l) = omega (arith, (k.0.0.1 (λ z. omega arith)).0.0)
    states (no l) = omega arith

    locks : Dec (h.state ≡ INSIDE) → Dec (h.state ≡ OUTSIDE) → h.lock ≤ 1
    locks (yes e) _ = omega (arith, k.0.1.0 e)
    locks (no e) (yes f) = omega (arith, (k.0.1.1 e).0 f)
    locks (no e) (no f) = omega (arith, (k.0.1.1 e).1 f)

    flags : Dec (h.flag ≡ 0) → ((h.flag ≡ 0) × (h.oldpred ≡ none)) ⊎ ((h.flag ≡ 1) × (h.state ≡ INSIDE) × (h.lock ≡ 1) × (h.oldpred < n))
    flags (yes e) = inl (e, k.1.0 e)
    flags (no e) = let f = k.1.1 e in inr (f.0.0.0, f.0.0.1, f.0.1, f.1)

form_row : (n : ℕ) (h : Row) → RowForm n h → (Pointers n h × Lock h) × Flag n h
form_row n h r = (
  (
    ((λ l. r.unlinked (omega arith)), λ l. let b = r.linked (omega arith) in ((omega (arith, r.state), b.0), b.1)),
    ((λ e. omega (arith, r.lock)), λ e. (r.out, λ f. r.locked f e)),
  ),
  ((λ e. down e r.flag), λ e. up e r.flag),
)
  where
    down : h.flag ≡ 0 → ((h.flag ≡ 0) × (h.oldpred ≡ none)) ⊎ ((h.flag ≡ 1) × (h.state ≡ INSIDE) × (h.lock ≡ 1) × (h.oldpred < n)) → h.oldpred ≡ none
    down e (inl x) = x.1
    down e (inr x) = absurd (omega (arith, x.0))

    up : ¬ (h.flag ≡ 0) → ((h.flag ≡ 0) × (h.oldpred ≡ none)) ⊎ ((h.flag ≡ 1) × (h.state ≡ INSIDE) × (h.lock ≡ 1) × (h.oldpred < n))
        → (((h.flag ≡ 1) × (h.state ≡ INSIDE)) × (h.lock ≡ 1)) × (h.oldpred < n)
    up e (inl x) = absurd (e x.0)
    up e (inr x) = (((x.0, x.1), x.2), x.3)

pub says_row : (n : ℕ) (h : Row) → Says (row_ok n h) (RowForm n h)
unfolding row_ok
says_row n h = says_as (says_and (says_and (says_pointers n h) (says_lock h)) (says_flag n h)) (row_form n h) (form_row n h)

-- a message, in a ring of n hubs with so many questions asked
pub record MessageForm (n asked : ℕ) (m : Message) : Type 0 where
  pub low : 1 ≤ m.kind
  pub high : m.kind < 15
  pub from : m.from < n
  pub to : m.to < n
  pub node : T (names_node m.kind) → m.kind ≢ LOOKUP → m.a < n
  pub zero : ¬ T (names_node m.kind) → m.kind ≢ LOOKUP → m.a ≡ 0
  pub lookup : m.kind ≡ LOOKUP → (m.b < asked) × (m.hops ≤ 65535)
  pub plain : m.kind ≢ LOOKUP → (m.b ≡ 0) × (m.hops ≡ 0)

-- the tests of a message's fields, each with what it says
abbrev FieldA : ℕ → Message → Type 0
FieldA n m = (m.kind ≡ LOOKUP) ⊎ ((T (names_node m.kind) → m.a < n) × (¬ T (names_node m.kind) → m.a ≡ 0))

says_a : (n : ℕ) (m : Message) → Says (a_ok n m) (FieldA n m)
unfolding a_ok
says_a n m = says_or (says_eq m.kind 1) (says_if (says_so (names_node m.kind)) (says_lt m.a n) (says_eq m.a 0))

abbrev FieldB : ℕ → Message → Type 0
FieldB asked m = (m.kind ≡ LOOKUP → m.b < asked) × (m.kind ≢ LOOKUP → m.b ≡ 0)

says_b : (asked : ℕ) (m : Message) → Says (b_ok asked m) (FieldB asked m)
unfolding b_ok
says_b asked m = says_if (says_eq m.kind 1) (says_lt m.b asked) (says_eq m.b 0)

abbrev FieldHops : Message → Type 0
FieldHops m = (m.kind ≡ LOOKUP → m.hops ≤ 65535) × (m.kind ≢ LOOKUP → m.hops ≡ 0)

says_hops : (m : Message) → Says (hops_ok m) (FieldHops m)
unfolding hops_ok
says_hops m = says_if (says_eq m.kind 1) (says_le m.hops 65535) (says_eq m.hops 0)

pub says_message : (n asked : ℕ) (m : Message) → Says (message_ok n asked m) (MessageForm n asked m)
unfolding message_ok
says_message n asked m =
    says_as
    (says_and (says_and (says_and (says_and (says_and (says_and (says_le 1 m.kind) (says_lt m.kind 15)) (says_lt m.from n)) (says_lt m.to n))
    (says_a n m)) (says_b asked m)) (says_hops m))
    (λ k. record {
      low = k.0.0.0.0.0.0;
      high = k.0.0.0.0.0.1;
      from = k.0.0.0.0.1;
      to = k.0.0.0.1;
      node = λ t ne. elim k.0.0.1 [ inl e ↦ absurd (ne e) | inr a ↦ a.0 t ];
      zero = λ f ne. elim k.0.0.1 [ inl e ↦ absurd (ne e) | inr a ↦ a.1 f ];
      lookup = λ e. (k.0.1.0 e, k.1.0 e);
      plain = λ ne. (k.0.1.1 ne, k.1.1 ne);
    })
    (λ r. (
      (((((r.low, r.high), r.from), r.to), field_a r (ℕ_discrete m.kind LOOKUP)), ((λ e. (r.lookup e).0), λ ne. (r.plain ne).0)),
      ((λ e. (r.lookup e).1), λ ne. (r.plain ne).1),
    ))
  where
    field_a : MessageForm n asked m → Dec (m.kind ≡ LOOKUP) → FieldA n m
    field_a r (yes e) = inl e
    field_a r (no ne) = inr ((λ t. r.node t ne), λ f. r.zero f ne)

-- a state
pub record Form (s : State) : Type 0 where
  pub some : 1 ≤ count s
  pub few : count s ≤ most_nodes
  pub short : length s.messages ≤ most_messages
  pub differ : Distinct (identifiers s)
  pub rows : (h : Row) → Mem h s.rows → RowForm (count s) h
  pub messages : (m : Message) → Mem m s.messages → MessageForm (count s) s.asked m

pub row_at : {s : State} → Form s → (i : ℕ) → i < count s → RowForm (count s) (row s i)
row_at {s} f i l = f.rows (row s i) (mem_at s.rows i (outside 0) l)

abbrev Formed : State → Type 0
Formed s = (Distinct (identifiers s) × ((h : Row) → Mem h s.rows → RowForm (count s) h)) × ((m : Message) → Mem m s.messages → MessageForm (count s) s.asked m)

says_formed : (s : State) → Says (formed s) (Formed s)
unfolding formed
says_formed s =
    says_and (says_and (says_distinct (identifiers s)) (says_every (row_ok (count s)) (RowForm (count s)) (says_row (count s)) s.rows))
    (says_every (message_ok (count s) s.asked) (MessageForm (count s) s.asked) (says_message (count s) s.asked) s.messages)

-- The form of a state of so many rows and messages that passes the test.
pub tested_form : (s : State) → 1 ≤ count s → count s ≤ most_nodes → length s.messages ≤ most_messages → T (formed s) → Form s
tested_form s some few short t =
    let k = (says_formed s).to t in
    record { some = some; few = few; short = short; differ = k.0.0; rows = k.0.1; messages = k.1 }

abbrev Header : List ℕ → Type 0
Header w = (((get_or w 0 0 ≡ form) × (1 ≤ count_in w)) × (count_in w ≤ most_nodes)) × (messages_in w ≤ most_messages)

pub says_header : (w : List ℕ) → Says (header_ok w) (Header w)
unfolding header_ok
says_header w =
    says_and (says_and (says_and (says_eq (get_or w 0 0) form) (says_le 1 (count_in w))) (says_le (count_in w) most_nodes)) (says_le (messages_in w) most_messages)

abbrev Zero : List ℕ → Type 0
Zero l = (x : ℕ) → Mem x l → x ≡ 0

says_zero : (l : List ℕ) → Says (every (λ x. nat_eq x 0) l) (Zero l)
says_zero l = says_every (λ x. nat_eq x 0) (λ x. x ≡ 0) (λ x. says_eq x 0) l

says_unused : (w : List ℕ) → Says (unused_ok w) (Zero (unused_rows w) × Zero (unused_messages w))
unfolding unused_ok
says_unused w = says_and (says_zero (unused_rows w)) (says_zero (unused_messages w))

pub says_well_formed : (w : List ℕ) → Says (well_formed w) ((Header w × (Zero (unused_rows w) × Zero (unused_messages w))) × Formed (read w))
unfolding well_formed
says_well_formed w = says_and (says_and (says_header w) (says_unused w)) (says_formed (read w))

-- A well-formed record is tidy, and stands for a well-formed state.
module _ (w : List ℕ) (ok : T (well_formed w)) where
  pub tidy : record_size ≤ length w → Tidy w
  tidy long = let k = (says_well_formed w).to ok in record {
    long = long;
    version = k.0.0.0.0.0;
    nodes = k.0.0.0.1;
    waiting = k.0.0.1;
    rows = k.0.1.0;
    messages = k.0.1.1;
  }

  pub form_of : Form (read w)
  form_of = let k = (says_well_formed w).to ok in record {
    some = omega (arith, k.0.0.0.0.1, count_of_read w);
    few = omega (arith, k.0.0.0.1, count_of_read w);
    short = omega (arith, k.0.0.1, messages_of_read w);
    differ = k.1.0.0;
    rows = k.1.0.1;
    messages = k.1.1;
  }

padding : (n : ℕ) → Zero (replicate n 0)
padding zero x k = absurd k
padding (suc n) x (inl e) = e
padding (suc n) x (inr k) = padding n x k

-- The words of a well-formed state are well formed, whatever is behind them.
pub well_formed_words : (s : State) (t : List ℕ) → Form s → T (well_formed (words s ++ t))
well_formed_words s t f = (says_well_formed (words s ++ t)).fro (
  (
    (((form_read s t, rw (count_read s t) f.some), rw (count_read s t) f.few), rw (messages_read s t) f.short),
    (
      rw (unused_rows_read s t f.few f.short) (padding (unused_row_words (count s))),
      rw (unused_messages_read s t f.few f.short) (padding (unused_message_words (length s.messages))),
    ),
  ),
  rw (read_words s t f.few) ((f.differ, f.rows), f.messages),
)

pub long_words : (s : State) (t : List ℕ) → Form s → record_size ≤ length (words s ++ t)
long_words s t f = omega (arith, length-append (words s) t, length_words s t f.few f.short)

-- What every call but fresh knows of the record after questions 1 and 2.
pub record Valid (w : List ℕ) : Type 0 where
  pub long : record_size ≤ length w
  pub formed : well_formed w ≡ true
  pub nodes : count_in w ≤ most_nodes
  pub waiting : messages_in w ≤ most_messages

pub valid : (w : List ℕ) → record_size ≤ length w → well_formed w ≡ true → Valid w
valid w l ok =
    let k = (says_well_formed w).to (true_T (well_formed w) ok) in
    record { long = l; formed = ok; nodes = k.0.0.0.1; waiting = k.0.0.1 }

-- A valid record is the words of its state.
pub valid_words : (w : List ℕ) → Valid w → w ≡ words (read w) ++ drop record_size w
valid_words w v = sym (words_read w (tidy w (true_T (well_formed w) v.formed) v.long))

pub valid_form : (w : List ℕ) → Valid w → Form (read w)
valid_form w v = form_of w (true_T (well_formed w) v.formed)
