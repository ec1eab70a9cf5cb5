-- The questions of each command, in the words' terms: which facts lead to which refusal, and to the command's effect. Assumes nothing.
use Rattle.std.specs.Prelude.{◌≡◌, Bool, ◌&&◌, List, ℕ, ◌≤◌, ◌<◌}
use Rattle.std.proofs.Common.{sym, ◌∙◌, ltb→lt}
use Rattle.std.proofs.Math.Path.{ap}
use Rattle.std.proofs.Math.Bool.{true, false, not}
use Rattle.std.proofs.Common.{nat_lt}
use borrow.Author.Tests.{lt-ltb, le-ltb, eq-eqb, ne_eqb}
use Rattle.lists.specs.Choice.{on_yes, on_no}
use Rattle.lists.specs.Tests.{and_left, and_right, true_T}
use Rattle.lists.specs.Basics.{require}
use Rattle.protocol.specs.declared.Row.{Row}
use Rattle.protocol.specs.declared.Message.{Message}
use Rattle.protocol.specs.declared.Answer.TheVariants.{Quiet}
use Rattle.protocol.specs.declared.Route.TheVariants.{To}
use Rattle.protocol.specs.declared.Decision.TheVariants.{Send}
use Rattle.std.specs.Prelude.{Ok}
use Rattle.protocol.specs.Names.{JOIN, LEAVEREQ, OUTSIDE}
use Rattle.protocol.specs.declared.refusal.Refusal.TheVariants.{LastHub, Locked, MessagesFull, NoHub, NoMessage, NotInRing, NotOutside, TicketsUsedUp}
use Rattle.protocol.specs.Record.{most_messages, State, count, count_in, messages_in, asked_in, row, identifier, read, sent, ticketed}
use Rattle.protocol.specs.Routing.{in_ring, onward}
use Rattle.protocol.specs.Kinds.{question, note, with_state, with_lock}
use Rattle.protocol.specs.Step.{Result, refused, accepted, conclude, room, asking, ask, join, leave, oldest, delivered, deliver}
use Rattle.layout.specs.Words.{count_of_read, messages_of_read}

-- How join and leave end: hub x's row becomes h and the message goes last, if there is room for it.
unfoldable pub sending : State → ℕ → Row → Message → Result
sending s x h u = require (room s) (refused MessagesFull) (conclude s x (Ok (Send h u Quiet)))

module _ (w : List ℕ) where
  abbrev s : State
  s = read w

  abbrev n : ℕ
  n = count_in w

  abbrev m : ℕ
  m = messages_in w

  -- the tests, by the words
  node_yes : (x : ℕ) → x < n → nat_lt x (count s) ≡ true
  node_yes x l = ap (nat_lt x) (count_of_read w) ∙ lt-ltb x n l

  node_no : (x : ℕ) → n ≤ x → nat_lt x (count s) ≡ false
  node_no x l = ap (nat_lt x) (count_of_read w) ∙ le-ltb x n l

  -- the code's test of two nodes
  nodes_are : (x y : ℕ) (b : Bool) → (nat_lt x n && nat_lt y n) ≡ b → (nat_lt x (count s) && nat_lt y (count s)) ≡ b
  nodes_are x y b e = ap (λ k. nat_lt x k && nat_lt y k) (count_of_read w) ∙ e

  pub first_node : (x y : ℕ) → (nat_lt x n && nat_lt y n) ≡ true → x < n
  first_node x y e = ltb→lt x n (and_left (nat_lt x n) (nat_lt y n) (true_T _ e))

  pub second_node : (x y : ℕ) → (nat_lt x n && nat_lt y n) ≡ true → y < n
  second_node x y e = ltb→lt y n (and_right (nat_lt x n) (nat_lt y n) (true_T _ e))

  room_yes : m < most_messages → room s ≡ true
  unfolding room
  room_yes l = ap (λ k. nat_lt k most_messages) (messages_of_read w) ∙ lt-ltb m most_messages l

  room_no : most_messages ≤ m → room s ≡ false
  unfolding room
  room_no l = ap (λ k. nat_lt k most_messages) (messages_of_read w) ∙ le-ltb m most_messages l

  asked_yes : asked_in w < 4294967295 → nat_lt s.asked 4294967295 ≡ true
  unfolding read
  asked_yes l = lt-ltb (asked_in w) 4294967295 l

  asked_no : 4294967295 ≤ asked_in w → nat_lt s.asked 4294967295 ≡ false
  unfolding read
  asked_no l = le-ltb (asked_in w) 4294967295 l

  -- ask
  module _ (x v : ℕ) where
    pub ask_4 : n ≤ x → ask s x v ≡ refused NoHub
    unfolding ask
    ask_4 l = on_no _ _ _ (node_no x l)

    pub ask_5 : x < n → in_ring (row s x) ≡ false → ask s x v ≡ refused NotInRing
    unfolding ask
    ask_5 l r = on_yes _ _ _ (node_yes x l) ∙ on_no _ _ _ r

    pub ask_12 : x < n → in_ring (row s x) ≡ true → 4294967295 ≤ asked_in w → ask s x v ≡ refused TicketsUsedUp
    unfolding ask
    ask_12 l r a = on_yes _ _ _ (node_yes x l) ∙ on_yes _ _ _ r ∙ on_no _ _ _ (asked_no a)

    pub ask_routed : x < n → in_ring (row s x) ≡ true → asked_in w < 4294967295 → ask s x v ≡ asking s x v (onward (identifier s (row s x).pred) (row s x) v)
    unfolding ask
    ask_routed l r a = on_yes _ _ _ (node_yes x l) ∙ on_yes _ _ _ r ∙ on_yes _ _ _ (asked_yes a)

    pub asking_11 : (z : ℕ) → most_messages ≤ m → asking s x v (To z) ≡ refused MessagesFull
    unfolding asking
    asking_11 z l = on_no _ _ _ (room_no l)

    pub asking_sent : (z : ℕ) → m < most_messages → asking s x v (To z) ≡ accepted Quiet (sent (ticketed s) (question x z v (asked_in w) 0))
    unfolding asking read
    asking_sent z l = on_yes _ _ _ (room_yes l)

  -- the end of join and of leave
  module _ (x : ℕ) (h : Row) (u : Message) where
    pub sending_11 : most_messages ≤ m → sending s x h u ≡ refused MessagesFull
    unfolding sending
    sending_11 l = on_no _ _ _ (room_no l)

    pub sending_sent : m < most_messages → sending s x h u ≡ conclude s x (Ok (Send h u Quiet))
    unfolding sending
    sending_sent l = on_yes _ _ _ (room_yes l)

  -- join
  module _ (x y : ℕ) where
    pub join_4 : (nat_lt x n && nat_lt y n) ≡ false → join s x y ≡ refused NoHub
    unfolding join
    join_4 t = on_no _ _ _ (nodes_are x y false t)

    pub join_6 : (nat_lt x n && nat_lt y n) ≡ true → ((row s x).state ≡ OUTSIDE → ⊥) → join s x y ≡ refused NotOutside
    unfolding join
    join_6 t e = on_yes _ _ _ (nodes_are x y true t) ∙ on_no _ _ _ (ne_eqb _ 0 e)

    pub join_5 : (nat_lt x n && nat_lt y n) ≡ true → (row s x).state ≡ OUTSIDE → in_ring (row s y) ≡ false → join s x y ≡ refused NotInRing
    unfolding join
    join_5 t e r = on_yes _ _ _ (nodes_are x y true t) ∙ on_yes _ _ _ (eq-eqb _ 0 e) ∙ on_no _ _ _ r

    pub join_sending : (nat_lt x n && nat_lt y n) ≡ true → (row s x).state ≡ OUTSIDE → in_ring (row s y) ≡ true
        → join s x y ≡ sending s x (with_lock (with_state (row s x) 1) 1) (note JOIN x y x)
    unfolding join sending
    join_sending t e r = on_yes _ _ _ (nodes_are x y true t) ∙ on_yes _ _ _ (eq-eqb _ 0 e) ∙ on_yes _ _ _ r

    pub join_11 : (nat_lt x n && nat_lt y n) ≡ true → (row s x).state ≡ OUTSIDE → in_ring (row s y) ≡ true → most_messages ≤ m → join s x y ≡ refused MessagesFull
    join_11 t e r l = join_sending t e r ∙ sending_11 x _ _ l

    pub join_sent : (nat_lt x n && nat_lt y n) ≡ true → (row s x).state ≡ OUTSIDE → in_ring (row s y) ≡ true → m < most_messages
        → join s x y ≡ conclude s x (Ok (Send (with_lock (with_state (row s x) 1) 1) (note JOIN x y x) Quiet))
    join_sent t e r l = join_sending t e r ∙ sending_sent x _ _ l

  -- leave
  module _ (x : ℕ) where
    pub leave_4 : n ≤ x → leave s x ≡ refused NoHub
    unfolding leave
    leave_4 l = on_no _ _ _ (node_no x l)

    pub leave_5 : x < n → in_ring (row s x) ≡ false → leave s x ≡ refused NotInRing
    unfolding leave
    leave_5 l r = on_yes _ _ _ (node_yes x l) ∙ on_no _ _ _ r

    pub leave_7 : x < n → in_ring (row s x) ≡ true → ((row s x).lock ≡ 0 → ⊥) → leave s x ≡ refused Locked
    unfolding leave
    leave_7 l r k = on_yes _ _ _ (node_yes x l) ∙ on_yes _ _ _ r ∙ on_no _ _ _ (ne_eqb _ 0 k)

    pub leave_8 : x < n → in_ring (row s x) ≡ true → (row s x).lock ≡ 0 → (row s x).succ ≡ x → leave s x ≡ refused LastHub
    unfolding leave
    leave_8 l r k e = on_yes _ _ _ (node_yes x l) ∙ on_yes _ _ _ r ∙ on_yes _ _ _ (eq-eqb _ 0 k) ∙ on_no _ _ _ (ap not (eq-eqb _ x e))

    pub leave_sending : x < n → in_ring (row s x) ≡ true → (row s x).lock ≡ 0 → ((row s x).succ ≡ x → ⊥)
        → leave s x ≡ sending s x (with_lock (with_state (row s x) 3) 1) (note LEAVEREQ x (row s x).succ 0)
    unfolding leave sending
    leave_sending l r k e =
        on_yes _ _ _ (node_yes x l) ∙ on_yes _ _ _ r ∙ on_yes _ _ _ (eq-eqb _ 0 k) ∙ on_yes _ _ _ (ap not (ne_eqb _ x e))

    pub leave_11 : x < n → in_ring (row s x) ≡ true → (row s x).lock ≡ 0 → ((row s x).succ ≡ x → ⊥) → most_messages ≤ m → leave s x ≡ refused MessagesFull
    leave_11 l r k e f = leave_sending l r k e ∙ sending_11 x _ _ f

    pub leave_sent : x < n → in_ring (row s x) ≡ true → (row s x).lock ≡ 0 → ((row s x).succ ≡ x → ⊥) → m < most_messages
        → leave s x ≡ conclude s x (Ok (Send (with_lock (with_state (row s x) 3) 1) (note LEAVEREQ x (row s x).succ 0) Quiet))
    leave_sent l r k e f = leave_sending l r k e ∙ sending_sent x _ _ f

  -- deliver
  module _ (x y : ℕ) where
    pub deliver_4 : (nat_lt x n && nat_lt y n) ≡ false → deliver s x y ≡ refused NoHub
    unfolding deliver
    deliver_4 t = on_no _ _ _ (nodes_are x y false t)

    pub deliver_9 : (nat_lt x n && nat_lt y n) ≡ true → m ≤ oldest s x y → deliver s x y ≡ refused NoMessage
    unfolding deliver
    deliver_9 t l = on_yes _ _ _ (nodes_are x y true t) ∙ on_no _ _ _ (ap (nat_lt (oldest s x y)) (messages_of_read w) ∙ le-ltb (oldest s x y) m l)

    pub deliver_handled : (nat_lt x n && nat_lt y n) ≡ true → (j : ℕ) → j ≡ oldest s x y → j < m → deliver s x y ≡ delivered s y j
    unfolding deliver
    deliver_handled t j e l =
        on_yes _ _ _ (nodes_are x y true t)
        ∙ on_yes _ _ _ (ap (nat_lt (oldest s x y)) (messages_of_read w) ∙ ap (λ z. nat_lt z m) (sym e) ∙ lt-ltb j m l)
        ∙ ap (delivered s y) (sym e)
