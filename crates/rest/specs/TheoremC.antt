-- 2026-07 of the C calls, proved: what calls on bytes reached, calls on words reached too. Assumes nothing.
use Rattle.std.specs.Prelude.{◌≡◌, List, [], ◌∷◌, ◌++◌, ℕ, ◌≤◌, length}
use Rattle.std.proofs.Math.Path.{refl, ap}
use Rattle.std.proofs.Common.{◌∙◌, le-leb}
use Rattle.lists.specs.Basics.{Mem, All}
use Rattle.lists.specs.Choice.{on_yes}
use Rattle.protocol.specs.Answers.{refusal, number_words}
use Rattle.protocol.specs.Bytes.{Byte, words_of, over, bytes_after, roll_told, roll_bytes, told, owner_bytes}
use Rattle.protocol.specs.Membership.{node, owner_among}
use Rattle.layout.specs.Bytes.{back, words_behind}
use Rattle.atomicity.specs.Demand3.{Word}
use Rattle.atomicity.specs.TheoremC.{c_reached}
use Rattle.rest.specs.AtRest.{Resting, AtRest}
use Rattle.rest.specs.AtRestC.{CAtRest}
use Rattle.rest.specs.Theorem.{at_rest}

module _ {ids members : List ℕ} (bytes : List ℕ) (rests : Resting ids members (words_of bytes)) where
  rolled : (start : ℕ) (m : Mem start members) (out size : List ℕ) → All Byte out → length (rests.roll start m).list ≤ length (words_of out) → 4 ≤ length size
      → roll_bytes bytes start out size
      ≡ record { code = 0; roll = over out (rests.roll start m).list; length = over size (length (rests.roll start m).list ∷ []) }
  unfolding roll_bytes roll_told refusal number_words bytes_after
  rolled start m out size h room word =
      let r = rests.roll start m in
      let n = length r.list in
      on_yes _ _ _ (le-leb 4 (length size) word)
      ∙ ap (roll_told out size) (r.call (words_of out) room)
      ∙ ap (λ z. record { code = 0; roll = z; length = over size (n ∷ []) })
      (ap (λ l. over out (r.list ++ l)) (words_behind n out) ∙ back out r.list n h refl)

  owned : (v : ℕ) → Word v → (out : List ℕ) → 4 ≤ length out
      → (hub : ℕ) × (owner_bytes bytes v out ≡ record { code = 0; output = over out (hub ∷ []) }) × (owner_among ids members v ≡ node hub)
  unfolding owner_bytes told refusal number_words
  owned v lv out word =
      let o = rests.owner v lv in (o.hub, on_yes _ _ _ (le-leb 4 (length out) word) ∙ ap (told out) o.call, o.owner)

pub c_at_rest : CAtRest
unfolding CAtRest AtRest
c_at_rest ids founder events bytes r e =
    let rests = at_rest ids founder events (words_of bytes) (c_reached r) e in
    record { rests = rests; roll = rolled bytes rests; owner = owned bytes rests }
