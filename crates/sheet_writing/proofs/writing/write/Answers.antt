-- `write`: question by question, and the rows written where there is room. Assumes nothing.
use Rattle.std.proofs.Common.{rules, ◌≡◌, refl, sym, ◌∙◌, ap, map, Err}
use Rattle.protocol.specs.declared.refusal.Refusal.TheVariants.{RoomShort}
use Rattle.std.proofs.lemmas.List.{length-map}
use Rattle.sheets.specs.Writer.{names_for}
use Rattle.sheet_writing.specs.Scanning.{less_left, less_short}
use Rattle.sheet_writing.specs.Writing.{write_wrong, write_zeros, write_short, write_done}
use Rattle.sheet_writing.proofs.writing.write.Goals as goal

pub returns-then-not-names_for : goal.returns-then-not-names_for
returns-then-not-names_for g c =
    let a = c.args in
    let d = map g.T.Identifier.value a.identifiers.now in
    write_wrong a.names.now d a.text.now (ap (names_for a.names.now) (length-map a.identifiers.now g.T.Identifier.value) ∙ sym c.names_for.ensures ∙ c.if-not-names_for.true)

pub room_left-requires : goal.room_left-requires
room_left-requires g c =
    let a = c.args in
    let k = length-map a.identifiers.now g.T.Identifier.value in
    write_zeros a.names.now (map g.T.Identifier.value a.identifiers.now) a.text.now (ap (names_for a.names.now) k ∙ sym c.names_for.ensures ∙ c.if-not-names_for.false) ∙ k

pub put_rows-bytes-requires : goal.put_rows-bytes-requires
put_rows-bytes-requires g c =
    let a = c.args in
    let k = length-map a.identifiers.now g.T.Identifier.value in
    (write_zeros a.names.now (map g.T.Identifier.value a.identifiers.now) a.text.now (ap (names_for a.names.now) k ∙ sym c.names_for.ensures ∙ c.if-not-names_for.false) ∙ k, less_left _ _ _ (sym c.in_ok-ok_or.ensures.ok_part ∙ c.room_left.ensures))

pub returns-in_err-ok_or : goal.returns-in_err-ok_or
returns-in_err-ok_or g c =
    let a = c.args in
    let k = length-map a.identifiers.now g.T.Identifier.value in
    let e : c.from_residual.result ≡ Err RoomShort = search rules in
    write_short a.names.now (map g.T.Identifier.value a.identifiers.now) a.text.now (ap (names_for a.names.now) k ∙ sym c.names_for.ensures ∙ c.if-not-names_for.false) (less_short _ _ (sym c.in_err-ok_or.ensures.ok_part ∙ c.room_left.ensures))
    ∙ rw e refl

pub returns : goal.returns
returns g c =
    let a = c.args in
    let k = length-map a.identifiers.now g.T.Identifier.value in
    simp (c.put_rows-bytes.ensures.0, c.put_rows-bytes.ensures.1, ← k) (write_done a.names.now (map g.T.Identifier.value a.identifiers.now) a.text.now (ap (names_for a.names.now) k ∙ sym c.names_for.ensures ∙ c.if-not-names_for.false) (less_left _ _ _ (sym c.in_ok-ok_or.ensures.ok_part ∙ c.room_left.ensures)))
