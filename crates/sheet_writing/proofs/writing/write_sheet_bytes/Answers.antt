-- `write_sheet_bytes`: the bytes, four by four, are the words. Assumes nothing.
use Rattle.std.proofs.Common.{◌∙◌, sym, ap, map}
use Rattle.std.specs.Int.{w32, from_le_bytes}
use Rattle.sheets.specs.Calls.{write_call, write_bytes_call}
use Rattle.sheet_writing.specs.Carried.{chunk_words}
use Rattle.sheet_writing.proofs.writing.write_sheet_bytes.Goals as goal

pub returns : goal.returns
unfolding write_bytes_call
returns c =
    let a = c.args in
    ap (λ d. write_call a.names.now d a.text.now) (sym (ap (map (from_le_bytes w32)) c.as_chunks.ensures.front ∙ chunk_words a.identifiers.now)) ∙ c.write.ensures
