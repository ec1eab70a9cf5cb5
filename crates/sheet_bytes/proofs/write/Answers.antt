-- `write`: 17, or what the call tells. Assumes nothing.
use Rattle.protocol.specs.Answers.{refusal}
use native.Mathlib.Omega.{arith}
use Rattle.sheet_bytes.specs.Told.{told_write, write_17, write_told}
use Rattle.sheet_bytes.proofs.write.Goals as goal

pub returns-then-counts-lt-COUNTS_BYTES : goal.returns-then-counts-lt-COUNTS_BYTES
unfolding refusal
returns-then-counts-lt-COUNTS_BYTES c = write_17 c.args.text.now c.args.identifiers.now c.args.names.now c.args.counts.now c.if-counts-lt-COUNTS_BYTES.true

pub returns : goal.returns
unfolding told_write
returns c = rw (c.finish_sheet.ensures.code, c.finish_sheet.ensures.counts) (write_told c.args.text.now c.args.identifiers.now c.args.names.now c.args.counts.now _ (omega arith) c.write_sheet_bytes-r.ensures)
