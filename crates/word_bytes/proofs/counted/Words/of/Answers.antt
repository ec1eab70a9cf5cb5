-- `Words::of`: the room begins with the words that were loaded, which are all that the bytes have. Assumes nothing.
use native.Mathlib.Omega.{arith}
use Prim.Native.Nat.{ℕ, ◌/◌}
use lib.ListN.{length, replicate, drop, length-replicate}
use lib.Seq.{length-take-le}
use Rattle.std.proofs.Common.{◌≡◌, ap, sym, ◌∙◌, take_at}
use Rattle.lists.specs.Blocks.{length_table}
use Rattle.word_bytes.specs.Carry.{word_at, first_words, words_all}
use Rattle.word_bytes.proofs.counted.Words.of.Goals as goal

pub returns : goal.returns
returns g c =
    let b = c.args.bytes.now in
    let n = length b / 4 in
    let loaded : c.load.new.w ≡ first_words b n = c.load.ensures ∙ ap (first_words b) (length-take-le n (replicate g.row.N 0) (omega (arith, length-replicate {A = ℕ} g.row.N 0))) in (
      take_at c.load.new.w (drop n (replicate g.row.N 0)) n (ap length loaded ∙ length_table n (word_at b)) ∙ loaded ∙ sym (words_all b),
      omega arith,
    )
