-- `fresh` gives what `fresh_by_call` says: four refusals that keep the words, each by the tests before it, and the founding. Assumes nothing.
use mathlib.Core.Path.{sym, ◌∙◌}
use native.Mathlib.Omega.{arith}
use lib.ListN.{length}
use borrow.Author.Tests.{lt-leb, le-leb, lt-ltb, le-ltb}
use Rattle.lists.specs.Basics.{when◌then◌else◌, require}
use Rattle.protocol.specs.Calls.{long, written, fresh_by_call}
use Rattle.founding.specs.Laws.{some_few}
use Rattle.founding.proofs.fresh.Goals as goal

pub returns-then-w-lt-RECORD_WORDS : goal.returns-then-w-lt-RECORD_WORDS
unfolding fresh_by_call long require when◌then◌else◌
returns-then-w-lt-RECORD_WORDS c = simp (lt-leb _ _ c.if-w-lt-RECORD_WORDS.true)

pub returns-then-not-few : goal.returns-then-not-few
unfolding fresh_by_call long require when◌then◌else◌
returns-then-not-few c = simp (le-leb _ _ c.if-w-lt-RECORD_WORDS.false, c.if-not-few.true)

pub returns-then-not-all_differ : goal.returns-then-not-all_differ
unfolding fresh_by_call long require when◌then◌else◌
returns-then-not-all_differ c =
    simp (
      le-leb _ _ c.if-w-lt-RECORD_WORDS.false,
      c.if-not-few.false,
      ← c.all_differ.ensures,
      c.if-not-all_differ.true,
    )

pub returns-then-identifiers-node : goal.returns-then-identifiers-node
unfolding fresh_by_call long require when◌then◌else◌
returns-then-identifiers-node c =
    simp (
      le-leb _ _ c.if-w-lt-RECORD_WORDS.false,
      c.if-not-few.false,
      ← c.all_differ.ensures,
      c.if-not-all_differ.false,
      ← c.founding_node-node.ensures,
      le-ltb _ _ c.if-identifiers-node.true,
    )

pub write_fresh-requires : goal.write_fresh-requires
write_fresh-requires c =
    let k = some_few (length c.args.identifiers.now) c.if-not-few.false in
    (c.if-identifiers-node.false, k.1, omega arith)

pub returns : goal.returns
unfolding fresh_by_call long written require when◌then◌else◌
returns c =
    simp (
      le-leb _ _ c.if-w-lt-RECORD_WORDS.false,
      c.if-not-few.false,
      ← c.all_differ.ensures,
      c.if-not-all_differ.false,
      ← c.founding_node-node.ensures,
      lt-ltb _ _ c.if-identifiers-node.false,
      c.write_fresh.ensures,
    )
