-- `around`: at each return the questions asked so far decide what a roll call leaves in any output. Assumes nothing.
use Rattle.std.specs.Prelude.{refl}
use Rattle.std.proofs.Common.{sym, ◌∙◌, ap, arith}
use Rattle.std.proofs.lemmas.Result.{err_from_is_err_and}
use Rattle.protocol.specs.Routing.{in_ring}
use Rattle.protocol.specs.Calls.{roll_call, unrolled, complete}
use Rattle.wellformed.specs.Questions.{refused_so, passed_so}
use Rattle.queries.specs.Rolls.{gathered, handed}
use Rattle.queries.specs.Questions.{roll_4, roll_5, roll_16, roll_given}
use Rattle.queries.proofs.rolls.around.Goals as goal

pub returns-in_err-questions : goal.returns-in_err-questions
unfolding roll_call handed
returns-in_err-questions c =
    let refused = err_from_is_err_and c.from_residual.result c.from_residual.ensures.1 in
    λ out. refused_so c.args.w.now (unrolled out) _ _ c.in_err-questions.ensures ∙ rw (refused.1, refused.2) refl

pub bounds-w-1 : goal.bounds-w-1
bounds-w-1 c = omega (arith, (passed_so c.args.w.now c.in_ok-questions.ensures).long)

pub row_of-requires : goal.row_of-requires
row_of-requires c = let v = passed_so c.args.w.now c.in_ok-questions.ensures in (v.long, v.nodes)

pub comes_back-requires : goal.comes_back-requires
comes_back-requires c = let v = passed_so c.args.w.now c.in_ok-questions.ensures in (v, rw c.new-passed.ensures (omega (arith, v.nodes)))

pub returns-then-n-node : goal.returns-then-n-node
unfolding handed
returns-then-n-node c =
    λ out. roll_4 c.args.w.now c.args.node out (passed_so c.args.w.now c.in_ok-questions.ensures) c.if-n-node.true

pub returns-then-not-in_ring : goal.returns-then-not-in_ring
unfolding handed
returns-then-not-in_ring c =
    let ring = ap in_ring (sym c.row_of.ensures) ∙ sym c.in_ring.ensures ∙ c.if-not-in_ring.true in
    λ out. roll_5 c.args.w.now c.args.node out (passed_so c.args.w.now c.in_ok-questions.ensures) c.if-n-node.false ring

pub returns-then-not-comes_back : goal.returns-then-not-comes_back
unfolding gathered handed
returns-then-not-comes_back c =
    let ring = ap in_ring (sym c.row_of.ensures) ∙ sym c.in_ring.ensures ∙ c.if-not-in_ring.false in
    let r = rw (c.new-passed.ensures, c.if-not-comes_back.true) at c.comes_back.ensures in
    λ out. roll_16 c.args.w.now c.args.node out (passed_so c.args.w.now c.in_ok-questions.ensures) c.if-n-node.false ring r

pub returns : goal.returns
unfolding gathered handed
returns c =
    let ring = ap in_ring (sym c.row_of.ensures) ∙ sym c.in_ring.ensures ∙ c.if-not-in_ring.false in
    let r = rw (c.new-passed.ensures, c.if-not-comes_back.false) at c.comes_back.ensures in
    λ out. roll_given c.args.w.now c.args.node out (passed_so c.args.w.now c.in_ok-questions.ensures) c.if-n-node.false ring (complete c.comes_back.new.passed.items) r
