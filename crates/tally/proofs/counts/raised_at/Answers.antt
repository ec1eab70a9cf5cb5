-- `raised_at`: the change is `raised`. Assumes nothing.
use borrow.Author.Rules.{rules}
use Rattle.std.proofs.Common.{◌∙◌}
use Rattle.protocol.specs.Answers.{raised}
use Rattle.tally.specs.Changed.{changed_raised}
use Rattle.tally.proofs.counts.raised_at.Goals as goal

pub returns : goal.returns
returns c = c.changed_at.ensures raised (λ n r p. search rules) ∙ changed_raised c.args.k c.args.t
