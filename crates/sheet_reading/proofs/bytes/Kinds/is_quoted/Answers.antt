-- `is_quoted`: the kind says it. Assumes nothing.
use mathlib.Core.Path.{◌≡◌, refl, ◌∙◌, ap}
use mathlib.Core.Bool.{not}
use native.Mathlib.Omega.{arith}
use denote.Enum.Bare.{sameb}
use Rattle.sheet_reading.specs.contracts.bytes.Kind as contract
use Rattle.sheet_reading.specs.declared.bytes.Kind.{Kind}
use Rattle.sheet_reading.specs.declared.bytes.Kind.TheVariants.{Plain, Quoted, Neither}
use Rattle.sheet_reading.specs.Kinds.{kind_of, says_quoted, kind_quoted, by_table}
use Rattle.sheet_reading.proofs.bytes.Kinds.is_quoted.Goals as goal

compared : (k : Kind) → not (sameb contract.the_type k Neither) ≡ says_quoted k
compared Plain = refl
compared Quoted = refl
compared Neither = refl

pub returns : goal.returns
returns c = c.ne.ensures ∙ compared _ ∙ ap says_quoted (by_table _ c.args.self.now.are c.from.result _ (omega arith)) ∙ ap (λ x. says_quoted (kind_of x)) c.from.ensures ∙ kind_quoted c.args.b
