-- `is_plain`: the kind says it. Assumes nothing.
use mathlib.Core.Path.{◌≡◌, refl, ◌∙◌, ap}
use native.Mathlib.Omega.{arith}
use denote.Enum.Bare.{sameb}
use Rattle.sheet_reading.specs.contracts.bytes.Kind as contract
use Rattle.sheet_reading.specs.declared.bytes.Kind.{Kind}
use Rattle.sheet_reading.specs.declared.bytes.Kind.TheVariants.{Plain, Quoted, Neither}
use Rattle.sheet_reading.specs.Kinds.{kind_of, says_plain, kind_plain, by_table}
use Rattle.sheet_reading.proofs.bytes.Kinds.is_plain.Goals as goal

compared : (k : Kind) → sameb contract.the_type k Plain ≡ says_plain k
compared Plain = refl
compared Quoted = refl
compared Neither = refl

pub returns : goal.returns
returns c = c.eq.ensures ∙ compared _ ∙ ap says_plain (by_table _ c.args.self.now.are c.from.result _ (omega arith)) ∙ ap (λ x. says_plain (kind_of x)) c.from.ensures ∙ kind_plain c.args.b
