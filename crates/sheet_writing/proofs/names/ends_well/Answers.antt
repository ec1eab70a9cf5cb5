-- `ends_well`: the last byte, if there is one. Assumes nothing.
use Rattle.std.proofs.Common.{◌∙◌, sym, ap}
use Rattle.std.specs.Option.{option_copied}
use Rattle.sheet_writing.specs.Scanning.{ends_last, ends_empty}
use Rattle.sheet_writing.proofs.names.ends_well.Goals as goal

pub returns-in-Some : goal.returns-in-Some
returns-in-Some c = ends_last c.args.names.now _ (sym (ap option_copied c.in-Some.is) ∙ c.last.ensures.value)

pub returns-in-None : goal.returns-in-None
returns-in-None c = ends_empty c.args.names.now (sym (ap option_copied c.in-None.is) ∙ c.last.ensures.value)
