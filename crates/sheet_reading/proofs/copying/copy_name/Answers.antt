-- `copy_name`: a quoted name, or one up to its comma. Assumes nothing.
use mathlib.Core.Path.{refl}
use native.Mathlib.Omega.{arith}
use lib.ListN.{length}
use Rattle.lists.specs.Basics.{when◌then◌else◌}
use Rattle.sheet_reading.specs.Put.{place_for, test_for, plain_copies, unquoted_name, quoted_name, name_opened, zero_room, plain_put}
use Rattle.sheet_reading.proofs.copying.copy_name.Goals as goal

pub copy_quoted-requires : goal.copy_quoted-requires
copy_quoted-requires c = quoted_name c.args.text.now c.args.from c.args.at (length c.args.names.now) c.requires.0 c.if-text-from-eq-QUOTE.true c.requires.1

pub returns-then-text-from-eq-QUOTE : goal.returns-then-text-from-eq-QUOTE
returns-then-text-from-eq-QUOTE c = name_opened c.args.text.now c.args.from c.args.at (length c.args.names.now) c.requires.0 c.if-text-from-eq-QUOTE.true c.args.names.now _ c.copy_quoted.result c.copy_quoted.ensures

pub copy_until-e-requires : goal.copy_until-e-requires
unfolding place_for test_for when◌then◌else◌
copy_until-e-requires c = (plain_copies, unquoted_name c.args.text.now c.args.from c.args.at (length c.args.names.now) c.requires.0 c.if-text-from-eq-QUOTE.false c.requires.1)

pub overflow_add-names : goal.overflow_add-names
overflow_add-names c = let g = zero_room c.args.text.now c.args.from c.args.at (length c.args.names.now) c.requires.1 c.requires.0 c.if-text-from-eq-QUOTE.false c.args.names.now _ c.copy_until-e.result c.copy_until-e.ensures in omega arith

pub bounds-names-at : goal.bounds-names-at
bounds-names-at c = let g = zero_room c.args.text.now c.args.from c.args.at (length c.args.names.now) c.requires.1 c.requires.0 c.if-text-from-eq-QUOTE.false c.args.names.now _ c.copy_until-e.result c.copy_until-e.ensures in let k = c.copy_until-e.auto.names in omega arith

pub overflow_add-result-2 : goal.overflow_add-result-2
overflow_add-result-2 c = let g = zero_room c.args.text.now c.args.from c.args.at (length c.args.names.now) c.requires.1 c.requires.0 c.if-text-from-eq-QUOTE.false c.args.names.now _ c.copy_until-e.result c.copy_until-e.ensures in omega arith

pub returns : goal.returns
returns c = plain_put c.args.text.now c.args.from c.args.at (length c.args.names.now) c.requires.1 c.requires.0 c.if-text-from-eq-QUOTE.false c.args.names.now _ c.copy_until-e.result c.copy_until-e.ensures refl
