-- `copy_quoted`: the bytes up to the first quote, and the rest. Assumes nothing.
use mathlib.Core.Path.{refl, sym, subst}
use native.Mathlib.Omega.{arith}
use lib.ListN.{length}
use Rattle.lists.specs.Basics.{when◌then◌else◌}
use Rattle.sheets.specs.declared.Place.TheVariants.{Quoted}
use Rattle.sheet_reading.specs.Put.{Readable, place_for, test_for, quoted_copies, quotes_readable, quotes_there, quotes_put, name_room}
use Rattle.sheet_reading.proofs.copying.copy_quoted.Goals as goal

pub copy_until-q-requires : goal.copy_until-q-requires
unfolding place_for test_for when◌then◌else◌
copy_until-q-requires c = (quoted_copies, c.requires)

pub overflow_add-at : goal.overflow_add-at
overflow_add-at c = let g = quotes_there c.args.text.now c.args.from c.args.at (length c.args.names.now) c.requires c.args.names.now _ c.copy_until-q.result c.copy_until-q.ensures in omega arith

pub copy_quotes-rest-requires : goal.copy_quotes-rest-requires
copy_quotes-rest-requires c = (c.copy_until-q.ensures.within, c.copy_until-q.ensures.ended, subst (Readable c.args.text.now Quoted _ _) (sym c.copy_until-q.auto.names) (quotes_readable c.args.text.now c.args.from c.args.at (length c.args.names.now) c.requires c.args.names.now _ c.copy_until-q.result c.copy_until-q.ensures))

pub overflow_add-result : goal.overflow_add-result
overflow_add-result c = let g = name_room c.args.text.now Quoted c.args.from c.args.at (length c.args.names.now) c.requires c.args.names.now _ _ (quotes_put c.args.text.now c.args.from c.args.at (length c.args.names.now) c.requires c.args.names.now _ c.copy_until-q.result c.copy_until-q.ensures refl _ c.copy_quotes-rest.result c.copy_quotes-rest.ensures) in omega arith

pub returns : goal.returns
returns c = quotes_put c.args.text.now c.args.from c.args.at (length c.args.names.now) c.requires c.args.names.now _ c.copy_until-q.result c.copy_until-q.ensures refl _ c.copy_quotes-rest.result c.copy_quotes-rest.ensures
