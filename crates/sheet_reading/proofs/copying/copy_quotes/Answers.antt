-- `copy_quotes`: the name up to the quote at i is written. Assumes nothing.
use mathlib.Core.Path.{refl, sym, ◌∙◌, subst}
use Prim.Native.Nat.{◌+◌}
use native.Mathlib.Omega.{arith}
use lib.ListN.{length, length-set}
use Rattle.lists.specs.Basics.{when◌then◌else◌}
use Rattle.sheets.specs.declared.Place.TheVariants.{Quoted}
use Rattle.sheet_reading.specs.Put.{Readable, place_for, test_for, quoted_copies, copying_none, quote_goes, quote_room, quote_readable, copying_more, copying_small, last_room, quoted_put}
use Rattle.sheet_reading.proofs.copying.copy_quotes.Goals as goal

pub loop-i-init : goal.loop-i-init
loop-i-init c = (copying_none c.args.text.now c.args.from c.args.at (length c.args.names.now) c.requires.2 c.args.names.now refl c.requires.0 c.requires.1, refl)

pub bounds-text-i : goal.bounds-text-i
bounds-text-i c = quote_goes c.args.text.now c.args.from c.args.at (length c.args.names.now) c.requires.2 c.args.names.now refl c.loop-i.i c.loop-i.k c.loop-i.names c.loop-i.invariant.0

pub bounds-names-k : goal.bounds-names-k
bounds-names-k c = let g = quote_room c.args.text.now c.args.from c.args.at (length c.args.names.now) c.requires.2 c.args.names.now refl c.loop-i.i c.loop-i.k c.loop-i.names c.loop-i.invariant.0 c.loop-i-test.true in let k = c.loop-i.invariant.1 in omega arith

pub overflow_add-k : goal.overflow_add-k
overflow_add-k c = let g = quote_room c.args.text.now c.args.from c.args.at (length c.args.names.now) c.requires.2 c.args.names.now refl c.loop-i.i c.loop-i.k c.loop-i.names c.loop-i.invariant.0 c.loop-i-test.true in omega arith

pub copy_until-i-requires : goal.copy_until-i-requires
unfolding place_for test_for when◌then◌else◌
copy_until-i-requires c = (quoted_copies, subst (Readable c.args.text.now Quoted (c.loop-i.i + 2) (c.loop-i.k + 1)) (sym (length-set c.loop-i.names c.loop-i.k 34 ∙ c.loop-i.invariant.1)) (quote_readable c.args.text.now c.args.from c.args.at (length c.args.names.now) c.requires.2 c.args.names.now refl c.loop-i.i c.loop-i.k c.loop-i.names c.loop-i.invariant.0 c.loop-i-test.true))

pub overflow_add-k-in-loop-i : goal.overflow_add-k-in-loop-i
overflow_add-k-in-loop-i c = let g = quote_room c.args.text.now c.args.from c.args.at (length c.args.names.now) c.requires.2 c.args.names.now refl c.loop-i.i c.loop-i.k c.loop-i.names c.loop-i.invariant.0 c.loop-i-test.true in omega arith

pub overflow_add-k-in-loop-i-2 : goal.overflow_add-k-in-loop-i-2
overflow_add-k-in-loop-i-2 c =
    let g = copying_small c.args.text.now c.args.from c.args.at (length c.args.names.now) c.requires.2 c.args.names.now refl _ _ _ (copying_more c.args.text.now c.args.from c.args.at (length c.args.names.now) c.requires.2 c.args.names.now refl c.loop-i.i c.loop-i.k c.loop-i.names c.loop-i.invariant.0 c.loop-i-test.true _ _ c.copy_until-i.ensures) in
    let k = c.well_formed.1.1.0.0 in
    omega arith

pub loop-i-preserved : goal.loop-i-preserved
loop-i-preserved c = (copying_more c.args.text.now c.args.from c.args.at (length c.args.names.now) c.requires.2 c.args.names.now refl c.loop-i.i c.loop-i.k c.loop-i.names c.loop-i.invariant.0 c.loop-i-test.true _ _ c.copy_until-i.ensures, c.copy_until-i.auto.names ∙ length-set c.loop-i.names c.loop-i.k 34 ∙ c.loop-i.invariant.1)

pub bounds-names-k-2 : goal.bounds-names-k-2
bounds-names-k-2 c = let g = last_room c.args.text.now c.args.from c.args.at (length c.args.names.now) c.requires.2 c.args.names.now refl c.loop-i.i c.loop-i.k c.loop-i.names c.loop-i.invariant.0 c.loop-i-test.false in let k = c.loop-i.invariant.1 in omega arith

pub overflow_add-result-2 : goal.overflow_add-result-2
overflow_add-result-2 c = let g = last_room c.args.text.now c.args.from c.args.at (length c.args.names.now) c.requires.2 c.args.names.now refl c.loop-i.i c.loop-i.k c.loop-i.names c.loop-i.invariant.0 c.loop-i-test.false in omega arith

pub returns : goal.returns
returns c = quoted_put c.args.text.now c.args.from c.args.at (length c.args.names.now) c.requires.2 c.args.names.now refl c.loop-i.i c.loop-i.k c.loop-i.names c.loop-i.invariant.0 c.loop-i-test.false
