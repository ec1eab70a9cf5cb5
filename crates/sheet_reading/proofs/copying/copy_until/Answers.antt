-- `copy_until`: the bytes up to i are copied, and the one that ends them is ahead. Assumes nothing.
use Rattle.std.proofs.Common.{◌+◌, ◌-◌, ◌<◌}
use native.Mathlib.Omega.{arith}
use lib.ListN.{length}
use Rattle.sheet_reading.specs.Runs.{every_empty, every_between}
use Rattle.sheet_reading.specs.Put.{test_for, copy_goes, copy_passes, copy_room, copy_none, copy_more}
use Rattle.sheet_reading.proofs.copying.copy_until.Goals as goal

pub loop-i-init : goal.loop-i-init
loop-i-init c = (every_empty (test_for c.args.stop) c.args.from c.args.text.now, copy_none c.args.names.now c.args.text.now c.args.at c.args.from)

-- the byte has room
room_for : (c : goal.After-shared_slice_known-in-loop-i-1) → c.args.at + (c.loop-i.i - c.args.from) < length c.args.names.now
room_for c =
    let a = c.args in
    let l = c.loop-i in
    copy_room a.text.now a.from a.at (length a.names.now) a.stop c.requires.0 c.requires.1 l.i l.auto.i l.invariant.0 c.if-text-i.false

pub overflow_add-names : goal.overflow_add-names
overflow_add-names c = let r = room_for c in omega arith

pub bounds-names-at : goal.bounds-names-at
bounds-names-at c = let r = room_for c in let k = c.loop-i.auto.names in omega arith

pub loop-i-preserved : goal.loop-i-preserved
loop-i-preserved c =
    let l = c.loop-i in
    let a = c.args in
    let g = c.loop-i-test.true in (
      every_between (test_for a.stop) a.from l.i a.text.now l.auto.i g l.invariant.0
          (copy_passes a.text.now a.from a.at (length a.names.now) a.stop c.requires.0 c.requires.1 l.i l.auto.i l.invariant.0 c.if-text-i.false),
      copy_more a.names.now l.names a.text.now a.at a.from l.i l.auto.i g (room_for c) l.invariant.1,
    )

pub returns : goal.returns
returns c =
    let a = c.args in
    let l = c.loop-i in
    let g = copy_goes a.text.now a.from a.at (length a.names.now) a.stop c.requires.0 c.requires.1 l.i l.auto.i l.invariant.0 in
    absurd (omega arith)
