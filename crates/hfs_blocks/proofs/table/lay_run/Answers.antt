-- One block more is laid.
use Rattle.std.proofs.Common.{◌+◌, ◌-◌, length, refl, arith}
use Rattle.std.specs.Prelude.{zip}
use Rattle.hfs_blocks.specs.Layers.{changes}
use Rattle.hfs_blocks.proofs.TableLemmas.{laid-next, room-less, room-next}
use Rattle.hfs_blocks.proofs.table.lay_run.Goals as goal

pub lay_one-requires-clause-room : goal.lay_one-requires-clause-room
lay_one-requires-clause-room c =
    let left = length c.args.run.now - c.loop-i.i in
    room-less _ _ 1 left (omega (arith, c.loop-i-test.true)) (c.loop-i.invariant.room left (room-less _ _ (c.loop-i.i + left) (length c.args.run.now) (omega (arith, c.loop-i-test.true)) c.requires.room))

pub loop-i-preserved : goal.loop-i-preserved
loop-i-preserved c = record {
  table = c.lay_one.ensures.table;
  laid = laid-next c.args.first c.loop-i.i c.args.run.now _ (changes (zip c.loop-i.numbers.items c.loop-i.blocks.items)) _ (c.args.first + c.loop-i.i) _ refl refl c.lay_one.ensures.laid c.loop-i.invariant.laid;
  rows = λ n there. c.lay_one.ensures.rows n (c.loop-i.invariant.rows n there);
  room = room-next _ c.loop-i.numbers _ _ c.loop-i.blocks _ c.loop-i.i 1 c.loop-i.invariant.room c.lay_one.ensures.room;
}

pub returns-clause-room : goal.returns-clause-room
returns-clause-room c = λ more room. c.loop-i.invariant.room more (room-less _ _ (c.loop-i.i + more) (length c.args.run.now + more) (omega (arith, c.loop-i.auto.i-end)) room)
