-- The extent's blocks are blocks of the volume.
use Rattle.std.proofs.Common.{arith, ◌<◌}
use Rattle.hfs_space.proofs.ForkLengthLemmas.{extent-end}
use Rattle.hfs_space.proofs.ForkPieces.{some-block, same-end}
use Rattle.hfs_space.specs.Forks.{blocks_each}
use Rattle.hfs_space.proofs.fork.read_extent.Goals as goal

pub read_run-requires-clause-within : goal.read_run-requires-clause-within
read_run-requires-clause-within g c =
    let some : 0 < c.args.extent.count = some-block c.args.extent.count (blocks_each c.args.mdb.now) c.args.from c.args.count (omega arith) c.requires.fits in
    let end = extent-end c.args.mdb.now (g.B.Blocks.total c.args.blocks.now) c.args.extent c.requires.area c.requires.within some in
    same-end _ _ _ _ _ _ (blocks_each c.args.mdb.now) (g.B.Blocks.total c.args.blocks.now) c.from.ensures c.from-2.ensures c.from-3.ensures end
