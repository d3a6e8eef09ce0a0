-- The directory's own extents of the catalog file have a block.
use Rattle.std.proofs.Common.{◌<◌, arith}
use Rattle.hfs_space.specs.Extents.{block_total}
use Rattle.hfs_remains_forks.proofs.VolumeLemmas.{opened_found}
use Rattle.hfs_remains_forks.proofs.volume.finds_of_volume.Goals as goal

pub returns : goal.returns
returns c =
    let some : 0 < block_total c.args.volume.now.sound.mdb.catalog_file = omega (arith, c.block_total.ensures.total, c.if-block_total-eq0.false) in
    opened_found c.args.volume.now c.in_ok-finds.finds c.in_ok-finds.ensures some
