use Rattle.hfs_volume.proofs.Openings.{is_open, all_left}
use Rattle.hfs_volume.proofs.open_fork.OpenFork.new.Goals as goal

pub invariant_of-result : goal.invariant_of-result
invariant_of-result g c =
    is_open c.args.blocks.image.now c.args.mdb.now c.requires.area c.requires.whole_size _ _ c.args.fork.now.length c.requires.fork.within c.requires.fork.room c.in_ok-extents.ensures

pub returns : goal.returns
returns g c =
    all_left c.args.blocks.image.now c.args.mdb.now c.requires.area c.requires.whole_size _ _ c.args.fork.now.length c.requires.fork.within c.requires.fork.room c.in_ok-extents.ensures
