-- The file lies in the volume, and has these blocks.
use Rattle.hfs_source.specs.Sparse.{sparse}
use Rattle.hfs_image.proofs.SoundTrees.{area, extents-within, extents-lie}
use Rattle.hfs_image.proofs.sound_trees.extents_tree.Goals as goal

pub tree_runs-requires-clause-area : goal.tree_runs-requires-clause-area
tree_runs-requires-clause-area c =
    area c.volume.result.count c.args.count c.volume.ensures.count (sparse c.args.read.now) c.args.mdb.now c.requires.directory c.requires.sound

pub tree_runs-requires-clause-extents : goal.tree_runs-requires-clause-extents
tree_runs-requires-clause-extents c =
    extents-within c.volume.result.count c.args.count c.volume.ensures.count (sparse c.args.read.now) c.args.mdb.now c.requires.directory c.requires.sound

pub returns : goal.returns
returns c =
    extents-lie c.volume.result.count c.args.count c.volume.ensures.count (sparse c.args.read.now) c.args.mdb.now c.requires.directory c.requires.sound
    c.tree_runs.result c.tree_runs.ensures.within c.tree_runs.ensures.numbers
