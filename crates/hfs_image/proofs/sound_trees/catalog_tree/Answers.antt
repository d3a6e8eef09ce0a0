-- The file lies in the volume, and has these blocks.
use Rattle.hfs_source.specs.Sparse.{sparse}
use Rattle.hfs_image.proofs.SoundTrees.{area, catalog-within, catalog-lies}
use Rattle.hfs_image.proofs.sound_trees.catalog_tree.Goals as goal

pub tree_runs-requires-clause-area : goal.tree_runs-requires-clause-area
tree_runs-requires-clause-area c =
    area c.volume.result.count c.args.count c.volume.ensures.count (sparse c.args.read.now) c.args.mdb.now c.requires.directory c.requires.sound

pub tree_runs-requires-clause-extents : goal.tree_runs-requires-clause-extents
tree_runs-requires-clause-extents c =
    catalog-within c.volume.result.count c.args.count c.volume.ensures.count (sparse c.args.read.now) c.args.mdb.now c.requires.directory c.requires.sound
    c.args.extents.now c.requires.extents

pub returns : goal.returns
returns c =
    catalog-lies c.volume.result.count c.args.count c.volume.ensures.count (sparse c.args.read.now) c.args.mdb.now c.requires.directory c.requires.sound
    c.args.extents.now c.requires.extents c.tree_runs.result c.tree_runs.ensures.within c.tree_runs.ensures.numbers
