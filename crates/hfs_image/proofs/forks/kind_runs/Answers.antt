-- The extents lie in the volume, and have these blocks.
use Rattle.std.proofs.Common.{◌∙◌, sym, subst, List}
use Rattle.hfs_fields.specs.declared.extent.Extent.{Extent}
use Rattle.hfs_fields.specs.declared.mdb.Mdb.{Mdb}
use Rattle.hfs_blocks.specs.Blocks.{nodes_in}
use Rattle.hfs_space.specs.Extents.{AreExtentsWithin, fork_extents, fork_byte}
use Rattle.hfs_check.specs.Parts.{overflow_in}
use Rattle.hfs_source.specs.Sparse.{sparse}
use Rattle.hfs_image.proofs.ForkBytes.{extents-by, runs-so}
use Rattle.hfs_image.proofs.forks.kind_runs.Goals as goal

pub tree_runs-requires-clause-extents : goal.tree_runs-requires-clause-extents
tree_runs-requires-clause-extents c =
    subst (λ (extents : List Extent). AreExtentsWithin c.args.volume.now.sound.mdb.allocation_blocks extents)
    (sym (c.deref-2.ensures.value ∙ c.in_ok-extents.ensures
    ∙ extents-by (sparse c.args.volume.now.read) _ ((λ i. nodes_in (sparse (c.volume-blocks.ensures.read i)) (c.deref.ensures.value i)) ∙ c.requires.trees.extents.same)
    c.args.fork.now.file c.args.fork.now.kind c.args.fork.now.fields.now.extents))
    (subst (λ (mdb : Mdb). AreExtentsWithin mdb.allocation_blocks (fork_extents (overflow_in (sparse c.args.volume.now.read)) c.args.fork.now.file (fork_byte c.args.fork.now.kind) c.args.fork.now.fields.now.extents))
    (sym c.requires.directory) c.requires.fork.within)

pub returns-clause-runs : goal.returns-clause-runs
returns-clause-runs c =
    runs-so c.tree_runs.result c.volume-blocks.result.count c.args.volume.now.count c.args.volume.now.sound.mdb c.deref-2.result.now c.volume-blocks.ensures.count c.args.volume.now.read
    c.args.fork.now.file c.args.fork.now.kind c.args.fork.now.fields.now c.requires.directory
    (c.deref-2.ensures.value ∙ c.in_ok-extents.ensures
    ∙ extents-by (sparse c.args.volume.now.read) _ ((λ i. nodes_in (sparse (c.volume-blocks.ensures.read i)) (c.deref.ensures.value i)) ∙ c.requires.trees.extents.same)
    c.args.fork.now.file c.args.fork.now.kind c.args.fork.now.fields.now.extents)
    c.tree_runs.ensures.within c.tree_runs.ensures.numbers
