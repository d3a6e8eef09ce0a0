-- The catalog file is file 4, whose extents go on in the extents tree.
use Rattle.std.proofs.Common.{◌≡◌, ◌∙◌, List, sym, subst}
use Rattle.std.specs.Prelude.{IfOk}
use Rattle.hfs_fields.specs.declared.extent.Extent.{Extent}
use Rattle.hfs_blocks.specs.Blocks.{nodes_in}
use Rattle.hfs_btree.specs.Tree.{Store}
use Rattle.hfs_space.specs.TreeKeys.{IsExtentsTree}
use Rattle.hfs_check.proofs.Opened.{catalog_extents-is}
use Rattle.hfs_source.specs.Sparse.{sparse}
use Rattle.hfs_check.proofs.LawsProved.{trees_are_sound}
use Rattle.hfs_image.proofs.sound_trees.catalog_file.Goals as goal

pub fork_extents-requires : goal.fork_extents-requires
fork_extents-requires c =
    subst (λ (nodes : Store). IsExtentsTree nodes) (sym ((λ i. nodes_in (sparse (c.volume.ensures.read i)) c.args.extents_tree.now) ∙ c.requires.runs.same))
    (trees_are_sound c.args.count (sparse c.args.read.now) c.requires.sound).0

pub returns : goal.returns
returns c =
    subst (λ (wanted : List Extent). IfOk c.fork_extents.result (λ extents. extents.items ≡ wanted))
    (catalog_extents-is (sparse c.args.read.now) c.args.mdb.now _ c.requires.directory
    ((λ i. nodes_in (sparse (c.volume.ensures.read i)) c.args.extents_tree.now) ∙ c.requires.runs.same)) c.fork_extents.ensures
