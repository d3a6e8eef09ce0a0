-- The nodes in the runs are those of the extents tree.
use Rattle.std.proofs.Common.{◌≡◌, List, sym, subst}
use Rattle.std.specs.Prelude.{IfOk}
use Rattle.hfs_fields.specs.declared.extent.Extent.{Extent}
use Rattle.hfs_space.specs.TreeKeys.{IsExtentsTree}
use Rattle.hfs_call_patches.proofs.Ready.{nodes_are, tree_is, found_are}
use Rattle.hfs_call_patches.proofs.extents.extents_of.Goals as goal

pub fork_extents-requires : goal.fork_extents-requires
fork_extents-requires g c =
    let old = g.B.Blocks.blocks c.args.blocks.now in
    let total = g.B.Blocks.total c.args.blocks.now in
    subst IsExtentsTree (sym (nodes_are total old c.args.runs.now c.requires.file)) (tree_is total old c.requires.sound)

pub returns : goal.returns
returns g c =
    let old = g.B.Blocks.blocks c.args.blocks.now in
    let total = g.B.Blocks.total c.args.blocks.now in
    subst (λ (es : List Extent). IfOk c.fork_extents.result (λ v. v.items ≡ es))
    (found_are old c.args.fork c.args.file.now _ (nodes_are total old c.args.runs.now c.requires.file) c.kind_of.result c.kind_of.ensures c.fork_of.result c.fork_of.ensures)
    c.fork_extents.ensures
