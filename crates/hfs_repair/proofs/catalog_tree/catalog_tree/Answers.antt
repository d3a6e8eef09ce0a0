use Rattle.std.proofs.Common.{◌≡◌, ap, sym, subst, ◌∙◌, None}
use Rattle.hfs_btree.specs.Tree.{Store}
use Rattle.hfs_blocks.specs.Blocks.{nodes_in}
use Rattle.hfs_btree_checks.specs.Order.{order_fault}
use Rattle.hfs_space.specs.TreeKeys.{ext_keys}
use Rattle.hfs_repair.proofs.Openings.{order-right, catalog-file, catalog-found}
use Rattle.hfs_repair.proofs.catalog_tree.catalog_tree.Goals as goal

pub catalog_extents-requires-clause-order : goal.catalog_extents-requires-clause-order
catalog_extents-requires-clause-order g c =
    let blocks = g.B.Blocks.blocks c.args.blocks.now in
    subst (λ (ns : Store). order_fault ext_keys ns ≡ None) (sym (ap (nodes_in blocks) c.deref.ensures.value ∙ c.requires.extents.runs.same))
    (order-right blocks c.args.mdb.now c.requires.right)

pub returns : goal.returns
returns g c =
    let blocks = g.B.Blocks.blocks c.args.blocks.now in
    let same = ap (nodes_in blocks) c.deref.ensures.value ∙ c.requires.extents.runs.same in
    catalog-found (g.B.Blocks.total c.args.blocks.now) blocks c.args.mdb.now c.deref-2.result.now c.tree_file.result
    (c.deref-2.ensures.value ∙ c.in_ok-file.ensures ∙ catalog-file blocks c.args.mdb.now _ same)
    c.tree_file.ensures
