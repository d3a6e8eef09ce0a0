use Rattle.std.proofs.Common.{◌≡◌, ap, sym, subst, ◌∙◌, None}
use Rattle.hfs_btree.specs.Tree.{Store}
use Rattle.hfs_blocks.specs.Blocks.{nodes_in}
use Rattle.hfs_btree_checks.specs.Order.{order_fault}
use Rattle.hfs_space.specs.TreeKeys.{ext_keys}
use Rattle.hfs_repair.specs.Opened.{is_extents_right}
use Rattle.hfs_repair.proofs.Openings.{order-right, catalog-file, found-right}
use Rattle.hfs_repair.proofs.catalog_tree.mendable_catalog_file.Goals as goal

pub catalog_extents-requires-clause-order : goal.catalog_extents-requires-clause-order
catalog_extents-requires-clause-order g c =
    let blocks = g.B.Blocks.blocks c.args.blocks.now in
    let found = found-right (is_extents_right blocks c.args.mdb.now) _ _ _ c.in-Some.is c.in_ok-extents.ensures in
    subst (λ (ns : Store). order_fault ext_keys ns ≡ None) (sym (ap (nodes_in blocks) c.deref.ensures.value ∙ found.1.runs.same))
    (order-right blocks c.args.mdb.now found.0)

pub returns : goal.returns
returns g c =
    let blocks = g.B.Blocks.blocks c.args.blocks.now in
    let found = found-right (is_extents_right blocks c.args.mdb.now) _ _ _ c.in-Some.is c.in_ok-extents.ensures in
    (found.0, c.in_ok-file.ensures ∙ catalog-file blocks c.args.mdb.now _ (ap (nodes_in blocks) c.deref.ensures.value ∙ found.1.runs.same))
