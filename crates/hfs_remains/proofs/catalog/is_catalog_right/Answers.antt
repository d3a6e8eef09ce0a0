use Rattle.std.proofs.Common.{ℕ, sym, subst, ◌∙◌}
use Rattle.hfs_btree.specs.Sound.{HasStructure, HasCounts}
use Rattle.hfs_catalog.specs.Tree.{cat_keys}
use Rattle.hfs_remains.specs.TreeFiles.{first_nodes}
use Rattle.hfs_remains.specs.CatalogRecords.{catalog_nodes}
use Rattle.hfs_remains.proofs.RightLemmas.{catalog-shaped}
use Rattle.hfs_check.proofs.LawsProved.{no_catalog_fault}
use Rattle.hfs_remains.proofs.catalog.is_catalog_right.Goals as goal

pub read_records-requires-clause-structure : goal.read_records-requires-clause-structure
read_records-requires-clause-structure g c =
    let s = c.args.nodes.now in
    let blocks = g.B.Blocks.blocks s.blocks.now in
    let shaped = catalog-shaped s.mdb.now (catalog_nodes blocks s.mdb.now s.file.now) c.args.extents.now no_catalog_fault (sym c.in_ok-is_catalog_tree_right.ensures ∙ c.if-branch.true) in
    subst (λ (n : ℕ). HasStructure cat_keys (first_nodes blocks s.mdb.now s.file.now n)) (sym c.node_count-count.ensures) shaped.structure

pub read_records-requires-clause-counts : goal.read_records-requires-clause-counts
read_records-requires-clause-counts g c =
    let s = c.args.nodes.now in
    let blocks = g.B.Blocks.blocks s.blocks.now in
    let shaped = catalog-shaped s.mdb.now (catalog_nodes blocks s.mdb.now s.file.now) c.args.extents.now no_catalog_fault (sym c.in_ok-is_catalog_tree_right.ensures ∙ c.if-branch.true) in
    subst (λ (n : ℕ). HasCounts cat_keys (first_nodes blocks s.mdb.now s.file.now n)) (sym c.node_count-count.ensures) shaped.counts
