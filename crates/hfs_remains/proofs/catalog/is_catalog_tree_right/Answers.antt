use Rattle.std.proofs.Common.{◌≡◌, ℕ, Option, Some, sym, ap, subst, ◌∙◌, arith}
use Rattle.std.specs.Option.{is_none}
use Rattle.std.proofs.lemmas.List.FromFn.{length-map-range_with_len}
use Rattle.hfs_btree_checks.specs.Shape.{shape_fault}
use Rattle.hfs_btree_checks.specs.ShapeSteps.{IsFault}
use Rattle.hfs_btree_checks.specs.declared.fault.TreeFault.{TreeFault}
use Rattle.hfs_catalog.specs.Tree.{cat_keys}
use Rattle.hfs_remains.specs.TreeFiles.{first_nodes, node_at}
use Rattle.hfs_remains.specs.CatalogRecords.{catalog_nodes}
use Rattle.hfs_remains.proofs.RightLemmas.{wrong-catalog-file, right-catalog-file}
use Rattle.hfs_remains.proofs.catalog.is_catalog_tree_right.Goals as goal

pub returns-then-not-is_tree_file : goal.returns-then-not-is_tree_file
returns-then-not-is_tree_file g c =
    let mdb = c.args.nodes.now.mdb.now in
    sym (wrong-catalog-file mdb (catalog_nodes (g.B.Blocks.blocks c.args.nodes.now.blocks.now) mdb c.args.nodes.now.file.now) c.args.extents.now (sym c.is_tree_file.ensures ∙ c.if-not-is_tree_file.true))

pub check_shape-requires : goal.check_shape-requires
check_shape-requires g c =
    let s = c.args.nodes.now in
    omega (arith, c.node_count.ensures, length-map-range_with_len (node_at (g.B.Blocks.blocks s.blocks.now) s.mdb.now s.file.now) 0 c.node_count.result)

pub returns-in-Ok : goal.returns-in-Ok
returns-in-Ok g c =
    let s = c.args.nodes.now in
    let mdb = s.mdb.now in
    let blocks = g.B.Blocks.blocks s.blocks.now in
    let fault = λ (n : ℕ). shape_fault cat_keys mdb.catalog_file_size (first_nodes blocks mdb s.file.now n) in
    sym
    (right-catalog-file mdb (catalog_nodes blocks mdb s.file.now) c.args.extents.now (sym c.is_tree_file.ensures ∙ c.if-not-is_tree_file.false)
    ∙ ap (λ (n : ℕ). is_none (fault n)) (sym c.node_count.ensures)
    ∙ ap (λ (o : Option ℕ). is_none o) c.in-Ok.ensures.place)

pub returns-in-Err-At : goal.returns-in-Err-At
returns-in-Err-At g c =
    let s = c.args.nodes.now in
    let mdb = s.mdb.now in
    let blocks = g.B.Blocks.blocks s.blocks.now in
    let fault = λ (n : ℕ). shape_fault cat_keys mdb.catalog_file_size (first_nodes blocks mdb s.file.now n) in
    let at : fault c.node_count.result ≡ Some c.in-Err-At.field-0-0 =
    subst (λ (e : TreeFault). IsFault (fault c.node_count.result) e) c.in-Err-At.field-0-is c.in-Err-At.ensures.place in
    sym
    (right-catalog-file mdb (catalog_nodes blocks mdb s.file.now) c.args.extents.now (sym c.is_tree_file.ensures ∙ c.if-not-is_tree_file.false)
    ∙ ap (λ (n : ℕ). is_none (fault n)) (sym c.node_count.ensures)
    ∙ ap (λ (o : Option ℕ). is_none o) at)
