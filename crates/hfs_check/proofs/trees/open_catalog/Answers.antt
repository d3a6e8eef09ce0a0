use Rattle.std.proofs.Common.{◌≡◌, true, false, subst, ◌∙◌}
use Rattle.std.specs.Prelude.{MatchOption}
use Rattle.hfs_space.specs.Faults.{is_tree_file}
use Rattle.hfs_space.specs.TreeFiles.{tree_nodes, tree_blocks}
use Rattle.hfs_check.specs.Trees.{LieIn}
use Rattle.hfs_check.proofs.Opened.{catalog_lies}
use Rattle.hfs_check.proofs.trees.open_catalog.Goals as goal

pub returns-in_ok-check_catalog-in-Some-clause-runs : goal.returns-in_ok-check_catalog-in-Some-clause-runs
returns-in_ok-check_catalog-in-Some-clause-runs g c =
    let mdb = c.args.mdb.now in
    let total = g.B.Blocks.total c.args.blocks.now in
    let blocks = g.B.Blocks.blocks c.args.blocks.now in
    let extents = c.deref.result.now in
    let found = subst (λ o. MatchOption o (is_tree_file mdb extents mdb.catalog_file_size ≡ false)
    (λ runs. (is_tree_file mdb extents mdb.catalog_file_size ≡ true) × LieIn total blocks runs.items (tree_blocks mdb extents mdb.catalog_file_size) (tree_nodes blocks mdb extents mdb.catalog_file_size)))
    c.in-Some.is c.in_ok-file_runs.ensures in
    catalog_lies total blocks mdb extents c.in-Some.runs.items c.requires.is (c.deref.ensures.value ∙ c.in_ok-extents.ensures) found.1
