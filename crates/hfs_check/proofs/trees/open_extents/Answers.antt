use Rattle.std.proofs.Common.{◌≡◌, true, false, subst}
use Rattle.std.specs.Prelude.{MatchOption}
use Rattle.hfs_space.specs.Faults.{is_tree_file}
use Rattle.hfs_space.specs.TreeFiles.{tree_nodes, tree_blocks}
use Rattle.hfs_check.specs.Trees.{LieIn}
use Rattle.hfs_check.proofs.Opened.{extents_lie}
use Rattle.hfs_check.proofs.trees.open_extents.Goals as goal

pub returns-in_ok-check_extents-in-Some-clause-runs : goal.returns-in_ok-check_extents-in-Some-clause-runs
returns-in_ok-check_extents-in-Some-clause-runs g c =
    let mdb = c.args.mdb.now in
    let total = g.B.Blocks.total c.args.blocks.now in
    let blocks = g.B.Blocks.blocks c.args.blocks.now in
    let found = subst (λ o. MatchOption o (is_tree_file mdb mdb.extents_file mdb.extents_file_size ≡ false)
    (λ runs. (is_tree_file mdb mdb.extents_file mdb.extents_file_size ≡ true) × LieIn total blocks runs.items (tree_blocks mdb mdb.extents_file mdb.extents_file_size) (tree_nodes blocks mdb mdb.extents_file mdb.extents_file_size)))
    c.in-Some.is c.in_ok-file_runs.ensures in
    extents_lie total blocks mdb c.in-Some.runs.items c.requires.is found.1
