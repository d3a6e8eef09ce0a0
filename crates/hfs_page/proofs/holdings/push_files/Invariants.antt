-- what is added and what is still to come make all
use Rattle.std.proofs.Common.{◌≡◌, ◌++◌, drop}
use Rattle.std.specs.List.{flat_map}
use Rattle.hfs_space.specs.Runs.{files_in}
use Rattle.hfs_space.specs.TreeKeys.{overflow_of}
use Rattle.hfs_page.specs.Holdings.{file_holdings}
use Rattle.hfs_page.proofs.holdings.push_files.Given as goal

abbrev pub invariant-loop-i : goal.invariant-loop-i
invariant-loop-i g l =
    l.holdings.items ++ flat_map (file_holdings (overflow_of (g.N.Nodes.nodes l.tree))) (files_in l.i (drop l.i l.records))
    ≡ l.initial.holdings.items ++ flat_map (file_holdings (overflow_of (g.N.Nodes.nodes l.tree))) (files_in 0 l.records)
