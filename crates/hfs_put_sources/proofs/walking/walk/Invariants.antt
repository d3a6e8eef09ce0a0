-- The items so far, and behind them the walk of what is to come.
use Rattle.hfs_put_sources.specs.Faults.{FailLater}
use Rattle.hfs_put_sources.specs.Trees.{OfEachTree}
use Rattle.hfs_put_sources.specs.Walks.{with_twins}
use Rattle.hfs_put_sources.proofs.WalkLemmas.{GoesOn}
use Rattle.hfs_put_sources.proofs.walking.walk.Given as goal

abbrev pub invariant-loop : goal.invariant-loop
invariant-loop g l = record {
  goes : GoesOn (g.T.HostTree.Holds l.tree) (g.B.ToldItems.told l.told) l.how l.items.items l.todo.items (with_twins l.fn.top.items);
  held : OfEachTree (g.T.HostTree.Holds l.tree) (g.T.HostTree.Holds l.fn.tree);
  later : FailLater (g.T.HostTree.Fails l.tree) (g.T.HostTree.Fails l.fn.tree);
}
