-- The items so far have the files that were seen.
use Rattle.std.proofs.Common.{ℕ, ◌<◌, get_or}
use Rattle.hfs_put_sources.specs.Faults.{FailLater}
use Rattle.hfs_put_sources.specs.Items.{PlannedItem}
use Rattle.hfs_put_sources.specs.Trees.{OfEachTree}
use Rattle.hfs_put.specs.Again.{IsUnchanged}
use Rattle.hfs_put.proofs.again.look_again.Given as goal

abbrev pub invariant-loop-item : goal.invariant-loop-item
invariant-loop-item g l = record {
  same : OfEachTree (g.T.HostTree.Holds l.tree) (λ host. (k : ℕ) (d : PlannedItem) → k < l.item-index → IsUnchanged host (get_or l.items k d));
  held : OfEachTree (g.T.HostTree.Holds l.tree) (g.T.HostTree.Holds l.fn.tree);
  later : FailLater (g.T.HostTree.Fails l.tree) (g.T.HostTree.Fails l.fn.tree);
}
