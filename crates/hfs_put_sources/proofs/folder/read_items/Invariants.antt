-- The items so far, and behind them those of the places that are left.
use Rattle.std.proofs.Common.{◌≡◌, ◌++◌, drop, map}
use Rattle.hfs_put_sources.specs.Faults.{FailLater}
use Rattle.hfs_put_sources.specs.Folders.{item_in}
use Rattle.hfs_put_sources.specs.Trees.{OfEachTree}
use Rattle.hfs_put_sources.proofs.folder.read_items.Given as goal

abbrev pub invariant-loop-place : goal.invariant-loop-place
invariant-loop-place g l = record {
  made : OfEachTree (g.T.HostTree.Holds l.tree) (λ host.
      l.items.items ++ map (item_in host (g.B.ToldItems.told l.told) l.how l.folder.path.now l.folder.place l.entries) (drop l.place-index l.places)
      ≡ map (item_in host (g.B.ToldItems.told l.told) l.how l.folder.path.now l.folder.place l.entries) l.places);
  held : OfEachTree (g.T.HostTree.Holds l.tree) (g.T.HostTree.Holds l.fn.tree);
  later : FailLater (g.T.HostTree.Fails l.tree) (g.T.HostTree.Fails l.fn.tree);
}
