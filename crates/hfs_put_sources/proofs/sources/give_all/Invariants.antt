-- What the sources gave so far, and behind it what those give that are left.
use Rattle.std.proofs.Common.{drop, map}
use Rattle.hfs_put_sources.specs.Faults.{FailLater}
use Rattle.hfs_put_sources.specs.Trees.{OfEachTree}
use Rattle.hfs_put_sources.proofs.SourceLemmas.{GiveOn}
use Rattle.hfs_put_sources.proofs.sources.give_all.Given as goal

abbrev pub invariant-loop-source : goal.invariant-loop-source
invariant-loop-source g l = record {
  given : GiveOn (g.T.HostTree.Holds l.tree) (g.B.ToldItems.told l.told) l.how l.items.items (map (λ s. s.now) (drop l.source-index l.sources))
      (map (λ s. s.now) l.sources);
  held : OfEachTree (g.T.HostTree.Holds l.tree) (g.T.HostTree.Holds l.fn.tree);
  later : FailLater (g.T.HostTree.Fails l.tree) (g.T.HostTree.Fails l.fn.tree);
}
