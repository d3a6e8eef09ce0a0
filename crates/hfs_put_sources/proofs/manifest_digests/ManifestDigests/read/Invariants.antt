-- What the sources told so far, and behind it what those tell that are left.
use Rattle.std.proofs.Common.{[], drop, map}
use Rattle.hfs_put_sources.specs.Faults.{FailLater}
use Rattle.hfs_put_sources.specs.Trees.{OfEachTree}
use Rattle.hfs_put_sources.specs.Digests.{digest_by_source}
use Rattle.hfs_put_sources.proofs.LaterLemmas.{TellsOn}
use Rattle.hfs_put_sources.proofs.manifest_digests.ManifestDigests.read.Given as goal

abbrev pub invariant-loop-source : goal.invariant-loop-source
invariant-loop-source g l = record {
  told : OfEachTree (g.T.HostTree.Holds l.tree)
      (λ host. TellsOn (digest_by_source host) (map (λ s. s.now) (drop l.source-index l.sources)) (map (λ s. s.now) l.sources) [] l.digests);
  held : OfEachTree (g.T.HostTree.Holds l.tree) (g.T.HostTree.Holds l.fn.tree);
  later : FailLater (g.T.HostTree.Fails l.tree) (g.T.HostTree.Fails l.fn.tree);
}
