-- None was wrong so far.
use Rattle.std.proofs.Common.{◌≡◌, drop}
use Rattle.hfs_put_sources.specs.Faults.{FailLater}
use Rattle.hfs_put_sources.specs.Trees.{OfEachTree}
use Rattle.hfs_put_sources.specs.Digests.{first_wrong}
use Rattle.hfs_put_sources.specs.Later.{told_at}
use Rattle.hfs_put_sources.proofs.wrong_files.first_wrong_file.Given as goal

abbrev pub invariant-loop-item : goal.invariant-loop-item
invariant-loop-item g l = record {
  right : OfEachTree (g.T.HostTree.Holds l.tree)
      (λ host. first_wrong host (told_at l.manifests) (drop l.item-index l.items) ≡ first_wrong host (told_at l.manifests) l.items);
  held : OfEachTree (g.T.HostTree.Holds l.tree) (g.T.HostTree.Holds l.fn.tree);
  later : FailLater (g.T.HostTree.Fails l.tree) (g.T.HostTree.Fails l.fn.tree);
}
