use Rattle.std.proofs.Common.{◌≡◌, ℕ, ◌-◌, ◌<◌, ◌≤◌, true}
use Rattle.hfs_btree.specs.Header.{bit_of}
use Rattle.hfs_image.specs.TreeReads.{HasNode, ReadsRuns}
use Rattle.hfs_source.specs.Seen.{SeesMore}
use Rattle.hfs_image.proofs.tree_nodes.fetch_marked.Given as goal

abbrev pub invariant-loop-n : goal.invariant-loop-n
invariant-loop-n g l = record {
  few : l.n ≤ l.tree.nodes;
  has : (k : ℕ) → k < l.n → bit_of l.map k ≡ true → HasNode l.read l.tree.runs.now k;
  reads : ReadsRuns (g.S.BlockSource.image l.initial.source) l.tree.runs.now l.initial.read l.read;
  image : g.S.BlockSource.image l.source ≡ g.S.BlockSource.image l.initial.source;
  sees : SeesMore (g.S.BlockSource.Holds l.initial.source) (g.S.BlockSource.Holds l.source) l.initial.read l.read;
}

abbrev pub decreases-loop-n : goal.decreases-loop-n
decreases-loop-n g l = l.tree.nodes - l.n
