use Rattle.std.proofs.Common.{◌≡◌}
use Rattle.std.specs.Vec.{vec_len}
use Rattle.hfs_blocks.specs.Layers.{Numbered}
use Rattle.hfs_source.specs.Sparse.{HasGrown}
use Rattle.hfs_image.specs.TreeReads.{ReadsRuns}
use Rattle.hfs_image.proofs.TreeNodes.{GoesOn}
use Rattle.hfs_source.specs.Seen.{SeesMore}
use Rattle.hfs_image.proofs.tree_nodes.fetch_chain.Given as goal

abbrev pub invariant-loop-most : goal.invariant-loop-most
invariant-loop-most g l = record {
  goes : (fin : Numbered) → HasGrown l.read fin → GoesOn fin l.tree.runs.now l.tree.nodes l.first l.initial.met.items l.initial.map.items l.most l.n l.met.items l.map.items;
  reads : ReadsRuns (g.S.BlockSource.image l.initial.source) l.tree.runs.now l.initial.read l.read;
  image : g.S.BlockSource.image l.source ≡ g.S.BlockSource.image l.initial.source;
  sees : SeesMore (g.S.BlockSource.Holds l.initial.source) (g.S.BlockSource.Holds l.source) l.initial.read l.read;
  len : vec_len l.met ≡ l.tree.nodes;
}

abbrev pub decreases-loop-most : goal.decreases-loop-most
decreases-loop-most g l = l.most
