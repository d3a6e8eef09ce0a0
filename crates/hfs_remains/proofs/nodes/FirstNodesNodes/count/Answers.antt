use Rattle.std.proofs.Common.{sym}
use Rattle.std.proofs.lemmas.List.FromFn.{length-map-range_with_len}
use Rattle.hfs_remains.specs.TreeFiles.{node_at}
use Rattle.hfs_remains.proofs.nodes.FirstNodesNodes.count.Goals as goal

pub returns : goal.returns
returns g c = let s = c.args.self.now in sym (length-map-range_with_len (node_at (g.B.Blocks.blocks s.nodes.now.blocks.now) s.nodes.now.mdb.now s.nodes.now.file.now) 0 s.count)
