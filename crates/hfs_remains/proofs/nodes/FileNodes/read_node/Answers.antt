use Rattle.std.proofs.Common.{◌∙◌, ap, arith}
use Rattle.hfs_btree.specs.Node.{node_of}
use Rattle.hfs_remains.proofs.NodeLemmas.{node_of-node_at}
use Rattle.hfs_remains.proofs.nodes.FileNodes.read_node.Goals as goal

pub returns : goal.returns
returns g c =
    let s = c.args.self.now in
    ap node_of c.read.ensures ∙ node_of-node_at (g.B.Blocks.blocks s.blocks.now) s.mdb.now s.file.now c.args.n (omega (arith, s.size))
