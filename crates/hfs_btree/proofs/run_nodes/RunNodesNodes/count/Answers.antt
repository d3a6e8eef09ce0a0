use Rattle.std.proofs.Common.{◌≡◌, ◌∙◌, sym, rules}
use Rattle.hfs_blocks.specs.Blocks.{total_of}
use Rattle.hfs_btree.proofs.Runs.{length-nodes_in}
use Rattle.hfs_btree.proofs.run_nodes.RunNodesNodes.count.Goals as goal

pub returns : goal.returns
returns g c =
    let counted : c.sum.result ≡ total_of c.args.self.now.runs.now = search rules in
    counted ∙ sym (length-nodes_in (g.B.Blocks.blocks c.args.self.now.blocks.now) c.args.self.now.runs.now)
