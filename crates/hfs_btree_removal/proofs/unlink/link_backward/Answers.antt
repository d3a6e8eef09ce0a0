use Rattle.hfs_btree.proofs.DecodedLemmas.{decoded-within}
use Rattle.hfs_btree_removal.proofs.unlink.link_backward.Goals as goal

pub store-requires-clause-within : goal.store-requires-clause-within
store-requires-clause-within g c = decoded-within (g.S.Nodes.nodes c.args.nodes.now) c.args.n c.in_ok-node.node c.in_ok-node.ensures.node
