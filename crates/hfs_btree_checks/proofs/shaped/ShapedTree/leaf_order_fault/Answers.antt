use Rattle.hfs_btree_checks.proofs.ShapeLawLemmas.{shape-law}
use Rattle.hfs_btree_checks.proofs.shaped.ShapedTree.leaf_order_fault.Goals as goal

pub leaf_order_fault-requires-clause-structure : goal.leaf_order_fault-requires-clause-structure
leaf_order_fault-requires-clause-structure g c =
    let self = c.args.self.now in
    ((shape-law g.K.Key self.size (g.N.Nodes.nodes self.nodes.now)).0 self.shaped).structure

pub leaf_order_fault-requires-clause-counts : goal.leaf_order_fault-requires-clause-counts
leaf_order_fault-requires-clause-counts g c =
    let self = c.args.self.now in
    ((shape-law g.K.Key self.size (g.N.Nodes.nodes self.nodes.now)).0 self.shaped).counts
