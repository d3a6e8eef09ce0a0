use Rattle.hfs_btree_checks.proofs.ShapeLawLemmas.{shape-law}
use Rattle.hfs_btree_checks.proofs.shaped.ShapedTree.check_order.Goals as goal

pub check_order-requires-clause-structure : goal.check_order-requires-clause-structure
check_order-requires-clause-structure g c =
    let self = c.args.self.now in
    ((shape-law g.K.Key self.size (g.N.Nodes.nodes self.nodes.now)).0 self.shaped).structure

pub check_order-requires-clause-counts : goal.check_order-requires-clause-counts
check_order-requires-clause-counts g c =
    let self = c.args.self.now in
    ((shape-law g.K.Key self.size (g.N.Nodes.nodes self.nodes.now)).0 self.shaped).counts
