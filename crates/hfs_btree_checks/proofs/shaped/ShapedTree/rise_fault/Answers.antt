use Rattle.hfs_btree_checks.proofs.ShapeLawLemmas.{shape-law}
use Rattle.hfs_btree_checks.proofs.shaped.ShapedTree.rise_fault.Goals as goal

pub rise_fault-requires-clause-structure : goal.rise_fault-requires-clause-structure
rise_fault-requires-clause-structure g c =
    let self = c.args.self.now in
    ((shape-law g.K.Key self.size (g.N.Nodes.nodes self.nodes.now)).0 self.shaped).structure

pub rise_fault-requires-clause-counts : goal.rise_fault-requires-clause-counts
rise_fault-requires-clause-counts g c =
    let self = c.args.self.now in
    ((shape-law g.K.Key self.size (g.N.Nodes.nodes self.nodes.now)).0 self.shaped).counts
