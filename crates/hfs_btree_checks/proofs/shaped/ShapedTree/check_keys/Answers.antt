use Rattle.hfs_btree_checks.proofs.ShapeLawLemmas.{shape-law}
use Rattle.hfs_btree_checks.proofs.shaped.ShapedTree.check_keys.Goals as goal

pub check_keys-requires : goal.check_keys-requires
check_keys-requires g c =
    let self = c.args.self.now in
    ((shape-law g.K.Key self.size (g.N.Nodes.nodes self.nodes.now)).0 self.shaped).structure
