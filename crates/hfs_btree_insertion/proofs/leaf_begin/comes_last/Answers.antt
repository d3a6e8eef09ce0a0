use Rattle.hfs_btree.proofs.FoundLemmas.{found-entries}
use Rattle.hfs_btree_insertion.proofs.PlaceBehind.{behind-leaf}
use Rattle.hfs_btree_insertion.proofs.leaf_begin.comes_last.Goals as goal

pub is_below-requires-clause-leaf : goal.is_below-requires-clause-leaf
is_below-requires-clause-leaf g c =
    found-entries g.K.Key g.met.K.Key.total (g.N.Nodes.nodes c.args.nodes.now) c.args.key.now c.requires.sound c.requires.some c.descend.result c.descend.ensures.leaf c.descend.new.bytes c.descend.ensures.bytes

pub returns : goal.returns
returns g c = λ yes.
    behind-leaf g.K.Key c.args.key.now (g.N.Nodes.nodes c.args.nodes.now) c.descend.result c.descend.new.bytes c.descend.ensures.bytes c.args.len c.descend.ensures.leaf (c.is_below.ensures.above yes) (c.is_below.ensures.full yes)
