use Rattle.std.proofs.Common.{refl}
use Rattle.hfs_btree_insertion.proofs.RaiseWhole.{root-decodes, first-there, first-reads}
use Rattle.hfs_btree_insertion.proofs.new_root.root_above.Goals as goal

pub load-requires : goal.load-requires
load-requires g c = root-decodes g.K.Key (g.N.Nodes.nodes c.args.nodes.now) c.requires.sound c.requires.some c.args.header.now c.requires.header

pub record-requires : goal.record-requires
record-requires g c = first-there g.K.Key (g.N.Nodes.nodes c.args.nodes.now) c.requires.sound c.requires.some c.args.header.now c.requires.header c.in_ok-old.old c.in_ok-old.ensures.node

pub key_at-key-requires : goal.key_at-key-requires
key_at-key-requires g c =
    first-reads g.K.Key (g.N.Nodes.nodes c.args.nodes.now) c.requires.sound c.requires.some c.args.header.now c.requires.header c.in_ok-old.old c.in_ok-old.ensures.node _ _ c.record.ensures refl
