use Rattle.std.proofs.Common.{arith, ◌≤◌, length}
use Rattle.hfs_btree.specs.Node.{node_of}
use Rattle.hfs_btree.specs.Tree.{records_of}
use Rattle.hfs_btree.proofs.Walks.{settle-within, settle-room, settle-walk, settle-same}
use Rattle.hfs_btree.proofs.leaf.settle.Goals as goal

pub read-requires : goal.read-requires
read-requires g c =
    settle-within g.K.Key (g.N.Nodes.nodes c.args.nodes.now) c.requires.structure c.args.bytes.now c.args.place c.args.most c.requires.at (omega (arith, c.requires.count)) c.forward_in-next.result c.forward_in-next.ensures c.if-next-eq0.false

pub overflow_sub-result : goal.overflow_sub-result
overflow_sub-result g c =
    let past : length (records_of (node_of c.args.bytes.now)) ≤ c.args.place = omega (arith, c.requires.count) in
    let room = settle-room g.K.Key (g.N.Nodes.nodes c.args.nodes.now) c.requires.structure c.args.bytes.now c.args.place c.args.most c.requires.at past c.forward_in-next.result c.forward_in-next.ensures c.if-next-eq0.false in
    omega arith

pub returns-clause-walk : goal.returns-clause-walk
returns-clause-walk g c =
    settle-walk g.K.Key (g.N.Nodes.nodes c.args.nodes.now) c.requires.structure c.args.bytes.now c.args.place c.args.most c.requires.at (omega (arith, c.requires.count)) c.forward_in-next.result c.forward_in-next.ensures c.if-next-eq0.false
    c.read.new.into c.read.ensures

pub returns-clause-same : goal.returns-clause-same
returns-clause-same g c =
    settle-same g.K.Key (g.N.Nodes.nodes c.args.nodes.now) c.requires.structure c.args.bytes.now c.read.new.into c.args.place c.args.most c.forward_in-next.result c.requires.at (omega (arith, c.requires.count)) c.forward_in-next.ensures c.if-next-eq0.false
    c.read.ensures
