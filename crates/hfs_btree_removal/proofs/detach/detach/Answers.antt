use Rattle.std.proofs.Common.{◌≤◌, sym, subst}
use Rattle.hfs_btree.specs.declared.header.Header.{Header}
use Rattle.hfs_btree_removal.proofs.OutWhole.{can-unlink, take-can, records-some, put-within, put-long}
use Rattle.hfs_btree_removal.proofs.detach.detach.Goals as goal

pub unlink_all-requires : goal.unlink_all-requires
unlink_all-requires g c =
    can-unlink g.K.Key g.met.K.Key.total (g.S.Nodes.nodes c.args.nodes.now) c.requires.sound c.requires.way.0 c.args.step.now c.args.chain.now c.requires.way.1

pub take_record-requires-clause-node : goal.take_record-requires-clause-node
take_record-requires-clause-node g c =
    (take-can g.K.Key g.met.K.Key.total (g.S.Nodes.nodes c.args.nodes.now) c.requires.sound c.requires.way.0 c.args.step.now c.args.chain.now c.requires.way.1 (g.S.Nodes.nodes c.unlink_all.new.nodes) c.in_ok-beside.ensures.linked).node

pub take_record-requires-clause-place : goal.take_record-requires-clause-place
take_record-requires-clause-place g c =
    (take-can g.K.Key g.met.K.Key.total (g.S.Nodes.nodes c.args.nodes.now) c.requires.sound c.requires.way.0 c.args.step.now c.args.chain.now c.requires.way.1 (g.S.Nodes.nodes c.unlink_all.new.nodes) c.in_ok-beside.ensures.linked).place

pub take_record-requires-clause-more : goal.take_record-requires-clause-more
take_record-requires-clause-more g c =
    (take-can g.K.Key g.met.K.Key.total (g.S.Nodes.nodes c.args.nodes.now) c.requires.sound c.requires.way.0 c.args.step.now c.args.chain.now c.requires.way.1 (g.S.Nodes.nodes c.unlink_all.new.nodes) c.in_ok-beside.ensures.linked).more

pub take_record-requires-clause-leaf : goal.take_record-requires-clause-leaf
take_record-requires-clause-leaf g c =
    (take-can g.K.Key g.met.K.Key.total (g.S.Nodes.nodes c.args.nodes.now) c.requires.sound c.requires.way.0 c.args.step.now c.args.chain.now c.requires.way.1 (g.S.Nodes.nodes c.unlink_all.new.nodes) c.in_ok-beside.ensures.linked).leaf

pub take_record-requires-clause-index : goal.take_record-requires-clause-index
take_record-requires-clause-index g c =
    (take-can g.K.Key g.met.K.Key.total (g.S.Nodes.nodes c.args.nodes.now) c.requires.sound c.requires.way.0 c.args.step.now c.args.chain.now c.requires.way.1 (g.S.Nodes.nodes c.unlink_all.new.nodes) c.in_ok-beside.ensures.linked).index

pub with_fewer-fewer-requires : goal.with_fewer-fewer-requires
with_fewer-fewer-requires g c =
    let P : Header → Type 0 = λ h. 1 ≤ h.records in
    subst P (sym c.requires.header) (records-some g.K.Key g.met.K.Key.total (g.S.Nodes.nodes c.args.nodes.now) c.requires.sound c.requires.way.0 c.args.step.now c.args.chain.now c.requires.way.1)

pub put_header-requires-clause-within : goal.put_header-requires-clause-within
put_header-requires-clause-within g c =
    put-within g.K.Key g.met.K.Key.total (g.S.Nodes.nodes c.args.nodes.now) c.requires.sound c.requires.way.0 c.args.step.now c.args.chain.now c.requires.way.1 (g.S.Nodes.nodes c.unlink_all.new.nodes) (g.S.Nodes.nodes c.take_record.new.nodes)
    c.in_ok-beside.ensures.linked c.in_ok-changed.ensures.taken

pub put_header-requires-clause-long : goal.put_header-requires-clause-long
put_header-requires-clause-long g c =
    put-long g.K.Key g.met.K.Key.total (g.S.Nodes.nodes c.args.nodes.now) c.requires.sound c.requires.way.0 c.args.step.now c.args.chain.now c.requires.way.1 (g.S.Nodes.nodes c.unlink_all.new.nodes) (g.S.Nodes.nodes c.take_record.new.nodes)
    c.in_ok-beside.ensures.linked c.in_ok-changed.ensures.taken
