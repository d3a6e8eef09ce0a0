use Rattle.std.proofs.Common.{arith}
use Rattle.hfs_btree_edits.proofs.StoreLemmas.{on-ok}
use Rattle.hfs_btree_insertion.proofs.BegunWrites.{long-after, few-after, begun-at}
use Rattle.hfs_btree_insertion.proofs.Cutting.{parent-within}
use Rattle.hfs_btree_insertion.proofs.CutCalls.{index-there, parent-decodes, place-small, first-ready, right-ready}
use Rattle.hfs_btree_insertion.proofs.leaf_begin.begin_child.Goals as goal

pub child_named-n-requires-clause-within : goal.child_named-n-requires-clause-within
child_named-n-requires-clause-within g c = parent-within g.K.Key (g.S.Nodes.nodes c.args.nodes.now) c.requires.sound 0 c.args.parent c.args.place c.requires.branch

pub child_named-n-requires-clause-reads : goal.child_named-n-requires-clause-reads
child_named-n-requires-clause-reads g c = index-there g.K.Key (g.S.Nodes.nodes c.args.nodes.now) c.requires.sound 0 c.args.parent c.args.place c.requires.branch

pub overflow_add-place : goal.overflow_add-place
overflow_add-place g c =
    let small = place-small g.K.Key (g.S.Nodes.nodes c.args.nodes.now) c.requires.sound 0 c.args.parent c.args.place c.requires.branch in
    omega (arith, small)

pub put_record-requires-clause-node : goal.put_record-requires-clause-node
put_record-requires-clause-node g c = parent-decodes g.K.Key (g.S.Nodes.nodes c.args.nodes.now) c.requires.sound 0 c.args.parent c.args.place c.requires.branch

pub put_behind-requires-clause-first : goal.put_behind-requires-clause-first
put_behind-requires-clause-first g c =
    first-ready g.K.Key (g.S.Nodes.nodes c.args.nodes.now) c.requires.sound 0 c.args.parent c.args.place c.requires.branch c.child_named-n.result c.child_named-n.ensures c.args.m c.requires.stray
    _ _ c.in_ok-put_record.ensures.put

pub put_behind-requires-clause-right : goal.put_behind-requires-clause-right
put_behind-requires-clause-right g c =
    right-ready g.K.Key (g.S.Nodes.nodes c.args.nodes.now) c.requires.sound 0 c.args.parent c.args.place c.requires.branch c.child_named-n.result c.child_named-n.ensures c.args.m c.requires.stray
    _ _ c.in_ok-put_record.ensures.put

pub count_record-requires-clause-within : goal.count_record-requires-clause-within
count_record-requires-clause-within g c =
    (long-after g.K.Key (g.S.Nodes.nodes c.args.nodes.now) c.requires.sound c.args.parent c.args.place c.requires.branch c.child_named-n.result c.child_named-n.ensures c.args.m c.requires.stray
    c.in_ok-above.above.items c.args.entry.items (g.S.Nodes.nodes c.put_record.new.nodes) c.in_ok-put_record.ensures.put c.requires.leaf c.in_ok-above.ensures.index c.in_ok-above.ensures.child
    (g.S.Nodes.nodes c.put_behind.new.nodes) c.in_ok-put_behind.ensures.behind).0

pub count_record-requires-clause-long : goal.count_record-requires-clause-long
count_record-requires-clause-long g c =
    (long-after g.K.Key (g.S.Nodes.nodes c.args.nodes.now) c.requires.sound c.args.parent c.args.place c.requires.branch c.child_named-n.result c.child_named-n.ensures c.args.m c.requires.stray
    c.in_ok-above.above.items c.args.entry.items (g.S.Nodes.nodes c.put_record.new.nodes) c.in_ok-put_record.ensures.put c.requires.leaf c.in_ok-above.ensures.index c.in_ok-above.ensures.child
    (g.S.Nodes.nodes c.put_behind.new.nodes) c.in_ok-put_behind.ensures.behind).1

pub count_record-requires-clause-few : goal.count_record-requires-clause-few
count_record-requires-clause-few g c =
    few-after g.K.Key (g.S.Nodes.nodes c.args.nodes.now) c.requires.sound c.args.parent c.args.place c.requires.branch c.child_named-n.result c.child_named-n.ensures c.args.m c.requires.stray
    c.in_ok-above.above.items c.args.entry.items (g.S.Nodes.nodes c.put_record.new.nodes) c.in_ok-put_record.ensures.put c.requires.leaf c.in_ok-above.ensures.index c.in_ok-above.ensures.child
    (g.S.Nodes.nodes c.put_behind.new.nodes) c.in_ok-put_behind.ensures.behind c.requires.few

pub returns-clause-begun : goal.returns-clause-begun
returns-clause-begun g c =
    on-ok _ _ c.count_record.result
    (λ h. begun-at g.K.Key (g.S.Nodes.nodes c.args.nodes.now) c.requires.sound c.args.parent c.args.place c.requires.branch c.child_named-n.result c.child_named-n.ensures c.args.m c.requires.stray
    c.in_ok-above.above.items c.args.entry.items (g.S.Nodes.nodes c.put_record.new.nodes) c.in_ok-put_record.ensures.put c.requires.leaf c.in_ok-above.ensures.index c.in_ok-above.ensures.child
    (g.S.Nodes.nodes c.put_behind.new.nodes) c.in_ok-put_behind.ensures.behind c.args.key.now
    c.in_ok-above.ensures.key _ h)
    c.count_record.ensures.counted
