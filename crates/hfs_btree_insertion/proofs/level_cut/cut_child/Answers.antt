use Rattle.std.proofs.Common.{arith}
use Rattle.hfs_btree_edits.proofs.StoreLemmas.{on-ok}
use Rattle.hfs_btree_insertion.proofs.Cutting.{parent-within}
use Rattle.hfs_btree_insertion.proofs.CutCalls.{index-there, parent-decodes, place-small, child-there, child-each, child-short, child-entry, first-ready, place-ready, right-ready, cut-by}
use Rattle.hfs_btree_insertion.proofs.level_cut.cut_child.Goals as goal

pub child_named-n-requires-clause-within : goal.child_named-n-requires-clause-within
child_named-n-requires-clause-within g c = parent-within g.K.Key (g.S.Nodes.nodes c.args.nodes.now) c.requires.sound c.args.branch.above c.args.branch.parent c.args.branch.place c.requires.branch

pub child_named-n-requires-clause-reads : goal.child_named-n-requires-clause-reads
child_named-n-requires-clause-reads g c = index-there g.K.Key (g.S.Nodes.nodes c.args.nodes.now) c.requires.sound c.args.branch.above c.args.branch.parent c.args.branch.place c.requires.branch

pub cut_place-half-requires-clause-within : goal.cut_place-half-requires-clause-within
cut_place-half-requires-clause-within g c =
    child-there g.K.Key (g.S.Nodes.nodes c.args.nodes.now) c.requires.sound c.args.branch.above c.args.branch.parent c.args.branch.place c.requires.branch c.child_named-n.result c.child_named-n.ensures

pub cut_place-half-requires-clause-reads : goal.cut_place-half-requires-clause-reads
cut_place-half-requires-clause-reads g c =
    child-each g.K.Key (g.S.Nodes.nodes c.args.nodes.now) c.requires.sound c.args.branch.above c.args.branch.parent c.args.branch.place c.requires.branch c.child_named-n.result c.child_named-n.ensures

pub cut_place-half-requires-clause-short : goal.cut_place-half-requires-clause-short
cut_place-half-requires-clause-short g c =
    child-short g.K.Key (g.S.Nodes.nodes c.args.nodes.now) c.requires.sound c.args.branch.above c.args.branch.parent c.args.branch.place c.requires.branch c.child_named-n.result c.child_named-n.ensures g.met.K.Key.leaf_small
    g.met.K.Key.index_small

pub half_entry-requires-clause-within : goal.half_entry-requires-clause-within
half_entry-requires-clause-within g c =
    child-there g.K.Key (g.S.Nodes.nodes c.args.nodes.now) c.requires.sound c.args.branch.above c.args.branch.parent c.args.branch.place c.requires.branch c.child_named-n.result c.child_named-n.ensures

pub half_entry-requires-clause-reads : goal.half_entry-requires-clause-reads
half_entry-requires-clause-reads g c =
    child-entry g.K.Key (g.S.Nodes.nodes c.args.nodes.now) c.requires.sound c.args.branch.above c.args.branch.parent c.args.branch.place c.requires.branch c.child_named-n.result c.child_named-n.ensures c.cut_place-half.result
    c.cut_place-half.ensures.less

pub overflow_add-place : goal.overflow_add-place
overflow_add-place g c =
    let small = place-small g.K.Key (g.S.Nodes.nodes c.args.nodes.now) c.requires.sound c.args.branch.above c.args.branch.parent c.args.branch.place c.requires.branch in
    omega (arith, small)

pub put_record-requires-clause-node : goal.put_record-requires-clause-node
put_record-requires-clause-node g c = parent-decodes g.K.Key (g.S.Nodes.nodes c.args.nodes.now) c.requires.sound c.args.branch.above c.args.branch.parent c.args.branch.place c.requires.branch

pub halve-requires-clause-first : goal.halve-requires-clause-first
halve-requires-clause-first g c =
    first-ready g.K.Key (g.S.Nodes.nodes c.args.nodes.now) c.requires.sound c.args.branch.above c.args.branch.parent c.args.branch.place c.requires.branch c.child_named-n.result c.child_named-n.ensures c.args.m c.requires.stray
    _ _ c.in_ok-put_record.ensures.put

pub halve-requires-clause-place : goal.halve-requires-clause-place
halve-requires-clause-place g c =
    place-ready g.K.Key (g.S.Nodes.nodes c.args.nodes.now) c.requires.sound c.args.branch.above c.args.branch.parent c.args.branch.place c.requires.branch c.child_named-n.result c.child_named-n.ensures c.args.m c.requires.stray
    _ _ c.in_ok-put_record.ensures.put c.cut_place-half.result c.cut_place-half.ensures.some c.cut_place-half.ensures.less

pub halve-requires-clause-right : goal.halve-requires-clause-right
halve-requires-clause-right g c =
    right-ready g.K.Key (g.S.Nodes.nodes c.args.nodes.now) c.requires.sound c.args.branch.above c.args.branch.parent c.args.branch.place c.requires.branch c.child_named-n.result c.child_named-n.ensures c.args.m c.requires.stray
    _ _ c.in_ok-put_record.ensures.put

pub returns-clause-cut : goal.returns-clause-cut
returns-clause-cut g c =
    on-ok _ _ c.halve.result
    (λ halved. cut-by g.K.Key (g.S.Nodes.nodes c.args.nodes.now) c.requires.sound c.args.branch.above c.args.branch.parent c.args.branch.place c.requires.branch c.child_named-n.result c.child_named-n.ensures c.args.m c.requires.stray
    _ _ c.in_ok-put_record.ensures.put c.cut_place-half.result c.cut_place-half.ensures.some c.cut_place-half.ensures.less _ c.args.key.now c.args.len g.met.K.Key.total c.in_ok-entry.ensures halved
    c.cut_place-half.ensures.room)
    c.halve.ensures.halved
