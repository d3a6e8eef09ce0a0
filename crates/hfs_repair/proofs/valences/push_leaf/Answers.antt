use Rattle.std.proofs.Common.{arith}
use Rattle.hfs_catalog.specs.Indexes.{count_of}
use Rattle.hfs_repair.proofs.Pushed.{leaf-step}
use Rattle.hfs_repair.proofs.valences.push_leaf.Goals as goal

pub loop-i-preserved : goal.loop-i-preserved
loop-i-preserved c =
    let lt = c.loop-i-test.true in
    leaf-step (count_of c.args.children.now) c.args.start c.args.bytes.now c.in-Ok.node.records c.loop-i.i _ _ _ _ _ c.u16_at-offset.ensures c.record.ensures.bytes (omega arith) c.in_ok-push_valence.ensures c.loop-i.invariant
