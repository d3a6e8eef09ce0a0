-- Block after block.
use Rattle.std.proofs.Common.{arith}
use Rattle.hfs_put.proofs.BesideRuns.{beside-first, beside-next, beside-all}
use Rattle.hfs_put.proofs.beside.changed_beside.Goals as goal

pub loop-n-init : goal.loop-n-init
loop-n-init g c = beside-first c.args.runs.now c.args.now.now.changed.now (g.B.Blocks.blocks c.args.now.now.below.now) c.new-kept.result c.new-kept.ensures

pub loop-n-preserved : goal.loop-n-preserved
loop-n-preserved g c =
    beside-next c.args.runs.now c.args.now.now.changed.now (g.B.Blocks.blocks c.args.now.now.below.now) c.loop-n.n c.loop-n.kept c.keep_block.new.kept c.loop-n.invariant
    c.in_ok-keep_block.ensures

pub returns : goal.returns
returns g c =
    beside-all c.args.runs.now c.args.now.now.changed.now (g.B.Blocks.blocks c.args.now.now.below.now) _ c.loop-n.n c.loop-n.kept (omega arith) c.loop-n.invariant
