use Rattle.std.proofs.Common.{◌++◌, ◌∙◌}
use Rattle.hfs_space.specs.TreeKeys.{overflow_of}
use Rattle.hfs_space.proofs.Copied.{from_least}
use Rattle.hfs_space.proofs.overflow.overflow_records.Goals as goal

pub loop-records-init : goal.loop-records-init
loop-records-init g c = (λ i. c.new-records.ensures.items i ++ c.from-walk.result) ∙ c.from-walk.ensures ∙ from_least (overflow_of (g.N.Nodes.nodes c.args.tree.now))
