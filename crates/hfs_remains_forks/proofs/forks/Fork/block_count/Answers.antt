use Rattle.std.proofs.Common.{◌∙◌}
use Rattle.hfs_remains_forks.proofs.BlockLemmas.{count-fork}
use Rattle.hfs_remains_forks.proofs.forks.Fork.block_count.Goals as goal

pub returns : goal.returns
returns c = c.block_count.ensures ∙ count-fork c.args.chains.now c.args.mdb.now c.args.self.now c.blocks_for-wanted.result c.blocks_for-wanted.ensures.count
