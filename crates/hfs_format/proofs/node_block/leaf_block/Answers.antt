use Rattle.hfs_format.proofs.Laid.{leaf-bytes}
use Rattle.hfs_format.proofs.node_block.leaf_block.Goals as goal

pub returns : goal.returns
returns c = let laid = leaf-bytes c.args.first.now c.args.second.now in let first = c.len-second_start.ensures in let second = c.len.ensures in cc
