use Rattle.hfs_remains_forks.proofs.RemainsLawsProved.{forks_are_their_blocks}
use Rattle.hfs_remains_forks.proofs.remains_laws.forks_are_their_blocks.Goals as goal

pub returns : goal.returns
returns c = forks_are_their_blocks
