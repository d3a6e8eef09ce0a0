use Rattle.hfs_remains_forks.proofs.FindsLawsProved.{needed_find_same}
use Rattle.hfs_remains_forks.proofs.finds_laws.needed_find_same.Goals as goal

pub returns : goal.returns
returns c = needed_find_same
