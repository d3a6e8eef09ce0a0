use Rattle.hfs_remains_forks.proofs.RemainsLawsProved.{found_are_things}
use Rattle.hfs_remains_forks.proofs.remains_laws.found_are_things.Goals as goal

pub returns : goal.returns
returns c = found_are_things
