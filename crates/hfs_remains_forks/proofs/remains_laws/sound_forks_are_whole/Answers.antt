use Rattle.hfs_remains_forks.proofs.RemainsLawsProved.{sound_forks_are_whole}
use Rattle.hfs_remains_forks.proofs.remains_laws.sound_forks_are_whole.Goals as goal

pub returns : goal.returns
returns c = sound_forks_are_whole
