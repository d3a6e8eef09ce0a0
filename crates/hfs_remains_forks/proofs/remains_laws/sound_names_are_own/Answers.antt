use Rattle.hfs_remains_forks.proofs.RemainsLawsProved.{sound_names_are_own}
use Rattle.hfs_remains_forks.proofs.remains_laws.sound_names_are_own.Goals as goal

pub returns : goal.returns
returns c = sound_names_are_own
