use Rattle.hfs_remains_forks.proofs.RemainsLawsProved.{sound_paths_are_host_paths}
use Rattle.hfs_remains_forks.proofs.remains_laws.sound_paths_are_host_paths.Goals as goal

pub returns : goal.returns
returns c = sound_paths_are_host_paths
