use Rattle.hfs_remains_places.proofs.LawsProved.{paths_are_host_paths}
use Rattle.hfs_remains_places.proofs.laws.paths_are_host_paths.Goals as goal

pub returns : goal.returns
returns c = paths_are_host_paths
