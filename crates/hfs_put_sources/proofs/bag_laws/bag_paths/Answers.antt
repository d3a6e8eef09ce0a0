-- Source by source.
use Rattle.hfs_put_sources.proofs.PathLaws.{paths_of_walk}
use Rattle.hfs_put_sources.proofs.bag_laws.bag_paths.Goals as goal

pub returns : goal.returns
returns c = paths_of_walk
