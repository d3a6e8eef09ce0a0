use Rattle.hfs_bag.proofs.PathLemmas.{bag_paths}
use Rattle.hfs_bag.proofs.laws.bag_path_laws.Goals as goal

pub returns : goal.returns
returns c = bag_paths
