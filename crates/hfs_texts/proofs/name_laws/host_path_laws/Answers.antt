-- each was shown
use Rattle.hfs_texts.proofs.HostPathLemmas.{host-paths}
use Rattle.hfs_texts.proofs.name_laws.host_path_laws.Goals as goal

pub returns : goal.returns
returns c = host-paths
