-- each was shown
use Rattle.hfs_texts.proofs.HostNameLemmas.{host-names}
use Rattle.hfs_texts.proofs.name_laws.host_name_laws.Goals as goal

pub returns : goal.returns
returns c = host-names
