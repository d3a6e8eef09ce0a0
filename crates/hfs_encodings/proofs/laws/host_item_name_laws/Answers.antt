-- each was shown
use Rattle.hfs_encodings.proofs.HostNamesRead.{host-names-read}
use Rattle.hfs_encodings.proofs.laws.host_item_name_laws.Goals as goal

pub returns : goal.returns
returns c = host-names-read
