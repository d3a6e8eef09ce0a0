-- each was shown
use Rattle.hfs_put_sources.proofs.TagsRead.{digest-back}
use Rattle.hfs_put_sources.proofs.tag_laws.manifest_read_back.Goals as goal

pub returns : goal.returns
returns c = digest-back
