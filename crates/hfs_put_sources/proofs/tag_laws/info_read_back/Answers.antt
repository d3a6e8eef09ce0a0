-- each was shown
use Rattle.hfs_put_sources.proofs.TagsRead.{name-back}
use Rattle.hfs_put_sources.proofs.tag_laws.info_read_back.Goals as goal

pub returns : goal.returns
returns c = name-back
