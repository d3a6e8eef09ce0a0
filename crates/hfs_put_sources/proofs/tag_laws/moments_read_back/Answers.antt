-- each was shown
use Rattle.hfs_put_sources.proofs.MomentsRead.{moments-read}
use Rattle.hfs_put_sources.proofs.tag_laws.moments_read_back.Goals as goal

pub returns : goal.returns
returns c = moments-read
