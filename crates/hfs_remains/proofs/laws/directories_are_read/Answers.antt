use Rattle.hfs_remains.proofs.LawsProved.{directories_are_read}
use Rattle.hfs_remains.proofs.laws.directories_are_read.Goals as goal

pub returns : goal.returns
returns c = directories_are_read
