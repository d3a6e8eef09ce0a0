use Rattle.hfs_remains.proofs.LawsProved.{records_are_read}
use Rattle.hfs_remains.proofs.laws.records_are_read.Goals as goal

pub returns : goal.returns
returns c = records_are_read
