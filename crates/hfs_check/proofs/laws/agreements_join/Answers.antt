use Rattle.hfs_check.proofs.Stays.{agreements_join}
use Rattle.hfs_check.proofs.laws.agreements_join.Goals as goal

pub returns : goal.returns
returns c = agreements_join
