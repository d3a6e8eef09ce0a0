use Rattle.hfs_check.proofs.Stays.{bytes_stay_but}
use Rattle.hfs_check.proofs.laws.bytes_stay_but.Goals as goal

pub returns : goal.returns
returns c = bytes_stay_but
