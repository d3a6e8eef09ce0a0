use Rattle.hfs_check.proofs.Stays.{bytes_stay}
use Rattle.hfs_check.proofs.laws.bytes_stay.Goals as goal

pub returns : goal.returns
returns c = bytes_stay
