-- each was shown
use Rattle.hfs_shared.proofs.SharedLawsProved.{agrees_where_none_writes}
use Rattle.hfs_shared.proofs.laws.unwritten_fork_laws.Goals as goal

pub returns : goal.returns
returns c = agrees_where_none_writes
