use Rattle.hfs_put_plan.proofs.OwnForks as own
use Rattle.hfs_put_plan.proofs.laws.forks_are_theirs.Goals as goal

pub returns : goal.returns
returns c = own.forks_are_theirs
