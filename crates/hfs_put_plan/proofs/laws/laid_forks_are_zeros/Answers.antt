use Rattle.hfs_put_plan.proofs.LaidZeros as zeros
use Rattle.hfs_put_plan.proofs.laws.laid_forks_are_zeros.Goals as goal

pub returns : goal.returns
returns c = zeros.laid_forks_are_zeros
