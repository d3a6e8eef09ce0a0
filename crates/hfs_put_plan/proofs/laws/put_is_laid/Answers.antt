use Rattle.hfs_put_plan.proofs.PutLists as lists
use Rattle.hfs_put_plan.proofs.laws.put_is_laid.Goals as goal

pub returns : goal.returns
returns c = lists.put_is_laid
