use Rattle.hfs_put_plan.proofs.FewCalls.{calls_are_few}
use Rattle.hfs_put_plan.proofs.laws.calls_are_few.Goals as goal

pub returns : goal.returns
returns c = calls_are_few
