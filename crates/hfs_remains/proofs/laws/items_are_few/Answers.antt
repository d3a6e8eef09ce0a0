use Rattle.hfs_remains.proofs.LawsProved.{items_are_few}
use Rattle.hfs_remains.proofs.laws.items_are_few.Goals as goal

pub returns : goal.returns
returns c = items_are_few
