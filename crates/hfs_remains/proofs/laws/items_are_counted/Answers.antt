use Rattle.hfs_remains.proofs.LawsProved.{items_are_counted}
use Rattle.hfs_remains.proofs.laws.items_are_counted.Goals as goal

pub returns : goal.returns
returns c = items_are_counted
