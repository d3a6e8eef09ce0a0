use Rattle.hfs_rescue_items.proofs.LawsProved.{folders_come_first}
use Rattle.hfs_rescue_items.proofs.laws.folders_come_first.Goals as goal

pub returns : goal.returns
returns c = folders_come_first
