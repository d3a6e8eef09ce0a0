use Rattle.hfs_rescue_items.proofs.LawsProved.{plans_count_items}
use Rattle.hfs_rescue_items.proofs.laws.plans_count_items.Goals as goal

pub returns : goal.returns
returns c = plans_count_items
