use Rattle.hfs_put_plan.proofs.NewItems.{new_items_are_named}
use Rattle.hfs_put_plan.proofs.laws.new_items_are_named.Goals as goal

pub returns : goal.returns
returns c = new_items_are_named
