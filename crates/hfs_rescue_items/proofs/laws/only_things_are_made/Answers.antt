use Rattle.hfs_rescue_items.proofs.LawsProved.{only_things_are_made}
use Rattle.hfs_rescue_items.proofs.laws.only_things_are_made.Goals as goal

pub returns : goal.returns
returns c = only_things_are_made
