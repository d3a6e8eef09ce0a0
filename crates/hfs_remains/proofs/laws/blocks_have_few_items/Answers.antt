use Rattle.hfs_remains.proofs.LawsProved.{blocks_have_few_items}
use Rattle.hfs_remains.proofs.laws.blocks_have_few_items.Goals as goal

pub returns : goal.returns
returns c = blocks_have_few_items
