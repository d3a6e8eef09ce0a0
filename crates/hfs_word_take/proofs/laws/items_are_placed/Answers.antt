use Rattle.hfs_word_take.proofs.LawsProved.{items_are_placed}
use Rattle.hfs_word_take.proofs.laws.items_are_placed.Goals as goal

pub returns : goal.returns
returns c = items_are_placed
