use Rattle.hfs_word_rescue.proofs.LawsProved.{remains_are_found}
use Rattle.hfs_word_rescue.proofs.laws.remains_are_found.Goals as goal

pub returns : goal.returns
returns c = remains_are_found
