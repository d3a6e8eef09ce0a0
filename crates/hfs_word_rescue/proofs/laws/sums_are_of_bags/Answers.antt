use Rattle.hfs_word_rescue.proofs.LawsProved.{sums_are_of_bags}
use Rattle.hfs_word_rescue.proofs.laws.sums_are_of_bags.Goals as goal

pub returns : goal.returns
returns c = sums_are_of_bags
