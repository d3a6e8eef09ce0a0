use Rattle.hfs_word_take.proofs.LawsProved.{bag_paths_are_told}
use Rattle.hfs_word_take.proofs.laws.bag_paths_are_told.Goals as goal

pub returns : goal.returns
returns c = bag_paths_are_told
