use Rattle.hfs_word_take.proofs.LawsProved.{paths_are_printed_back}
use Rattle.hfs_word_take.proofs.laws.paths_are_printed_back.Goals as goal

pub returns : goal.returns
returns c = paths_are_printed_back
