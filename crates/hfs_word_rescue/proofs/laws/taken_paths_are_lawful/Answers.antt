use Rattle.hfs_word_rescue.proofs.LawsProved.{taken_paths_are_lawful}
use Rattle.hfs_word_rescue.proofs.laws.taken_paths_are_lawful.Goals as goal

pub returns : goal.returns
returns c = taken_paths_are_lawful
