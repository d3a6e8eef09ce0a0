use Rattle.hfs_word_rescue.proofs.LawsProved.{rescued_paths_are_lawful}
use Rattle.hfs_word_rescue.proofs.laws.rescued_paths_are_lawful.Goals as goal

pub returns : goal.returns
returns c = rescued_paths_are_lawful
