use Rattle.hfs_word_take.proofs.LawsProved.{sound_paths_are_told}
use Rattle.hfs_word_take.proofs.laws.sound_paths_are_told.Goals as goal

pub returns : goal.returns
returns c = sound_paths_are_told
