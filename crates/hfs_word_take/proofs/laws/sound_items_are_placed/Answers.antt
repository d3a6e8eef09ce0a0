use Rattle.hfs_word_take.proofs.LawsProved.{sound_items_are_placed}
use Rattle.hfs_word_take.proofs.laws.sound_items_are_placed.Goals as goal

pub returns : goal.returns
returns c = sound_items_are_placed
