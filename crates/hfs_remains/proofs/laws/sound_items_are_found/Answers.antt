use Rattle.hfs_remains.proofs.LawsProved.{sound_items_are_found}
use Rattle.hfs_remains.proofs.laws.sound_items_are_found.Goals as goal

pub returns : goal.returns
returns c = sound_items_are_found
