use Rattle.hfs_remains_forks.proofs.RemainsLawsProved.{sound_things_are_items}
use Rattle.hfs_remains_forks.proofs.remains_laws.sound_things_are_items.Goals as goal

pub returns : goal.returns
returns c = sound_things_are_items
