use Rattle.hfs_remains_forks.proofs.RemainsLawsProved.{sound_are_things}
use Rattle.hfs_remains_forks.proofs.remains_laws.sound_are_things.Goals as goal

pub returns : goal.returns
returns c = sound_are_things
