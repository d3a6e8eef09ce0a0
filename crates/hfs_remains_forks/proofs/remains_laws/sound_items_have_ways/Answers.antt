use Rattle.hfs_remains_forks.proofs.RemainsLawsProved.{sound_items_have_ways}
use Rattle.hfs_remains_forks.proofs.remains_laws.sound_items_have_ways.Goals as goal

pub returns : goal.returns
returns c = sound_items_have_ways
