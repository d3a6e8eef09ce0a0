use Rattle.hfs_remains_places.proofs.LawsProved.{folders_are_things}
use Rattle.hfs_remains_places.proofs.laws.folders_are_things.Goals as goal

pub returns : goal.returns
returns c = folders_are_things
