use Rattle.hfs_remains_places.proofs.LawsProved.{paths_are_short}
use Rattle.hfs_remains_places.proofs.laws.paths_are_short.Goals as goal

pub returns : goal.returns
returns c = paths_are_short
