use Rattle.hfs_remains_places.proofs.LawsProved.{paths_tell_names}
use Rattle.hfs_remains_places.proofs.laws.paths_tell_names.Goals as goal

pub returns : goal.returns
returns c = paths_tell_names
