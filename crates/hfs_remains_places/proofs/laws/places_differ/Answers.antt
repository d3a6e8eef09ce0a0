use Rattle.hfs_remains_places.proofs.LawsProved.{places_differ}
use Rattle.hfs_remains_places.proofs.laws.places_differ.Goals as goal

pub returns : goal.returns
returns c = places_differ
