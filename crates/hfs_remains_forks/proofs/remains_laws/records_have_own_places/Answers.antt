use Rattle.hfs_remains_forks.proofs.RemainsLawsProved.{records_have_own_places}
use Rattle.hfs_remains_forks.proofs.remains_laws.records_have_own_places.Goals as goal

pub returns : goal.returns
returns c = records_have_own_places
