use Rattle.hfs_catalog.proofs.Reach.{reaches_soon}
use Rattle.hfs_catalog.proofs.laws.reaches_soon.Goals as goal

pub returns : goal.returns
returns c = reaches_soon
