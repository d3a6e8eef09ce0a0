-- By the items of the list.
use Rattle.hfs_put_sources.proofs.WalkLemmas.{walks-parted}
use Rattle.hfs_put_sources.proofs.walking_laws.walk_laws.Goals as goal

pub returns : goal.returns
returns c = λ host told how place firsts others items w. walks-parted told how host items place firsts others w
