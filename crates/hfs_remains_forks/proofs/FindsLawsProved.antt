-- Laws of this crate.
use Rattle.hfs_remains_forks.specs.Needed.{NeededFindSame}
use Rattle.hfs_remains_forks.proofs.SameFinds.{find-same}

-- What is found where no other blocks are looked at is found in all blocks that agree on the needed ones.
pub needed_find_same : NeededFindSame
needed_find_same = find-same
