-- Behind the extents so far come those that are left.
use Rattle.std.proofs.Common.{◌≡◌, ◌^◌, ◌<◌, ◌++◌}
use Rattle.hfs_space.specs.Extents.{block_total}
use Rattle.hfs_remains.specs.OverflowRecords.{further}
use Rattle.hfs_remains_forks.proofs.chains.extents_of.Given as goal

abbrev pub invariant-loop-most : goal.invariant-loop-most
invariant-loop-most l = record {
  makes : l.extents.items ++ further l.chains l.file l.fork l.wanted l.most l.block ≡ l.first ++ further l.chains l.file l.fork l.wanted 65536 (block_total l.first);
  few : l.block < 2 ^ 24;
}

abbrev pub decreases-loop-most : goal.decreases-loop-most
decreases-loop-most l = l.most
