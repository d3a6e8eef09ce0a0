-- Behind the extents so far come those that are left.
use Rattle.std.proofs.Common.{◌≡◌, ◌+◌, ◌*◌, ◌≤◌, ◌++◌, length}
use Rattle.hfs_space.specs.Extents.{block_total}
use Rattle.hfs_remains.specs.OverflowRecords.{further}
use Rattle.hfs_remains.proofs.fork_extents.fork_extents.Given as goal

abbrev pub invariant-loop-most : goal.invariant-loop-most
invariant-loop-most l = record {
  makes : l.extents.items ++ further l.records l.file l.fork l.wanted l.most l.block ≡ l.first ++ further l.records l.file l.fork l.wanted 65536 (block_total l.first);
  few : length l.extents.items + 3 * l.most ≤ 196611;
}

abbrev pub decreases-loop-most : goal.decreases-loop-most
decreases-loop-most l = l.most
