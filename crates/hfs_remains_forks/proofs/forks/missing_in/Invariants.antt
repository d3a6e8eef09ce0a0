-- What is missing so far, and what is missing of the blocks that are left.
use Rattle.std.proofs.Common.{◌≡◌, ◌+◌, ◌≤◌, drop}
use Rattle.hfs_remains_forks.specs.Forks.{missing_in}
use Rattle.hfs_remains_forks.proofs.forks.missing_in.Given as goal

abbrev pub invariant-loop-place : goal.invariant-loop-place
invariant-loop-place l = record {
  makes : l.missing + missing_in l.mdb.allocation_block_size l.left (drop l.place-index l.places) ≡ missing_in l.mdb.allocation_block_size l.length l.places;
  few : l.missing + l.left ≤ l.length;
}
