-- the files that were counted and those of the rest are all; there are no more of them than items
use Rattle.std.proofs.Common.{◌≡◌, ◌≤◌, ◌+◌, length}
use Rattle.hfs_bag.specs.Bags.{files_told}
use Rattle.hfs_bag.proofs.sums.count_files.Given as goal

abbrev pub invariant-loop-rest : goal.invariant-loop-rest
invariant-loop-rest l = (l.files + files_told l.rest ≡ files_told l.fn.digests) × (l.files + length l.rest ≤ length l.fn.digests)

abbrev pub decreases-loop-rest : goal.decreases-loop-rest
decreases-loop-rest l = length l.rest
