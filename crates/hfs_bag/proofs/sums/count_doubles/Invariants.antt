-- the AppleDouble files that were counted and those of the rest are all; there are no more of them than items
use Rattle.std.proofs.Common.{◌≡◌, ◌≤◌, ◌+◌, length}
use Rattle.hfs_bag.specs.Bags.{doubles_told}
use Rattle.hfs_bag.proofs.sums.count_doubles.Given as goal

abbrev pub invariant-loop-rest : goal.invariant-loop-rest
invariant-loop-rest l = (l.doubles + doubles_told l.rest ≡ doubles_told l.fn.digests) × (l.doubles + length l.rest ≤ length l.fn.digests)

abbrev pub decreases-loop-rest : goal.decreases-loop-rest
decreases-loop-rest l = length l.rest
