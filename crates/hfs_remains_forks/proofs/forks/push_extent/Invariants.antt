-- Behind the blocks so far come those of the extent that are left, as long as more are wanted.
use Rattle.std.proofs.Common.{◌≡◌, ◌+◌, ◌-◌, ◌++◌, map, take, length}
use Rattle.std.specs.List.{range_with_len}
use Rattle.hfs_remains_forks.specs.Forks.{there}
use Rattle.hfs_remains_forks.proofs.forks.push_extent.Given as goal

abbrev pub invariant-loop-i : goal.invariant-loop-i
invariant-loop-i l =
    l.places.items ++ map (there l.total l.mdb) (take (l.wanted - length l.places.items) (range_with_len (l.extent.first + l.i) (l.extent.count - l.i)))
    ≡ l.initial.places.items ++ map (there l.total l.mdb) (take (l.wanted - length l.initial.places.items) (range_with_len l.extent.first l.extent.count))
