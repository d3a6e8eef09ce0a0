-- Behind the blocks so far come those of the extents that are left, as long as more are wanted.
use Rattle.std.proofs.Common.{◌≡◌, ◌-◌, ◌++◌, map, take, drop, length}
use Rattle.hfs_space.specs.Extents.{extent_blocks}
use Rattle.hfs_remains_forks.specs.Forks.{there}
use Rattle.hfs_remains_forks.proofs.forks.places_in.Given as goal

abbrev pub invariant-loop-extent : goal.invariant-loop-extent
invariant-loop-extent l =
    l.places.items ++ map (there l.total l.mdb) (take (l.wanted - length l.places.items) (extent_blocks (drop l.extent-index l.extents)))
    ≡ map (there l.total l.mdb) (take l.wanted (extent_blocks l.extents))
