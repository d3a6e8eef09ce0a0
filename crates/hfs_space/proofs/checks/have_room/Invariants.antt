-- What the blocks of the extents so far have no room for is left.
use Rattle.std.proofs.Common.{◌≡◌, ◌-◌, ◌*◌, take}
use Rattle.hfs_space.specs.Extents.{block_total}
use Rattle.hfs_space.proofs.checks.have_room.Given as goal

abbrev pub invariant-loop-extent : goal.invariant-loop-extent
invariant-loop-extent l = l.rest ≡ l.bytes - block_total (take l.extent-index l.extents) * l.mdb.allocation_block_size
