-- The bytes behind the place are those behind the offset.
use Rattle.std.proofs.Common.{◌≡◌, ◌-◌, length, drop}
use Rattle.hfs_space.specs.ForkLengths.{all_bytes}
use Rattle.hfs_volume.proofs.extent_bytes.read_extents.Given as goal

abbrev pub invariant-loop-place : goal.invariant-loop-place
invariant-loop-place g l =
    drop l.place.passed (all_bytes (g.B.Blocks.blocks l.blocks) l.mdb (drop l.place.extent l.extents)) ≡ drop l.offset (all_bytes (g.B.Blocks.blocks l.blocks) l.mdb l.extents)

abbrev pub decreases-loop-place : goal.decreases-loop-place
decreases-loop-place g l = length l.extents - l.place.extent
