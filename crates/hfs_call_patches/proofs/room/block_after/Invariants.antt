-- The block after the extents so far, where those to come have none.
use Rattle.std.proofs.Common.{◌≡◌, ◌≤◌, length, drop}
use Rattle.std.specs.Option.{option_or}
use Rattle.hfs_call_patches.specs.Room.{block_after}
use Rattle.hfs_call_patches.proofs.room.block_after.Given as goal

abbrev pub invariant-loop-i : goal.invariant-loop-i
invariant-loop-i l = record {
  few : l.i ≤ length l.extents;
  whole : option_or (block_after (drop l.i l.extents)) l.after ≡ block_after l.extents;
}
