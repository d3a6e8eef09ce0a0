-- The stray blocks so far are counted.
use Rattle.std.proofs.Common.{◌≡◌, ◌≤◌}
use Rattle.hfs_space.specs.Extents.{extent_blocks}
use Rattle.hfs_space.specs.Bitmap.{count_below}
use Rattle.hfs_space.specs.Owners.{is_stray_block}
use Rattle.hfs_space.proofs.space.stray_count.Given as goal

abbrev pub invariant-loop-block : goal.invariant-loop-block
invariant-loop-block g l = record {
  counted : l.strays ≡ count_below (is_stray_block (g.B.Blocks.blocks l.blocks) l.mdb (extent_blocks l.owned)) l.block;
  few : l.strays ≤ l.block;
}
