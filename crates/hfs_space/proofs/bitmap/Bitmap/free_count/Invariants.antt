-- The clear bits of the blocks so far are counted.
use Rattle.std.proofs.Common.{◌≡◌, ◌*◌, ◌≤◌}
use Rattle.std.specs.Prelude.{min}
use Rattle.hfs_space.specs.Bitmap.{clear_count}
use Rattle.hfs_space.proofs.bitmap.Bitmap.free_count.Given as goal

abbrev pub invariant-loop-i : goal.invariant-loop-i
invariant-loop-i g l = record {
  counted : l.free ≡ clear_count (g.B.Blocks.blocks l.self.blocks.now) l.self.start (min l.count (4096 * l.i));
  few : l.free ≤ 4096 * l.i;
}
