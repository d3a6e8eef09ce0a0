-- The marks of the blocks so far, and the bytes in which the next one's bit stands, unless it is the first there.
use Rattle.std.proofs.Common.{◌≡◌, ◌≢◌, ◌+◌, ◌/◌, ◌%◌}
use Rattle.hfs_space.specs.Bitmap.{marks}
use Rattle.hfs_space.proofs.bitmap.Bitmap.marks.Given as goal

abbrev pub invariant-loop-block : goal.invariant-loop-block
invariant-loop-block g l = record {
  marked : l.marks.items ≡ marks (g.B.Blocks.blocks l.self.blocks.now) l.self.start l.block;
  here : l.block % 4096 ≢ 0 → l.bytes ≡ g.B.Blocks.blocks l.self.blocks.now (l.self.start + l.block / 4096);
}
