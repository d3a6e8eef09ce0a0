-- The blocks so far are free, and no more than are wanted; and the bytes in which the next one's bit stands, unless these are to be read.
use Rattle.std.proofs.Common.{◌≡◌, ◌≢◌, ℕ, ◌+◌, ◌-◌, ◌/◌, ◌%◌, ◌<◌, ◌≤◌, false}
use Rattle.hfs_space.specs.Bitmap.{is_used}
use Rattle.hfs_space.proofs.rows.free_row.Given as goal

abbrev pub invariant-loop-block : goal.invariant-loop-block
invariant-loop-block g l = record {
  few : l.block - l.first ≤ l.wanted;
  free : (b : ℕ) → l.first ≤ b → b < l.block → is_used (g.B.Blocks.blocks l.bitmap.blocks.now) l.bitmap.start b ≡ false;
  here : l.block ≢ l.first → l.block % 4096 ≢ 0 → l.bytes ≡ g.B.Blocks.blocks l.bitmap.blocks.now (l.bitmap.start + l.block / 4096);
}
