-- the uses of the blocks so far
use Rattle.std.proofs.Common.{◌≡◌, map}
use Rattle.std.specs.List.{range_with_len}
use Rattle.hfs_space.specs.Bitmap.{is_used}
use Rattle.hfs_page.specs.Uses.{unowned}
use Rattle.hfs_page.proofs.uses.marked_uses.Given as goal

abbrev pub invariant-loop-block : goal.invariant-loop-block
invariant-loop-block g l = l.uses.items ≡ map (λ block. unowned (is_used (g.B.Blocks.blocks l.bitmap.blocks.now) l.bitmap.start block)) (range_with_len 0 l.block)
