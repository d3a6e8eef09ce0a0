-- The blocks so far are sound.
use Rattle.std.proofs.Common.{◌≡◌, ℕ, ◌<◌, true}
use Rattle.hfs_space.specs.Extents.{extent_blocks}
use Rattle.hfs_space.specs.Owners.{is_block_sound}
use Rattle.hfs_space.proofs.space.space_fault.Given as goal

abbrev pub invariant-loop-block : goal.invariant-loop-block
invariant-loop-block g l = (k : ℕ) → k < l.block → is_block_sound (g.B.Blocks.blocks l.blocks) l.mdb (extent_blocks l.owned) k ≡ true
