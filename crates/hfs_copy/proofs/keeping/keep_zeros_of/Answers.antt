-- Block by block.
use Rattle.std.proofs.Common.{◌≡◌, ◌≢◌, ℕ}
use Rattle.hfs_source.specs.Sparse.{zero_block}
use Rattle.hfs_copy.proofs.KeptBlocks.{gained-next}
use Rattle.hfs_copy.proofs.keeping.keep_zeros_of.Goals as goal

pub loop-i-preserved : goal.loop-i-preserved
loop-i-preserved g c =
    gained-next (g.B.Blocks.blocks c.args.now.now) (λ (n : ℕ). g.B.Blocks.blocks c.args.now.now n ≡ zero_block) (λ (n : ℕ). g.B.Blocks.blocks c.args.now.now n ≢ zero_block)
    c.args.first c.loop-i.i c.args.kept.now c.loop-i.kept c.keep_zeros.new.kept c.loop-i.invariant c.in_ok-keep_zeros.ensures
