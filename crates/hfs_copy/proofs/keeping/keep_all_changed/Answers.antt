-- Block by block.
use Rattle.std.proofs.Common.{◌≡◌, ◌≢◌, ℕ}
use Rattle.hfs_blocks.specs.Layers.{changes, over}
use Rattle.hfs_copy.proofs.KeptBlocks.{gained-first}
use Rattle.hfs_copy.proofs.keeping.keep_all_changed.Goals as goal

pub loop-n-preserved : goal.loop-n-preserved
loop-n-preserved g c =
    let below = g.B.Blocks.blocks c.args.now.now.below.now in
    let new = over (changes c.args.now.now.changed.now) below in
    gained-first new (λ (n : ℕ). new n ≢ below n) (λ (n : ℕ). new n ≡ below n) c.loop-n.n c.args.kept.now c.loop-n.kept c.keep_changed.new.kept c.loop-n.invariant
    c.in_ok-keep_changed.ensures
