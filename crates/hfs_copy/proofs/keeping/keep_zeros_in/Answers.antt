-- Run by run.
use Rattle.std.proofs.Common.{◌≡◌, ◌≢◌, ℕ}
use Rattle.hfs_blocks.specs.declared.run.Run.{Run}
use Rattle.hfs_source.specs.Sparse.{zero_block}
use Rattle.hfs_copy.proofs.KeptBlocks.{gained-run}
use Rattle.hfs_copy.proofs.keeping.keep_zeros_in.Goals as goal

-- what a list answers behind its end
abbrev none : Run
none = record { first = 0; count = 0; before = 0 }

pub loop-run-preserved : goal.loop-run-preserved
loop-run-preserved g c =
    gained-run (g.B.Blocks.blocks c.args.now.now) (λ (n : ℕ). g.B.Blocks.blocks c.args.now.now n ≡ zero_block) (λ (n : ℕ). g.B.Blocks.blocks c.args.now.now n ≢ zero_block)
    c.args.runs.now c.loop-run.run-index none c.loop-run-test.true c.args.kept.now c.loop-run.kept c.keep_zeros_of.new.kept c.loop-run.invariant c.in_ok-keep_zeros_of.ensures
