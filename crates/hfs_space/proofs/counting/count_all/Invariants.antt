-- The kept blocks were counted, and those of zeros before this one.
use Rattle.std.proofs.Common.{◌≡◌, length}
use Rattle.hfs_blocks.specs.Layers.{numbers}
use Rattle.hfs_space.specs.Changed.{blocks_below}
use Rattle.hfs_space.proofs.counting.count_all.Given as goal

abbrev pub invariant-loop-n : goal.invariant-loop-n
invariant-loop-n l = l.count ≡ length (numbers (blocks_below l.kept l.flags l.n))
